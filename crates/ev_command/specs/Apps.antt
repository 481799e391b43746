-- A command's options, as `clap` has them. Own.
use Rattle.std.specs.Prelude.{◌≡◌, ◌⊎◌, Bool, true, false, List, [], ◌∷◌, Some, codes, map}
use Rattle.std.specs.List.{list_any}
use Rattle.std.specs.Str.{bytes_eq}
use Rattle.clap.specs.Walk.{Row, Rule}
use Rattle.clap.specs.Simple.{App, matches_of, new_rule, new_shape}
use Rattle.clap.specs.Faults.{fault_of}
use Rattle.clap.specs.declared.builder.action.ArgAction.TheVariants.{Set, SetTrue}
use Rattle.ev_command.specs.Uses.{Text}

-- the options of a command: their names, and whether they take a value
abbrev pub Table : Type 0
Table = List (Text × Bool)

-- those of `run`
abbrev pub mode_and_frames : Table
mode_and_frames = (codes "mode", true) ∷ (codes "frames", false) ∷ []

-- those of `gen`
abbrev pub seed_and_count : Table
seed_and_count = (codes "seed", true) ∷ (codes "count", true) ∷ []

-- those of `threads`
abbrev pub mode_and_turns : Table
mode_and_turns = (codes "mode", true) ∷ (codes "turns", true) ∷ []

-- what clap knows of an option
abbrev pub asked_rule : Text → Bool → Rule
asked_rule n true = record (new_rule n) { long = Some n; action = Some Set }
asked_rule n false = record (new_rule n) { long = Some n; action = Some SetTrue }

-- what clap knows of a command with these options, whose words are all its own
abbrev pub asked : Table → App
asked t = record {
  top = record (new_shape (codes "fredbox")) {
    rules = map (λ p. asked_rule p.0 p.1) t;
    no_binary_name = true;
    disable_help_flag = true;
    disable_version_flag = true;
  };
  subs = [];
}

-- whether one of the words is `--`
abbrev pub has_dashes : List Text → Bool
has_dashes ws = list_any (λ w. bytes_eq w (45 ∷ 45 ∷ [])) ws

-- whether clap, or the test before it, refuses the words; and whether it takes them with these matches
abbrev pub IsRefusedBy : App → List Text → Type 0
IsRefusedBy app ws = (has_dashes ws ≡ true) ⊎ (fault_of app ws ≡ [] → ⊥)

abbrev pub IsTakenBy : App → List Text → List Row → Type 0
IsTakenBy app ws rows = (has_dashes ws ≡ false) × (fault_of app ws ≡ []) × (rows ≡ matches_of app ws)
