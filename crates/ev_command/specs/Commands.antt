-- The words that say a command. Own.
use Rattle.std.specs.Prelude.{◌≡◌, ◌↔◌, ◌≤◌, ◌<◌, ◌^◌, ℕ, Bool, true, false, List, [], ◌∷◌, ◌++◌, Option, Some, None, codes, decimal, flat_map, map, option_map, if◌then◌else◌}
use Rattle.std.specs.Str.{bytes_eq}
use Rattle.ev_isa.specs.declared.mode.Mode.{Mode}
use Rattle.ev_isa.specs.declared.mode.Mode.TheVariants.{Idt, Fred}
use Rattle.ev_command.specs.declared.command.Command.{Command}
use Rattle.ev_command.specs.declared.command.Command.TheVariants.{Run, Asm, Check, Probe, Gen, Threads}
use Rattle.ev_command.specs.Uses.{AreOptions, Given, Text, Use, given_by, words_of}

-- a command's first word
abbrev pub first_word : Command → Text
first_word (Run mode frames) = codes "run"
first_word Asm = codes "asm"
first_word Check = codes "check"
first_word Probe = codes "probe"
first_word (Gen seed count) = codes "gen"
first_word (Threads mode turns) = codes "threads"

-- a mode's word
abbrev pub mode_word : Mode → Text
mode_word Idt = codes "idt"
mode_word Fred = codes "fred"

-- the option of one mode, and that of frames
abbrev pub mode_options : Option Mode → List Given
mode_options None = []
mode_options (Some mode) = (codes "mode", Some (mode_word mode)) ∷ []

abbrev pub frames_options : Bool → List Given
frames_options false = []
frames_options true = (codes "frames", None) ∷ []

-- a command's options: numbers are decimal digits with no sign and no leading zero
abbrev pub options_of : Command → List Given
options_of (Run mode frames) = mode_options mode ++ frames_options frames
options_of (Gen seed count) =
    (codes "seed", Some (decimal seed)) ∷ (codes "count", Some (decimal count)) ∷ []
options_of (Threads mode turns) =
    (codes "mode", Some (mode_word mode)) ∷ (codes "turns", Some (decimal turns)) ∷ []
options_of _ = []

-- the numbers are in their ranges
abbrev pub IsCounted : Command → Type 0
IsCounted (Gen seed count) = (seed < 2 ^ 64) × (1 ≤ count) × (count ≤ 200000)
IsCounted (Threads mode turns) = (1 ≤ turns) × (turns ≤ 10000)
IsCounted _ = Unit {0}

-- the words behind the first give the command's options: in any order, each once, each written as
-- two words or with `=`
abbrev pub Gives : List Text → Command → Type 0
Gives ws c = (uses : List Use) × (ws ≡ flat_map words_of uses) × AreOptions (map given_by uses) (options_of c)

-- the words say the command
abbrev pub Says : List Text → Command → Type 0
Says ws c = (rest : List Text) × (ws ≡ first_word c ∷ rest) × Gives rest c × IsCounted c

-- whether the program has the command today; the words of the others say none
abbrev pub is_built : Command → Bool
is_built (Run mode frames) = true
is_built Asm = true
is_built Check = true
is_built Probe = true
is_built _ = false

abbrev pub IsBuilt : Command → Type 0
IsBuilt c = is_built c ≡ true

-- the answer is a command exactly where it is such a one
abbrev pub IsExactly : (Command → Type 0) → Option Command → Type 0
IsExactly Is answer = (c : Command) → answer ≡ Some c ↔ Is c

-- what the words behind a first word say
abbrev pub SaysBehind : Text → List Text → Command → Type 0
SaysBehind word ws c = (first_word c ≡ word) × Gives ws c × IsCounted c

-- the mode that a word names
abbrev pub mode_by : Text → Option Mode
mode_by w =
    if bytes_eq w (codes "idt") then Some Idt else (if bytes_eq w (codes "fred") then Some Fred else None)

-- `run` with this value of `--mode`, if any
abbrev pub run_from : Option Text → Bool → Option Command
run_from None frames = Some (Run None frames)
run_from (Some w) frames = option_map (λ m. Run (Some m) frames) (mode_by w)

-- the command is `gen`, or `threads`, with these values of its options
abbrev pub IsGen : Option Text → Option Text → Command → Type 0
IsGen s n c = (seed : ℕ) × (count : ℕ) × (s ≡ Some (decimal seed)) × (n ≡ Some (decimal count))
    × (c ≡ Gen seed count) × IsCounted (Gen seed count)

abbrev pub IsThreads : Option Text → Option Text → Command → Type 0
IsThreads m n c = (mode : Mode) × (turns : ℕ) × (m ≡ Some (mode_word mode)) × (n ≡ Some (decimal turns))
    × (c ≡ Threads mode turns) × IsCounted (Threads mode turns)

-- `gen`, or `threads`, with these values where both are there
abbrev pub gen_by : Option ℕ → Option ℕ → Option Command
gen_by (Some seed) (Some count) = Some (Gen seed count)
gen_by (Some seed) None = None
gen_by None count = None

abbrev pub threads_by : Option Mode → Option ℕ → Option Command
threads_by (Some mode) (Some turns) = Some (Threads mode turns)
threads_by (Some mode) None = None
threads_by None turns = None
