-- A machine at its opening: how many processors it has, which every line of its script names.
use Rattle.std.proofs.Common.{◌≡◌, ℕ, zero, suc, ◌<◌, true, ◌&&◌, List, [], ◌∷◌, length, get_or, ap, refl, sym, subst, arith}
use Rattle.std.specs.Prelude.{nat_lt, nat_le}
use Rattle.std.specs.List.{list_all}
use Rattle.std.proofs.lemmas.Bool.{and_parts, and_from}
use Rattle.ev_isa.specs.declared.mode.Mode.{Mode}
use Rattle.ev_body.specs.declared.key.Key.{Key}
use Rattle.ev_body.specs.declared.image.Image.{Image}
use Rattle.ev_body.specs.WellFormed.{is_sendable}
use Rattle.ev_abstract.specs.Script.{is_line, IsScript, has_body_of}
use Rattle.ev_abstract.specs.declared.script_line.Line.{Line}
use Rattle.ev_abstract.specs.declared.script_line.Line.TheVariants.{Turn, Edge, Arrive, Accept}
use Rattle.ev_trace.specs.FrameText.{Totals}
use Rattle.ev_concrete.specs.ConcreteRun.{opening_system}
use Rattle.ev_core.specs.Run.{MachineView, IsRun}
use Rattle.ev_pair.specs.Within.{is_within}

-- a line that follows names a processor of the image
line_within : (image : Image) (l : Line) → is_line image l ≡ true → is_within image.processors l ≡ true
unfolding is_line
line_within image (Turn p) h = h
line_within image (Edge p n) h =
    (and_parts (nat_lt p image.processors) (nat_le 1 n) (and_parts (nat_lt p image.processors && nat_le 1 n) (nat_le n 4096) h).0).0
line_within image (Arrive p key) h =
    (and_parts (nat_lt p image.processors) (is_sendable key) (and_parts (nat_lt p image.processors && is_sendable key) (has_body_of image key) h).0).0
line_within image (Accept p) h = h

all_within : (image : Image) (ls : List Line) → list_all (is_line image) ls ≡ true → list_all (is_within image.processors) ls ≡ true
all_within image [] h = refl
all_within image (l ∷ ls) h = let p = and_parts (is_line image l) (list_all (is_line image) ls) h in
    and_from (is_within image.processors l) (list_all (is_within image.processors) ls) (line_within image l p.0) (all_within image ls p.1)

-- what it is for an arrival to follow
pub arrival_line : (image : Image) (p : ℕ) (key : Key) → is_line image (Arrive p key) ≡ true
    → (is_sendable key ≡ true) × (has_body_of image key ≡ true)
unfolding is_line
arrival_line image p key h =
    let parts = and_parts (nat_lt p image.processors && is_sendable key) (has_body_of image key) h in
    ((and_parts (nat_lt p image.processors) (is_sendable key) parts.0).1, parts.1)

-- a line of a script follows
pub script_line : (image : Image) (ls : List Line) (i : ℕ) (d : Line) → IsScript image ls → i < length ls → is_line image (get_or ls i d) ≡ true
script_line image [] i d h lt = absurd (omega arith)
script_line image (l ∷ ls) zero d h lt = (and_parts (is_line image l) (list_all (is_line image) ls) h).0
script_line image (l ∷ ls) (suc i) d h lt = script_line image ls i d (and_parts (is_line image l) (list_all (is_line image) ls) h).1 (omega arith)

pub line_at : (n : ℕ) (ls : List Line) (i : ℕ) (d : Line) → list_all (is_within n) ls ≡ true → i < length ls → is_within n (get_or ls i d) ≡ true
line_at n [] i d h lt = absurd (omega arith)
line_at n (l ∷ ls) zero d h lt = (and_parts (is_within n l) (list_all (is_within n) ls) h).0
line_at n (l ∷ ls) (suc i) d h lt = line_at n ls i d (and_parts (is_within n l) (list_all (is_within n) ls) h).1 (omega arith)

module _ (mode : Mode) (image : Image) (v : MachineView) (r : IsRun mode image [] v) where
  pub few_processors : length v.parts.cpus < 256
  few_processors = let n = r.at.shows.processors in let few = r.can.image_is.count.1 in omega arith

  pub lines_within : (script : List Line) → IsScript image script → list_all (is_within (length v.parts.cpus)) script ≡ true
  lines_within script is = subst (λ n. list_all (is_within n) script ≡ true) (sym r.at.shows.processors) (all_within image script is)

  pub no_steps : v.parts.totals.steps ≡ 0
  unfolding opening_system
  no_steps = ap (λ (t : Totals). t.steps) r.at.shows.totals
