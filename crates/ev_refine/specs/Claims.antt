-- What is proved of the machines, as the contract of this crate states it.
use Rattle.std.specs.Prelude.{◌≡◌, ◌≢◌, ℕ, ◌^◌, ◌<◌, ◌≤◌, true, false, List, length}
use Rattle.std.specs.List.{list_all}
use Rattle.ev_isa.specs.Word.{NatMap, numbers_from}
use Rattle.ev_isa.specs.declared.mode.Mode.{Mode}
use Rattle.ev_body.specs.declared.image.Image.{Image}
use Rattle.ev_body.specs.WellFormed.{IsImage}
use Rattle.ev_abstract.specs.Machine.{Machine, opening}
use Rattle.ev_abstract.specs.Run.{turn, run}
use Rattle.ev_abstract.specs.Script.{IsScript}
use Rattle.ev_abstract.specs.declared.script_line.Line.{Line}
use Rattle.ev_concrete.specs.ConcreteRun.{System, marks_of, is_visible, concrete_step, edges, settled, concrete_turn, all_settled, opening_system, concrete_run}
use Rattle.ev_concrete.specs.Depth.{bodies_on, told_bodies}
use Rattle.ev_concrete.specs.LiveWords.{IsSafeStep}
use Rattle.ev_built.specs.Built.{IsBuilt, line_is_built}
use Rattle.ev_relation.specs.Relation.{Stands}
use Rattle.ev_relation.specs.Step.{Simulated}
use Rattle.ev_concrete.specs.Shown.{shown}

-- ---- the step theorem

-- each concrete step is an edge or visible
abbrev pub Refines : Type 0
Refines = (mode : Mode) (image : Image) → IsBuilt image → IsImage image → (left : NatMap ℕ) (s : System) (m : Machine)
    → Stands mode image left s m
    → (p : ℕ) → p < image.processors → Simulated mode image left s m p

-- an edge of one processor leaves it as it is whether the next step of another is visible
abbrev pub KeepsSettled : Type 0
KeepsSettled = (mode : Mode) (image : Image) → IsBuilt image → IsImage image → (left : NatMap ℕ) (s : System) (m : Machine)
    → Stands mode image left s m → (p q : ℕ) → p < image.processors → q < image.processors → p ≢ q → is_visible (marks_of mode image) s p ≡ false
    → is_visible (marks_of mode image) (concrete_step image.processors s p).0 q ≡ is_visible (marks_of mode image) s q

-- the opening of the one stands for that of the other
abbrev pub Opens : Type 0
Opens = (mode : Mode) (image : Image) → IsBuilt image → IsImage image
    → Stands mode image (λ p. 0) (opening_system mode image) (opening image)

-- ---- runs of edges, turns and scripts

-- Any number of edges, whose frames are at most one: the abstract state stays, and the step behind them is safe; behind as many as are left it is visible.
-- Other processors' next steps are visible or not as before.
pub record Settles (mode : Mode) (image : Image) (left : NatMap ℕ) (s : System) (m : Machine) (p : ℕ) : Type 0 where
  pub after : (k : ℕ) → (now : NatMap ℕ) × Stands mode image now (edges k (marks_of mode image) image.processors s p).0 m
  pub few : (k : ℕ) → length (edges k (marks_of mode image) image.processors s p).1 ≤ 1
  pub safe : (k : ℕ) → IsSafeStep mode image (edges k (marks_of mode image) image.processors s p).0 p
  pub seen : (k : ℕ) → left p ≤ k → is_visible (marks_of mode image) (edges k (marks_of mode image) image.processors s p).0 p ≡ true
  pub bounded : left p < 1024
  pub counts : (k : ℕ) → bodies_on (concrete_step image.processors (edges k (marks_of mode image) image.processors s p).0 p).0 p
      ≡ told_bodies (edges k (marks_of mode image) image.processors s p).0 p
  pub others : (k q : ℕ) → q < image.processors → p ≢ q
      → is_visible (marks_of mode image) (edges k (marks_of mode image) image.processors s p).0 q ≡ is_visible (marks_of mode image) s q

-- so it is of every related state and processor
abbrev pub AllSettle : Type 0
AllSettle = (mode : Mode) (image : Image) → IsBuilt image → IsImage image → (left : NatMap ℕ) (s : System) (m : Machine)
    → Stands mode image left s m
    → (p : ℕ) → p < image.processors → Settles mode image left s m p

-- A turn of the one is a turn of the other, with at most two frames, and with the entries that its visible step shows while calls' numbers are words.
pub record Turns (mode : Mode) (image : Image) (s : System) (m : Machine) (p : ℕ) : Type 0 where
  pub now : NatMap ℕ
  pub stands : Stands mode image now (concrete_turn (marks_of mode image) image.processors s p).0 (turn image m p).0
  pub entries : s.totals.steps < 2 ^ 62
      → shown (marks_of mode image) (settled (marks_of mode image) image.processors s p).0 p ≡ (turn image m p).1
  pub few : length (concrete_turn (marks_of mode image) image.processors s p).1 ≤ 2

-- so it is of every related state and processor
abbrev pub TurnsFollow : Type 0
TurnsFollow = (mode : Mode) (image : Image) → IsBuilt image → IsImage image → (left : NatMap ℕ) (s : System) (m : Machine)
    → Stands mode image left s m
    → (p : ℕ) → p < image.processors → Turns mode image s m p

-- after every script of today's lines the concrete run stands for the abstract one
abbrev pub RunsFollow : Type 0
RunsFollow = (mode : Mode) (image : Image) → IsBuilt image → IsImage image → (script : List Line) → IsScript image script
    → list_all line_is_built script ≡ true
    → (left : NatMap ℕ) × Stands mode image left (concrete_run mode image script).0 (run image script)

-- Behind it the first processors are settled in turn: the abstract state stays, and each of them stays settled.
pub record SettledFirst (mode : Mode) (image : Image) (s : System) (m : Machine) (q : ℕ) : Type 0 where
  pub left : NatMap ℕ
  pub stands : Stands mode image left (all_settled (marks_of mode image) image.processors s (numbers_from 0 q)).0 m
  pub seen : (p : ℕ) → p < q → is_visible (marks_of mode image) (all_settled (marks_of mode image) image.processors s (numbers_from 0 q)).0 p ≡ true

-- so it is after every script
abbrev pub EndsFollow : Type 0
EndsFollow = (mode : Mode) (image : Image) → IsBuilt image → IsImage image → (script : List Line) → IsScript image script
    → list_all line_is_built script ≡ true → (q : ℕ) → q ≤ image.processors → SettledFirst mode image (concrete_run mode image script).0 (run image script) q

-- No step of a run writes over a live word: not the next one of any processor, nor one behind any number of its edges; and so where the first processors were
-- settled at the end.
abbrev pub RunsAreSafe : Type 0
RunsAreSafe = (mode : Mode) (image : Image) → IsBuilt image → IsImage image → (script : List Line) → IsScript image script
    → list_all line_is_built script ≡ true → (q : ℕ) → q ≤ image.processors → (p : ℕ) → p < image.processors → (k : ℕ)
    → IsSafeStep mode image (edges k (marks_of mode image) image.processors (all_settled (marks_of mode image) image.processors
    (concrete_run mode image script).0 (numbers_from 0 q)).0 p).0 p
