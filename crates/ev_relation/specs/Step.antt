-- One step of the concrete machine from a state that stands for one of the abstract machine: an edge or visible.
use Rattle.std.specs.Prelude.{◌≡◌, ◌⊎◌, ℕ, ◌^◌, ◌<◌, Bool, true, false, List, [], length}
use Rattle.ev_isa.specs.Word.{NatMap}
use Rattle.ev_isa.specs.declared.mode.Mode.{Mode}
use Rattle.ev_event.specs.declared.frame_note.FrameNote.{FrameNote}
use Rattle.ev_body.specs.declared.image.Image.{Image}
use Rattle.ev_abstract.specs.Machine.{Machine}
use Rattle.ev_abstract.specs.Run.{turn}
use Rattle.ev_concrete.specs.ConcreteRun.{System, marks_of, is_visible, concrete_step}
use Rattle.ev_concrete.specs.Depth.{bodies_on, told_bodies}
use Rattle.ev_concrete.specs.LiveWords.{IsSafeStep}
use Rattle.ev_relation.specs.Relation.{Stands}
use Rattle.ev_concrete.specs.Shown.{shown}

-- what an edge writes: no frame, or that of an inner NMI, which takes the NMI latch
abbrev pub EdgeWrites : (latch now : Bool) → List FrameNote → Type 0
EdgeWrites latch now frames = ((frames ≡ []) × (now ≡ latch)) ⊎ ((length frames ≡ 1) × (latch ≡ true) × (now ≡ false))

-- So few steps were counted that each number of a call is a word: the concrete machine keeps it modulo 2^64.
abbrev pub IsCounted : System → Type 0
IsCounted s = s.totals.steps < 2 ^ 63

module _ (mode : Mode) (image : Image) where
  -- an edge: the abstract state stays, and fewer edges of this processor are left
  pub record MakesEdge (left : NatMap ℕ) (s : System) (m : Machine) (p : ℕ) : Type 0 where
    pub hidden : is_visible (marks_of mode image) s p ≡ false
    pub now : NatMap ℕ
    pub fewer : now p < left p
    pub stands : Stands mode image now (concrete_step image.processors s p).0 m
    pub writes : EdgeWrites (s.latches p) ((concrete_step image.processors s p).0.latches p) (concrete_step image.processors s p).1

  -- a visible step: the abstract machine makes one, with the same entries while calls' numbers are words
  pub record MakesTurn (left : NatMap ℕ) (s : System) (m : Machine) (p : ℕ) : Type 0 where
    pub seen : is_visible (marks_of mode image) s p ≡ true
    pub now : NatMap ℕ
    pub stands : Stands mode image now (concrete_step image.processors s p).0 (turn image m p).0
    pub entries : IsCounted s → shown (marks_of mode image) s p ≡ (turn image m p).1

  -- one concrete step, which writes over no live word, and tells how many bodies stand behind it
  pub record Simulated (left : NatMap ℕ) (s : System) (m : Machine) (p : ℕ) : Type 0 where
    pub safe : IsSafeStep mode image s p
    pub counts : bodies_on (concrete_step image.processors s p).0 p ≡ told_bodies s p
    pub how : MakesEdge left s m p ⊎ MakesTurn left s m p
