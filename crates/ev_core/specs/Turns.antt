-- What a turn and settling come to, from any state that stands for one of the abstract machine. Own.
use Rattle.std.specs.Prelude.{◌≡◌, ◌≢◌, ℕ, ◌<◌, true}
use Rattle.ev_isa.specs.declared.mode.Mode.{Mode}
use Rattle.ev_body.specs.declared.image.Image.{Image}
use Rattle.ev_abstract.specs.Machine.{Machine}
use Rattle.ev_abstract.specs.Run.{turn}
use Rattle.ev_concrete.specs.ConcreteRun.{System, marks_of, is_visible, edges, settled, concrete_turn}
use Rattle.ev_concrete.specs.LiveWords.{IsSafeStep}
use Rattle.ev_core.specs.Local.{optional}
use Rattle.ev_core.specs.Run.{MachineView, IsStandingAs}
use Rattle.ev_core.specs.declared.machine.Turned.{Turned}

-- a turn of p from s, which stands for m: both machines make it, and show and write this
pub record IsTurn (mode : Mode) (image : Image) (s : System) (m : Machine) (p : ℕ) (turned : Turned) (v : MachineView) : Type 0 where
  pub so : IsStandingAs mode image (concrete_turn (marks_of mode image) image.processors s p).0 (turn image m p).0 v
  pub entry : optional turned.entry ≡ (turn image m p).1
  pub frames : turned.frames.items ≡ (concrete_turn (marks_of mode image) image.processors s p).1
  pub safe : (k : ℕ) → IsSafeStep mode image (edges k (marks_of mode image) image.processors s p).0 p

-- the edges of p up to a visible step, from s, which stands for m: the abstract state stays, and so does whether others' next steps are visible
pub record IsSettling (mode : Mode) (image : Image) (s : System) (m : Machine) (p : ℕ) (turned : Turned) (v : MachineView) : Type 0 where
  pub so : IsStandingAs mode image (settled (marks_of mode image) image.processors s p).0 m v
  pub frames : turned.frames.items ≡ (settled (marks_of mode image) image.processors s p).1
  pub seen : is_visible (marks_of mode image) (settled (marks_of mode image) image.processors s p).0 p ≡ true
  pub others : (q : ℕ) → q < image.processors → p ≢ q
      → is_visible (marks_of mode image) (settled (marks_of mode image) image.processors s p).0 q ≡ is_visible (marks_of mode image) s q
  pub safe : (k : ℕ) → IsSafeStep mode image (edges k (marks_of mode image) image.processors s p).0 p
