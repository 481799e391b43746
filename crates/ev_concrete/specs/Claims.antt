-- The claim about the concrete machine. A crate's function carries it as a clause. Own.
use Rattle.std.specs.Prelude.{ℕ, ◌<◌, List}
use Rattle.ev_isa.specs.declared.mode.Mode.{Mode}
use Rattle.ev_body.specs.declared.image.Image.{Image}
use Rattle.ev_body.specs.WellFormed.{IsImage}
use Rattle.ev_abstract.specs.declared.script_line.Line.{Line}
use Rattle.ev_abstract.specs.Accepted.{IsAccepted}
use Rattle.ev_abstract.specs.Script.{IsScript}
use Rattle.ev_concrete.specs.ConcreteRun.{concrete_run}
use Rattle.ev_concrete.specs.LiveWords.{IsSafeStep}

-- No delivery writes over a live word. Each concrete step of a run is the next step of some processor after some script, since `edge p n` stops anywhere.
abbrev pub FramesAreSafe : Type 0
FramesAreSafe = (image : Image) (mode : Mode) (script : List Line) (p : ℕ) → IsImage image → IsAccepted image → IsScript image script → p < image.processors
    → IsSafeStep mode image (concrete_run mode image script).0 p
