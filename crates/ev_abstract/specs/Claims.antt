-- The claims about runs of the abstract machine. A crate's function carries each as a clause. Own.
use Rattle.std.specs.Prelude.{◌≡◌, ◌⊎◌, ℕ, ◌<◌, ◌≤◌, List, [], map, length}
use Rattle.ev_body.specs.declared.image.Image.{Image}
use Rattle.ev_abstract.specs.Context.{BodyContext}
use Rattle.ev_abstract.specs.Machine.{Processor, processor}
use Rattle.ev_abstract.specs.declared.script_line.Line.{Line}
use Rattle.ev_abstract.specs.Run.{run, trace}
use Rattle.ev_abstract.specs.Chain.{IsChain}
use Rattle.ev_abstract.specs.Accepted.{IsAcceptedWith, IsAccepted}
use Rattle.ev_body.specs.WellFormed.{IsImage}
use Rattle.ev_abstract.specs.Script.{IsScript}
use Rattle.ev_abstract.specs.CallLaws.{KeepsCalls}

-- the numbers of the bodies that stand on a processor, the last one first
abbrev pub standing_bodies : Processor → List ℕ
standing_bodies x = map (λ (c : BodyContext). c.body) x.bodies

-- after each script the bodies on each processor are a legal chain, if there are any
abbrev pub ChainsAreLegal : Type 0
ChainsAreLegal = (image : Image) (script : List Line) (p : ℕ) → IsImage image → IsAccepted image → IsScript image script → p < image.processors
    → (standing_bodies (processor (run image script) p) ≡ []) ⊎ IsChain image (standing_bodies (processor (run image script) p))

-- so there are no more than the bound
abbrev pub DepthIsBounded : Type 0
DepthIsBounded = (image : Image) (bound : ℕ) (script : List Line) (p : ℕ) → IsImage image → IsAcceptedWith image bound → IsScript image script
    → p < image.processors
    → length (standing_bodies (processor (run image script) p)) ≤ bound

-- each call runs at most once and is done before it is reported
abbrev pub CallsAreKept : Type 0
CallsAreKept = (image : Image) (script : List Line) → IsImage image → IsAccepted image → IsScript image script → KeepsCalls (trace image script)
