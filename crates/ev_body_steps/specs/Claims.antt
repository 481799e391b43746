-- What is proved of the steps of bodies.
use Rattle.std.specs.Prelude.{◌≡◌, ℕ, ◌<◌, List, ◌∷◌}
use Rattle.ev_isa.specs.Word.{NatMap}
use Rattle.ev_isa.specs.declared.mode.Mode.{Mode}
use Rattle.ev_body.specs.declared.image.Image.{Image}
use Rattle.ev_body.specs.WellFormed.{IsImage}
use Rattle.ev_abstract.specs.Context.{BodyContext}
use Rattle.ev_abstract.specs.Machine.{Machine, processor}
use Rattle.ev_concrete.specs.ConcreteRun.{System}
use Rattle.ev_built.specs.Built.{IsBuilt}
use Rattle.ev_relation.specs.Relation.{Stands}
use Rattle.ev_relation.specs.Step.{Simulated}

-- where bodies stand, the step of a processor is one of the kernel's code, from the entry of the last of them to its return
abbrev pub BodySteps : Type 0
BodySteps = (mode : Mode) (image : Image) → IsBuilt image → IsImage image → (left : NatMap ℕ) (s : System) (m : Machine)
    → Stands mode image left s m → (p : ℕ) → p < image.processors
    → (b : BodyContext) (below : List BodyContext) → (processor m p).bodies ≡ b ∷ below → Simulated mode image left s m p
