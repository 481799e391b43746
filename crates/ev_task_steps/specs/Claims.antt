-- What is proved of the steps of tasks.
use Rattle.std.specs.Prelude.{◌≡◌, ℕ, ◌<◌, []}
use Rattle.ev_isa.specs.Word.{NatMap}
use Rattle.ev_isa.specs.declared.mode.Mode.{Mode}
use Rattle.ev_body.specs.declared.image.Image.{Image}
use Rattle.ev_body.specs.WellFormed.{IsImage}
use Rattle.ev_abstract.specs.Machine.{Machine, processor}
use Rattle.ev_concrete.specs.ConcreteRun.{System}
use Rattle.ev_built.specs.Built.{IsBuilt}
use Rattle.ev_relation.specs.Relation.{Stands}
use Rattle.ev_relation.specs.Step.{Simulated}

-- where no body stands, the step of a processor is one of its task, or the delivery of what comes to it
abbrev pub TaskSteps : Type 0
TaskSteps = (mode : Mode) (image : Image) → IsBuilt image → IsImage image → (left : NatMap ℕ) (s : System) (m : Machine)
    → Stands mode image left s m → (p : ℕ) → p < image.processors → (processor m p).bodies ≡ [] → Simulated mode image left s m p
