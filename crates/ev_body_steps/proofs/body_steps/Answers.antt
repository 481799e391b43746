use Rattle.ev_relation.proofs.CodeFacts.{facts}
use Rattle.ev_body_steps.specs.Claims.{BodySteps}
use Rattle.ev_body_steps.proofs.Kernel.{kernel_step}
use Rattle.ev_body_steps.proofs.body_steps.Goals as goal

follow : BodySteps
follow mode image built given left s m r p lt b below stand =
    kernel_step mode image built given (facts mode image given built) left s m r p lt b below stand

pub returns : goal.returns
returns c = record { steps = follow }
