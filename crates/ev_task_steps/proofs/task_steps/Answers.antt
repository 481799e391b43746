use Rattle.ev_relation.proofs.CodeFacts.{facts}
use Rattle.ev_task_steps.specs.Claims.{TaskSteps}
use Rattle.ev_task_steps.proofs.User.{user_turn}
use Rattle.ev_task_steps.proofs.task_steps.Goals as goal

follow : TaskSteps
follow mode image built given left s m r p lt none = user_turn mode image given built (facts mode image given built) left s m r p lt none

pub returns : goal.returns
returns c = record { steps = follow }
