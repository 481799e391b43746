use Rattle.ev_abstract.proofs.OtherProcessors.{item_leaves_others, step_leaves_others, script_leaves_others}
use Rattle.ev_abstract.proofs.laws.steps_leave_others.Goals as goal

pub returns-clause-item : goal.returns-clause-item
returns-clause-item c = item_leaves_others

pub returns-clause-step : goal.returns-clause-step
returns-clause-step c = step_leaves_others

pub returns-clause-script : goal.returns-clause-script
returns-clause-script c = script_leaves_others
