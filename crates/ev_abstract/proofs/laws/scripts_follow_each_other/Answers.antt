use Rattle.ev_abstract.proofs.Scripts.{run_of_two, trace_of_two, trace_of_one_more}
use Rattle.ev_abstract.proofs.laws.scripts_follow_each_other.Goals as goal

pub returns-clause-run : goal.returns-clause-run
returns-clause-run c = run_of_two

pub returns-clause-trace : goal.returns-clause-trace
returns-clause-trace c = trace_of_two

pub returns-clause-line : goal.returns-clause-line
returns-clause-line c = trace_of_one_more
