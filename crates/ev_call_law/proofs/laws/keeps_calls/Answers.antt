use Rattle.ev_call_law.proofs.Runs.{opening_keeps_calls, lines_keep_calls, runs_keep_calls}
use Rattle.ev_call_law.proofs.laws.keeps_calls.Goals as goal

pub returns-clause-opening : goal.returns-clause-opening
returns-clause-opening c = opening_keeps_calls

pub returns-clause-line : goal.returns-clause-line
returns-clause-line c = lines_keep_calls

pub returns-clause-run : goal.returns-clause-run
returns-clause-run c = runs_keep_calls
