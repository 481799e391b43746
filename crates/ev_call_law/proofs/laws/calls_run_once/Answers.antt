use Rattle.ev_call_law.proofs.Runs.{calls_are_kept, calls_run_on_their_targets, contexts_run_their_calls, finishes_have_calls, numbers_are_bounded, traces_are_short}
use Rattle.ev_call_law.proofs.laws.calls_run_once.Goals as goal

pub returns-clause-trace : goal.returns-clause-trace
returns-clause-trace c = calls_are_kept

pub returns-clause-target : goal.returns-clause-target
returns-clause-target c = calls_run_on_their_targets

pub returns-clause-short : goal.returns-clause-short
returns-clause-short c = traces_are_short

pub returns-clause-numbers : goal.returns-clause-numbers
returns-clause-numbers c = numbers_are_bounded

pub returns-clause-contexts : goal.returns-clause-contexts
returns-clause-contexts c = contexts_run_their_calls

pub returns-clause-finish : goal.returns-clause-finish
returns-clause-finish c = finishes_have_calls
