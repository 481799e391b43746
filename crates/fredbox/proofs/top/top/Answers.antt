use Rattle.std.proofs.Common.{subst}
use Rattle.ev_command.specs.declared.command.Command.{Command}
use Rattle.fredbox.specs.Answer.{comes_of}
use Rattle.fredbox.specs.Faults.{CountsRead}
use Rattle.fredbox.proofs.AnswerLaws.{answered, same_command}
use Rattle.fredbox.proofs.Safe.{all_calls_are_kept, all_chains_are_kept, frames_are_safe}
use Rattle.fredbox.proofs.top.top.Goals as goal

pub returns-in-Ok-Some-clause-usage : goal.returns-in-Ok-Some-clause-usage
returns-in-Ok-Some-clause-usage g c = λ none.
    absurd (none c.in-Ok-Some.command ((c.in-Ok-Some.ensures c.in-Ok-Some.command).0 c.in-Ok-Some.field-0-is))

pub returns-in-Ok-Some-clause-answers : goal.returns-in-Ok-Some-clause-answers
returns-in-Ok-Some-clause-answers g c = λ said says bytes e status text comes no_read no_write enough.
    let same = same_command said c.in-Ok-Some.command c.in-Ok-Some.field-0 ((c.in-Ok-Some.ensures said).1 says) c.in-Ok-Some.field-0-is in
    answered (record { excludes = c.acceptance_laws.ensures.excludes; refusal = c.acceptance_laws.ensures.refusal; bound = c.acceptance_laws.ensures.bound })
    _ _ c.in-Ok-Some.command bytes _ status text (c.answer.ensures.took bytes e)
    (subst (λ (x : Command). comes_of x bytes status text) same comes)
    (λ r. no_read (subst (CountsRead _ _) r c.answer.ensures.read)) (λ w. no_write (c.answer.ensures.write w)) enough

pub returns-in-Ok-Some-clause-safe : goal.returns-in-Ok-Some-clause-safe
returns-in-Ok-Some-clause-safe g c = frames_are_safe

pub returns-in-Ok-None-clause-safe : goal.returns-in-Ok-None-clause-safe
returns-in-Ok-None-clause-safe g c = frames_are_safe

pub returns-in-Err-clause-safe : goal.returns-in-Err-clause-safe
returns-in-Err-clause-safe g c = frames_are_safe

pub returns-in-Ok-Some-clause-chains : goal.returns-in-Ok-Some-clause-chains
returns-in-Ok-Some-clause-chains g c = all_chains_are_kept

pub returns-in-Ok-None-clause-chains : goal.returns-in-Ok-None-clause-chains
returns-in-Ok-None-clause-chains g c = all_chains_are_kept

pub returns-in-Err-clause-chains : goal.returns-in-Err-clause-chains
returns-in-Err-clause-chains g c = all_chains_are_kept

pub returns-in-Ok-Some-clause-calls : goal.returns-in-Ok-Some-clause-calls
returns-in-Ok-Some-clause-calls g c = all_calls_are_kept

pub returns-in-Ok-None-clause-calls : goal.returns-in-Ok-None-clause-calls
returns-in-Ok-None-clause-calls g c = all_calls_are_kept

pub returns-in-Err-clause-calls : goal.returns-in-Err-clause-calls
returns-in-Err-clause-calls g c = all_calls_are_kept
