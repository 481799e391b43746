use Rattle.std.proofs.Common.{arith, subst}
use Rattle.ev_code.proofs.Spelled.{spelling_length}
use Rattle.ev_io.proofs.Writes.{Wrote, more_written, failed_within, none_left, err_now}
use Rattle.ev_asm_text.specs.AsmText.{asm_text}
use Rattle.ev_asm_text.proofs.Listing.{spelling_some, at_none, one_line}
use Rattle.ev_asm_text.proofs.text.put_user_text.Goals as goal

pub put_instruction-requires : goal.put_instruction-requires
put_instruction-requires g c = omega (arith, c.split_at.ensures.front_len, c.in-Ok.ensures.spelled.2, spelling_length c.in-Ok.field-0-0)

pub returns-in_err-put_instruction-clause-failed : goal.returns-in_err-put_instruction-clause-failed
returns-in_err-put_instruction-clause-failed g c =
    let line = one_line c.loop-size.at c.in-Ok.size c.loop-size.rest.now c.split_at.result.0.now c.split_at.result.1.now c.in-Ok.field-0-0
    c.in-Ok.ensures.reading c.in-Ok.ensures.spelled.1 c.in-Ok.ensures.spelled.2 c.split_at.ensures.front c.split_at.ensures.back in
    err_now _ _ (failed_within _ _ _ _ _ _ _ c.loop-size.invariant.wrote line c.in_err-put_instruction.ensures.failed)

pub loop-size-smaller : goal.loop-size-smaller
loop-size-smaller g c = omega (arith, c.split_at.ensures.back_len, c.in-Ok.ensures.spelled.2, spelling_some c.in-Ok.field-0-0)

pub loop-size-preserved : goal.loop-size-preserved
loop-size-preserved g c =
    let line = one_line c.loop-size.at c.in-Ok.size c.loop-size.rest.now c.split_at.result.0.now c.split_at.result.1.now c.in-Ok.field-0-0
    c.in-Ok.ensures.reading c.in-Ok.ensures.spelled.1 c.in-Ok.ensures.spelled.2 c.split_at.ensures.front c.split_at.ensures.back in record {
      wrote = more_written _ _ _ _ _ _ _ c.loop-size.invariant.wrote line c.in_ok-put_instruction.ensures.ok;
      count = omega arith;
      place = omega (arith, c.split_at.ensures.back_len, c.loop-size.invariant.place);
    }

pub returns-clause-ok : goal.returns-clause-ok
returns-clause-ok g c =
    let old = g.K.Sink.taken c.args.sink.now in
    let now = g.K.Sink.taken c.loop-size.sink in
    let whole = asm_text c.args.image.now in
    none_left old now whole (subst (λ t. Wrote old now t whole) (at_none _ c.loop-size.at c.loop-size.rest.now c.in_default.ensures.reading)
    c.loop-size.invariant.wrote)
