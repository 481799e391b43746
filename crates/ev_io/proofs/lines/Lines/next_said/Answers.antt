use Rattle.std.proofs.Common.{◌≤◌, ◌∙◌, ap, sym, refl, arith}
use Rattle.ev_io.specs.Tokens.{tokens_of, is_passed_over}
use Rattle.ev_io.proofs.Bytes.{draws_nothing, draws_then}
use Rattle.ev_io.proofs.NextLaws.{passes_none, given, passes_more, says_it, ends_it, skips_fault}
use Rattle.ev_io.proofs.lines.Lines.next_said.Goals as goal

pub loop-fault-init : goal.loop-fault-init
loop-fault-init g c = record {
  passes = λ bytes e. passes_none c.args.self.now bytes _ e;
  draws = draws_nothing _ _;
  count = refl;
  grown = omega arith;
}

pub returns-in-Err-clause-said : goal.returns-in-Err-clause-said
returns-in-Err-clause-said g c = λ bytes e.
    skips_fault c.args.self.now bytes c.loop-fault.self _ c.next.new.self _ c.in-Err.fault c.next.ensures.within (c.loop-fault.invariant.passes bytes e)
    c.in-Err.ensures.line c.in-Err.ensures.stops
    c.in-Err.ensures.number

pub returns-in-Err-clause-draws : goal.returns-in-Err-clause-draws
returns-in-Err-clause-draws g c = draws_then _ _ _ _ _ _ c.loop-fault.invariant.draws c.next.ensures.draws

pub returns-in-Ok-None-clause-said : goal.returns-in-Ok-None-clause-said
returns-in-Ok-None-clause-said g c = λ bytes e.
    let line = rw c.in-Ok-None.field-0-is at c.in-Ok-None.ensures.line in
    let none = (rw c.in-Ok-None.field-0-is at c.in-Ok-None.ensures.none).0 in
    let number = rw c.in-Ok-None.field-0-is at c.in-Ok-None.ensures.number in
    let within : c.loop-fault.self.gone ≤ 8388608 = omega (arith, none, c.next.ensures.within) in
    ends_it c.args.self.now bytes c.loop-fault.self _ c.next.new.self within (c.loop-fault.invariant.passes bytes e) line number none

pub returns-in-Ok-None-clause-draws : goal.returns-in-Ok-None-clause-draws
returns-in-Ok-None-clause-draws g c = draws_then _ _ _ _ _ _ c.loop-fault.invariant.draws c.next.ensures.draws

pub returns-then-not-is_passed_over-clause-said : goal.returns-then-not-is_passed_over-clause-said
returns-then-not-is_passed_over-clause-said g c = λ bytes e.
    let line = rw c.in-Ok-Some.field-0-is at c.in-Ok-Some.ensures.line in
    let grew = rw c.in-Ok-Some.field-0-is at c.in-Ok-Some.ensures.grew in
    let number = rw c.in-Ok-Some.field-0-is at c.in-Ok-Some.ensures.number in
    let passes = c.loop-fault.invariant.passes bytes e in
    let within : c.loop-fault.self.gone ≤ 8388608 = omega (arith, grew, c.next.ensures.within) in
    let given = given c.loop-fault.self passes.left c.next.new.self _ _ within passes.to_come line in
    let said = sym c.is_passed_over.ensures ∙ c.if-not-is_passed_over.true in
    says_it c.args.self.now bytes c.loop-fault.self _ c.next.new.self _ c.in-Ok-Some.number passes given number.1 number.0
    (ap (λ t. is_passed_over (tokens_of t)) (sym c.text.ensures) ∙ said)

pub returns-then-not-is_passed_over-clause-draws : goal.returns-then-not-is_passed_over-clause-draws
returns-then-not-is_passed_over-clause-draws g c = draws_then _ _ _ _ _ _ c.loop-fault.invariant.draws c.next.ensures.draws

pub loop-fault-preserved : goal.loop-fault-preserved
loop-fault-preserved g c =
    let line = rw c.in-Ok-Some.field-0-is at c.in-Ok-Some.ensures.line in
    let grew = rw c.in-Ok-Some.field-0-is at c.in-Ok-Some.ensures.grew in
    let number = rw c.in-Ok-Some.field-0-is at c.in-Ok-Some.ensures.number in
    let within : c.loop-fault.self.gone ≤ 8388608 = omega (arith, grew, c.next.ensures.within) in
    let over = sym c.is_passed_over.ensures ∙ c.if-not-is_passed_over.false in
    record {
      passes = λ bytes e.
          let passes = c.loop-fault.invariant.passes bytes e in
          let given = given c.loop-fault.self passes.left c.next.new.self _ _ within passes.to_come line in
          passes_more c.args.self.now bytes c.loop-fault.self _ c.next.new.self _ passes given number.1
          (ap (λ t. is_passed_over (tokens_of t)) (sym c.text.ensures) ∙ over);
      draws = draws_then _ _ _ _ _ _ c.loop-fault.invariant.draws c.next.ensures.draws;
      count = omega (arith, c.loop-fault.invariant.count, c.in-Ok-Some.ensures.cause);
      grown = omega (arith, c.loop-fault.invariant.grown, grew);
    }
