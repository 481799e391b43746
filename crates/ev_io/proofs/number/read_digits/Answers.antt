use Rattle.std.proofs.Common.{rules, arith, sym, ap, ◌∙◌, ◌≡◌, ◌*◌, ◌^◌, ◌<◌, ◌+◌, take, take_all, length, eqb-true, Some, subst, ℕ, List, nat_lt, true}
use Rattle.std.specs.List.{list_all}
use Rattle.ev_io.specs.Number.{digit, value}
use Rattle.ev_io.proofs.Digits.{no_digits, bad_digit, digits_more, value_more, large_prefix, all_digits, not_empty}
use Rattle.ev_io.proofs.number.read_digits.Goals as goal

pub returns-then-is_empty : goal.returns-then-is_empty
returns-then-is_empty c = sym (no_digits c.args.base c.args.digits.now (eqb-true _ _ (sym c.is_empty.ensures ∙ c.if-is_empty.true)))

pub loop-b-init : goal.loop-b-init
unfolding value
loop-b-init c = search rules

pub returns-then-digit-base : goal.returns-then-digit-base
returns-then-digit-base c =
    sym (bad_digit c.args.base c.loop-b.b-index c.args.digits.now c.loop-b-test.true (omega (arith, c.if-digit-base.true, c.digit_of-digit.ensures)))

pub returns-in_err-checked_mul : goal.returns-in_err-checked_mul
returns-in_err-checked_mul c =
    let i = c.loop-b.b-index in
    let base = c.args.base in
    let digits = c.args.digits.now in
    let large : c.loop-b.number * base < 2 ^ 64 → ⊥ = c.in_err-checked_mul.ensures in
    let more = value_more base i digits c.loop-b-test.true in
    let same = ap (λ v. v * base) c.loop-b.invariant.number in
    c.from_residual.ensures ∙ sym (large_prefix base (i + 1) digits (omega (arith, c.requires.least)) (omega (arith, large, more, same)))

pub returns-in_err-number : goal.returns-in_err-number
returns-in_err-number c =
    let i = c.loop-b.b-index in
    let base = c.args.base in
    let digits = c.args.digits.now in
    let product : (c.loop-b.number * base < 2 ^ 64) × (c.in_ok-checked_mul.field-0 ≡ c.loop-b.number * base) = c.in_ok-checked_mul.ensures in
    let large : c.in_ok-checked_mul.field-0 + c.digit_of-digit.result < 2 ^ 64 → ⊥ = c.in_err-number.ensures in
    let more = value_more base i digits c.loop-b-test.true in
    let same = ap (λ v. v * base) c.loop-b.invariant.number in
    c.from_residual-in_err-number.ensures
    ∙ sym (large_prefix base (i + 1) digits (omega (arith, c.requires.least)) (omega (arith, large, more, same, product.1, c.digit_of-digit.ensures)))

pub loop-b-preserved : goal.loop-b-preserved
loop-b-preserved c =
    let i = c.loop-b.b-index in
    let base = c.args.base in
    let digits = c.args.digits.now in
    let product : (c.loop-b.number * base < 2 ^ 64) × (c.in_ok-checked_mul.field-0 ≡ c.loop-b.number * base) = c.in_ok-checked_mul.ensures in
    let whole : (c.in_ok-checked_mul.field-0 + c.digit_of-digit.result < 2 ^ 64)
    × (c.in_ok-number.number ≡ c.in_ok-checked_mul.field-0 + c.digit_of-digit.result) = c.in_ok-number.ensures in
    let more = value_more base i digits c.loop-b-test.true in
    let same = ap (λ v. v * base) c.loop-b.invariant.number in
    record {
      number = omega (arith, product.1, whole.1, more, same, c.digit_of-digit.ensures);
      below = omega (arith, whole.0, whole.1);
      digits = digits_more base i digits c.loop-b-test.true c.loop-b.invariant.digits (omega (arith, c.if-digit-base.false, c.digit_of-digit.ensures));
    }

pub returns : goal.returns
returns c =
    let base = c.args.base in
    let digits = c.args.digits.now in
    let whole : take c.loop-b.b-index digits ≡ digits = take_all c.loop-b.b-index digits c.loop-b-test.false in
    let number : c.loop-b.number ≡ value base digits = c.loop-b.invariant.number ∙ ap (value base) whole in
    let some : 0 < length digits = not_empty digits c.is_empty.result c.is_empty.ensures c.if-is_empty.false in
    let all = subst (λ (ds : List ℕ). list_all (λ b. nat_lt (digit b) base) ds ≡ true) whole c.loop-b.invariant.digits in
    ap Some number ∙ sym (all_digits base digits some all (omega (arith, number, c.loop-b.invariant.below)))
