use Rattle.std.proofs.Common.{sym, ap, ◌∙◌, inl, inr}
use Rattle.std.proofs.lemmas.List.{take_rest}
use Rattle.ev_io.specs.Number.{digits_number}
use Rattle.ev_io.proofs.Digits.{decimal, no_number, hexadecimal}
use Rattle.ev_io.proofs.number.read_number.Goals as goal

pub returns-then-text-lt2 : goal.returns-then-text-lt2
returns-then-text-lt2 c = c.read_digits.ensures ∙ decimal c.args.text.now (inl c.if-text-lt2.true)

pub returns-then-text-ne48 : goal.returns-then-text-ne48
returns-then-text-ne48 c = c.read_digits-then-text-ne48.ensures ∙ decimal c.args.text.now (inr c.if-text-ne48.true)

pub returns-then-text-ne120 : goal.returns-then-text-ne120
returns-then-text-ne120 c = sym (no_number c.args.text.now c.if-text-lt2.false c.if-text-ne48.false c.if-text-ne120.true)

pub returns : goal.returns
returns c = c.read_digits-2.ensures ∙ ap (digits_number 16) (take_rest c.args.text.now 2)
    ∙ hexadecimal c.args.text.now c.if-text-lt2.false c.if-text-ne48.false c.if-text-ne120.false
