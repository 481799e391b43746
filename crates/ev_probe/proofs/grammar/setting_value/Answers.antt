use Rattle.std.proofs.Common.{◌∙◌, ap, sym}
use Rattle.std.specs.Option.{option_map}
use Rattle.std.proofs.lemmas.Result.{err_from_is_err_and}
use Rattle.ev_probe.proofs.Settings.{bad_number}
use Rattle.ev_probe.proofs.grammar.setting_value.Goals as goal

pub returns-in_err-number-clause-is : goal.returns-in_err-number-clause-is
returns-in_err-number-clause-is c =
    let p = err_from_is_err_and c.from_residual.result c.from_residual.ensures.1 in
    rw (p.1, p.2)
    (sym (bad_number c.args.given.now _ _ _ c.in-Some-place_of.place _ (sym (ap (option_map _) c.in-Some.is) ∙ c.parted.ensures)
    (sym c.place_of.ensures.is ∙ c.in-Some-place_of.is) (sym c.is_some.ensures ∙ c.if-is_some.false) (sym c.number.ensures ∙ c.in_err-number.was)))
