use Rattle.std.proofs.Common.{sym, ◌∙◌, ap}
use Rattle.ev_abstract.specs.Rules.{missing_refusal}
use Rattle.ev_accept.proofs.MissingSides.{missing_by_sides}
use Rattle.ev_accept.proofs.missing.missing_body.Goals as goal

pub returns-in_err-key : goal.returns-in_err-key
returns-in_err-key c =
    c.from_residual.ensures ∙ ap missing_refusal (sym c.in_err-key.was ∙ c.first_missing.ensures) ∙ missing_by_sides c.args.image.now

pub returns : goal.returns
returns c = ap missing_refusal (sym c.in_ok-key.was ∙ c.first_missing.ensures) ∙ missing_by_sides c.args.image.now
