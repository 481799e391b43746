use Rattle.std.proofs.Common.{sym, ◌∙◌}
use Rattle.ev_accept.proofs.RuleNames.{by_missing, by_items_of, by_calls}
use Rattle.ev_accept.proofs.accepted.rule_refusal.Goals as goal

pub returns-in-Some : goal.returns-in-Some
returns-in-Some c = sym (by_missing c.args.image.now c.in-Some.refusal (sym c.missing_body.ensures ∙ c.in-Some.is))

pub returns-in-Some-refusal_of : goal.returns-in-Some-refusal_of
returns-in-Some-refusal_of c =
    sym (by_items_of c.args.image.now c.in-Some-refusal_of.refusal (sym c.missing_body.ensures ∙ c.in_default.is)
    (sym c.refusal_of.ensures ∙ c.in-Some-refusal_of.is))

pub returns : goal.returns
returns c =
    c.call_refusal.ensures
    ∙ sym (by_calls c.args.image.now (sym c.missing_body.ensures ∙ c.in_default.is) (sym c.refusal_of.ensures ∙ c.in_default-refusal_of.is))
