use Rattle.std.proofs.Common.{sym, ◌∙◌}
use Rattle.ev_accept.proofs.MissingSides.{required_search, or_found, or_past}
use Rattle.ev_accept.proofs.missing.first_missing.Goals as goal

pub returns-in-Some : goal.returns-in-Some
returns-in-Some c =
    sym (required_search c.args.image.now ∙ or_found _ _ c.in-Some.side (sym c.missing_user_side.ensures ∙ c.in-Some.is))

pub returns-in-Some-missing_fault_side : goal.returns-in-Some-missing_fault_side
returns-in-Some-missing_fault_side c =
    sym (required_search c.args.image.now ∙ or_past _ _ (sym c.missing_user_side.ensures ∙ c.in_default.is)
    ∙ or_found _ _ c.in-Some-missing_fault_side.side (sym c.missing_fault_side.ensures ∙ c.in-Some-missing_fault_side.is))

pub returns-in-Some-missing_fault_side-2 : goal.returns-in-Some-missing_fault_side-2
returns-in-Some-missing_fault_side-2 c =
    sym (required_search c.args.image.now ∙ or_past _ _ (sym c.missing_user_side.ensures ∙ c.in_default.is)
    ∙ or_past _ _ (sym c.missing_fault_side.ensures ∙ c.in_default-missing_fault_side.is)
    ∙ or_found _ _ c.in-Some-missing_fault_side-2.side (sym c.missing_fault_side-2.ensures ∙ c.in-Some-missing_fault_side-2.is))

pub returns-in-Some-missing_used_side : goal.returns-in-Some-missing_used_side
returns-in-Some-missing_used_side c =
    sym (required_search c.args.image.now ∙ or_past _ _ (sym c.missing_user_side.ensures ∙ c.in_default.is)
    ∙ or_past _ _ (sym c.missing_fault_side.ensures ∙ c.in_default-missing_fault_side.is)
    ∙ or_past _ _ (sym c.missing_fault_side-2.ensures ∙ c.in_default-missing_fault_side-2.is)
    ∙ or_found _ _ c.in-Some-missing_used_side.side (sym c.missing_used_side.ensures ∙ c.in-Some-missing_used_side.is))

pub returns : goal.returns
returns c =
    sym (required_search c.args.image.now ∙ or_past _ _ (sym c.missing_user_side.ensures ∙ c.in_default.is)
    ∙ or_past _ _ (sym c.missing_fault_side.ensures ∙ c.in_default-missing_fault_side.is)
    ∙ or_past _ _ (sym c.missing_fault_side-2.ensures ∙ c.in_default-missing_fault_side-2.is)
    ∙ or_past _ _ (sym c.missing_used_side.ensures ∙ c.in_default-missing_used_side.is) ∙ sym c.missing_interrupt_side.ensures)
