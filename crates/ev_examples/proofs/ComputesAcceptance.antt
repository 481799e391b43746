-- What the acceptance of a closed image computes with.
use Rattle.ev_isa.specs.Spelling.{four_bytes, spelling}
use Rattle.ev_body.specs.Bodies.{covers, key_number}
use Rattle.ev_abstract.specs.Chain.{is_below, is_breakpoint, is_legal, is_nmi, is_sti, is_user_access, may_start}
use Rattle.ev_abstract.specs.Rules.{breaks_calls, breaks_eoi, breaks_faults, breaks_flags, breaks_if, breaks_registers, breaks_slots, if_after, is_call_at, is_call_for, is_eoi, is_for_outer, is_inner_key, is_irq, is_kick_of, is_take, jump_target, leaves_flags, missing_body, rules, sends}

unfoldable pub deciding : Unit {0}
unfolding four_bytes spelling key_number covers is_breakpoint is_user_access is_sti is_nmi is_below may_start is_legal rules is_irq is_inner_key jump_target
    if_after sends missing_body breaks_slots breaks_registers leaves_flags breaks_flags breaks_if is_eoi breaks_eoi breaks_faults is_for_outer is_kick_of
    is_call_for is_call_at is_take breaks_calls
deciding = tt
