use Rattle.ev_text.proofs.TextLaws.{nothing_is_text}
use Rattle.ev_text.proofs.text.UserText.new.Goals as goal

pub invariant_of-result : goal.invariant_of-result
invariant_of-result c = rw (c.new.ensures.items, c.new-2.ensures) nothing_is_text
