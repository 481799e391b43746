use Rattle.ev_user.proofs.KeepsNumbers.{opening_holds_numbers, items_keep_numbers}
use Rattle.ev_user.proofs.numbers.Goals as goal

pub returns : goal.returns
returns c = record { opening = opening_holds_numbers; items = items_keep_numbers }
