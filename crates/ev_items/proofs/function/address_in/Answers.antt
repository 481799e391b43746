use Rattle.ev_items.proofs.Slots.{take_kept}
use Rattle.ev_items.proofs.function.address_in.Goals as goal

pub items_size-requires-clause-slots : goal.items_size-requires-clause-slots
items_size-requires-clause-slots c = take_kept c.function_start-start.result c.args.items.now c.requires.slots
