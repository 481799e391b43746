use Rattle.ev_part.proofs.PartLaws.{part_small}
use Rattle.ev_part.proofs.part.PartLines.items.Goals as goal

pub items_in-requires : goal.items_in-requires
items_in-requires c = part_small _ c.self.inside.labels c.self.inside.next c.self.invariant
