use Rattle.std.proofs.Common.{◌≡◌, ◌++◌, drop, filter_map}
use Rattle.ev_part.specs.PartItems.{item_at}
use Rattle.ev_part.proofs.part.items_in.Given as goal

abbrev pub invariant-loop-line : goal.invariant-loop-line
invariant-loop-line l = l.items.items ++ filter_map (item_at l.labels) (drop l.line-index l.lines) ≡ filter_map (item_at l.labels) l.lines
