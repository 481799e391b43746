use Rattle.std.proofs.Common.{◌≡◌, ◌<◌, length, arith, sym, ap, ◌∙◌, filter_map}
use Rattle.ev_part.specs.PartItems.{item_at}
use Rattle.ev_part.proofs.Walks.{with_item, without_item}
use Rattle.ev_part.proofs.part.items_in.Goals as goal
use Rattle.ev_part.proofs.part.items_in.Goals.{in-Some+in_ok-push, in_default}

pub loop-line-preserved : goal.loop-line-preserved
loop-line-preserved c = let l : c.loop-line.line-index < length c.args.lines.now = omega arith in elim c.match-item_at.branch [
  | in-Some+in_ok-push w ↦
      with_item (item_at c.args.labels.now) c.args.lines.now c.loop-line.line-index c.line-item.result w.in-Some.item c.loop-line.items.items
      c.match-item_at.items.items _ l
      c.line-item.is w.in-Some.ensures (rw w.items-is w.in_ok-push.ensures.items) c.loop-line.invariant
  | in_default w ↦
      rw w.items-is
      (without_item (item_at c.args.labels.now) c.args.lines.now c.loop-line.line-index c.line-item.result c.loop-line.items.items _ l c.line-item.is
      w.in_default.ensures
      c.loop-line.invariant)
]
