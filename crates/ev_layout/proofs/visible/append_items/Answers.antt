use Rattle.std.proofs.Common.{arith}
use Rattle.ev_layout.proofs.Marked.{items_step, items_end}
use Rattle.ev_layout.proofs.visible.append_items.Goals as goal

pub loop-item-preserved : goal.loop-item-preserved
loop-item-preserved c = record {
  noted = λ mode b key f. items_step mode b key f c.args.items.now c.loop-item.item-index _ c.item-item.result c.loop-item.at _ _ _ _ c.loop-item-test.true
      (omega arith) c.item-item.is (c.in_ok-at.ensures.behind mode b key f c.loop-item.item-index)
      (c.in_ok-at.ensures.noted mode b key f c.loop-item.item-index) (c.loop-item.invariant.noted mode b key f);
  near = omega (arith, c.in_ok-at.ensures.near, c.loop-item.invariant.near);
}

pub returns : goal.returns
returns c = λ mode b key f. items_end mode b key f c.args.items.now c.loop-item.item-index c.loop-item.at _ _ c.loop-item-test.false
    (c.loop-item.invariant.noted mode b key f)
