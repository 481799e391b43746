use Rattle.std.proofs.Common.{◌+◌, ℕ, ap, arith}
use Rattle.ev_items.proofs.Steps.{size_step}
use Rattle.ev_items.proofs.function.items_size.Goals as goal

pub loop-item-preserved : goal.loop-item-preserved
loop-item-preserved c = record {
  sum = λ mode b key. size_step mode b key (λ f. 0) c.args.items.now c.loop-item.item-index _ c.item-item.result _ _ _ (omega arith) (omega arith)
      c.item-item.is (ap (λ (x : ℕ). c.loop-item.size + x) (c.item_size-size.ensures.is mode b key c.loop-item.item-index))
      (c.loop-item.invariant.sum mode b key);
  small = omega (arith, c.item_size-size.ensures.small, c.loop-item.invariant.small);
}
