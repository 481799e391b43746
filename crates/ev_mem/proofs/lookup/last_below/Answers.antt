use Rattle.std.proofs.Common.{arith}
use Rattle.ev_mem.proofs.Spans.{above_more, above_at, base_at}
use Rattle.ev_mem.proofs.lookup.last_below.Goals as goal
use Rattle.ev_mem.proofs.lookup.last_below.Goals.{then-spans-first, else-spans-first}

pub loop-count-preserved : goal.loop-count-preserved
loop-count-preserved c = elim c.if-spans-first.branch [
  | then-spans-first w ↦ record {
    some = omega arith;
    within = omega arith;
    below = λ p d. base_at c.args.spans.now c.args.a _ _ d _ (omega arith) w.if-spans-first.true w.first-is;
    above = λ k d l b. c.loop-count.invariant.above k d (omega arith) b;
  }
  | else-spans-first w ↦ record {
    some = omega arith;
    within = omega arith;
    below = λ p d. base_at c.args.spans.now c.args.a _ _ d d (omega arith) (c.loop-count.invariant.below (omega arith) d) w.first-is;
    above = λ k d l b.
        above_more c.args.spans.now c.args.a _ k d c.requires.ascending (omega arith) b
        (above_at c.args.spans.now c.args.a _ d _ (omega arith) w.if-spans-first.false);
  }
]
