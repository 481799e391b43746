use Rattle.std.proofs.Common.{◌+◌, arith}
use Rattle.ev_items.proofs.Steps.{stmts_step}
use Rattle.ev_items.proofs.body.body_stmts.Goals as goal

pub loop-n-preserved : goal.loop-n-preserved
loop-n-preserved c = λ f h. stmts_step c.args.mode c.args.b c.args.key f c.args.items.now c.loop-n.n (c.loop-n.n + 1) c.index-items-n.result _ _ _
    c.loop-n-test.true (omega arith) c.index-items-n.is (c.in_ok-append_item.ensures f h) (c.loop-n.invariant f h)
