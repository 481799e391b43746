use Rattle.std.proofs.Common.{arith}
use Rattle.ev_asm.proofs.Statements.{large_step, large_stop, large_end}
use Rattle.ev_asm.proofs.size.too_large.Goals as goal

pub returns-then-left-taken : goal.returns-then-left-taken
returns-then-left-taken c = large_stop c.args.stmts.now c.loop-n.n c.loop-n.left _ _ (omega arith) c.index-stmts-n.is
    (omega (arith, c.size-taken.ensures.is)) c.loop-n.invariant

pub loop-n-preserved : goal.loop-n-preserved
loop-n-preserved c = large_step c.args.stmts.now c.loop-n.n _ c.loop-n.left _ _ _ (omega arith) (omega arith) c.index-stmts-n.is
    (omega (arith, c.size-taken.ensures.is)) (omega (arith, c.size-taken.ensures.is)) c.loop-n.invariant

pub returns : goal.returns
returns c = large_end c.args.stmts.now c.loop-n.n c.loop-n.left _ (omega arith) c.loop-n.invariant
