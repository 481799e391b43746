use Rattle.std.proofs.Common.{arith}
use Rattle.ev_probe.proofs.Regions.{stacks_done, stacks_more}
use Rattle.ev_probe.proofs.memory.regions.Goals as goal

pub loop-n-preserved : goal.loop-n-preserved
loop-n-preserved c =
    stacks_more c.args.bad c.loop-n.n _ _ _ _ _ c.loop-n.invariant (omega arith) c.in_ok-push_stack.ensures

pub returns : goal.returns
returns c = stacks_done c.args.bad c.loop-n.n _ _ c.loop-n.invariant (omega arith)
