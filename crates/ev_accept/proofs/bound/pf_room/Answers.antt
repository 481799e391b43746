use Rattle.std.proofs.Common.{arith}
use Rattle.ev_accept.specs.Bound.{is_pf, is_on_kernel, pf_room}
use Rattle.ev_accept.proofs.Loops.{greatest_all}
use Rattle.ev_accept.proofs.bound.pf_room.Goals as goal

pub returns-clause-is : goal.returns-clause-is
unfolding pf_room
returns-clause-is c = greatest_all (is_on_kernel is_pf) (λ b. 1) c.args.bodies.now c.loop-body.body-index c.loop-body.most
    (omega arith) c.loop-body.invariant.so_far
