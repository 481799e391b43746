use Rattle.std.proofs.Common.{suc, arith}
use Rattle.ev_accept.specs.Bound.{is_on_user, entry_room, bound_of}
use Rattle.ev_accept.proofs.Loops.{greatest_all}
use Rattle.ev_accept.proofs.bound.bound_of.Goals as goal

pub returns : goal.returns
unfolding bound_of
returns c = greatest_all is_on_user (λ b. suc (entry_room c.args.bodies.now b)) c.args.bodies.now c.loop-body.body-index c.loop-body.most
    (omega arith) c.loop-body.invariant.so_far
