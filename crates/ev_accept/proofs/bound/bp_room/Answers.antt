use Rattle.std.proofs.Common.{◌∙◌, ap, ℕ, suc, arith}
use Rattle.ev_accept.specs.Bound.{greatest, is_bp, is_on_kernel, access_by, bp_room}
use Rattle.ev_accept.proofs.Loops.{greatest_all}
use Rattle.ev_accept.proofs.bound.bp_room.Goals as goal

pub returns-clause-is : goal.returns-clause-is
unfolding bp_room
returns-clause-is c =
    greatest_all (is_on_kernel is_bp) (λ b. suc (access_by c.args.pf b)) c.args.bodies.now c.loop-body.body-index c.loop-body.most
    (omega arith) c.loop-body.invariant.so_far
    ∙ ap (λ (x : ℕ). greatest (is_on_kernel is_bp) (λ b. suc (access_by x b)) c.args.bodies.now) c.requires.is
