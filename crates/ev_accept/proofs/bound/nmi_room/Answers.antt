use Rattle.std.proofs.Common.{◌∙◌, ap, ℕ, suc, arith}
use Rattle.ev_abstract.specs.Chain.{is_nmi}
use Rattle.ev_accept.specs.Bound.{greatest, is_on_kernel, faults_by, bp_room, nmi_room, fault_room}
use Rattle.ev_accept.proofs.Loops.{greatest_all}
use Rattle.ev_accept.proofs.bound.nmi_room.Goals as goal

pub returns-clause-is : goal.returns-clause-is
unfolding nmi_room fault_room
returns-clause-is c =
    greatest_all (is_on_kernel is_nmi) (λ b. suc (faults_by c.args.bp c.args.pf b)) c.args.bodies.now c.loop-body.body-index c.loop-body.most
    (omega arith) c.loop-body.invariant.so_far
    ∙ ap (λ (x : ℕ). greatest (is_on_kernel is_nmi) (λ b. suc (faults_by x c.args.pf b)) c.args.bodies.now) c.requires.bp
    ∙ ap (λ (x : ℕ). greatest (is_on_kernel is_nmi) (λ b. suc (faults_by (bp_room c.args.bodies.now) x b)) c.args.bodies.now) c.requires.pf
