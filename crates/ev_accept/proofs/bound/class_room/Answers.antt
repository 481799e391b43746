use Rattle.std.proofs.Common.{◌≡◌, ◌∙◌, ap, ℕ, suc, max, arith, List}
use Rattle.ev_body.specs.declared.body.Body.{Body}
use Rattle.ev_accept.specs.Bound.{greatest, is_class, is_on_kernel, faults_by, open_by, pf_room, bp_room, nmi_room, fault_room, open_room, class_room}
use Rattle.ev_accept.proofs.Loops.{greatest_all}
use Rattle.ev_accept.proofs.bound.class_room.Goals as goal

same : (bodies : List Body) (class up bp pf nmi : ℕ) → bp ≡ bp_room bodies → pf ≡ pf_room bodies → nmi ≡ nmi_room bodies
    → max up (greatest (is_on_kernel (is_class class)) (λ b. suc (open_by (faults_by bp pf b) nmi up b)) bodies) ≡ class_room bodies class up
unfolding class_room open_room fault_room
same bodies class up bp pf nmi e f g =
    ap (λ (x : ℕ). max up (greatest (is_on_kernel (is_class class)) (λ b. suc (open_by (faults_by x pf b) nmi up b)) bodies)) e
    ∙ ap (λ (x : ℕ). max up (greatest (is_on_kernel (is_class class)) (λ b. suc (open_by (faults_by (bp_room bodies) x b) nmi up b)) bodies)) f
    ∙ ap (λ (x : ℕ). max up (greatest (is_on_kernel (is_class class)) (λ b. suc (open_by (faults_by (bp_room bodies) (pf_room bodies) b) x up b)) bodies)) g

pub returns : goal.returns
returns c =
    c.greater.ensures
    ∙ ap (max c.args.up) (greatest_all (is_on_kernel (is_class c.args.class))
    (λ b. suc (open_by (faults_by c.args.rooms.now.bp c.args.rooms.now.pf b) c.args.rooms.now.nmi c.args.up b)) c.args.bodies.now c.loop-body.body-index
    c.loop-body.most (omega arith) c.loop-body.invariant.so_far)
    ∙ same c.args.bodies.now c.args.class c.args.up c.args.rooms.now.bp c.args.rooms.now.pf c.args.rooms.now.nmi c.requires.rooms.bp c.requires.rooms.pf
    c.requires.rooms.nmi
