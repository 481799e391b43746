use Rattle.std.proofs.Common.{◌≡◌, sym, ◌∙◌, ap, ℕ, ◌≤◌, ◌+◌, ◌-◌, arith, List, get_or, true, false}
use Rattle.std.proofs.lemmas.Bool.{cond-true, cond-false}
use Rattle.ev_body.specs.declared.body.Body.{Body}
use Rattle.ev_abstract.specs.Chain.{is_nmi}
use Rattle.ev_accept.specs.Bound.{least_class, faults_by, open_by, pf_room, bp_room, nmi_room, fault_room, open_room, irq_room, entry_room}
use Rattle.ev_accept.proofs.BoundLaws.{irq_room-small}
use Rattle.ev_accept.proofs.bound.entry_room.Goals as goal

at_nmi : (bodies : List Body) (b : Body) (x bp pf : ℕ) → is_nmi b.key ≡ true → x ≡ faults_by bp pf b → bp ≡ bp_room bodies → pf ≡ pf_room bodies → x
    ≡ entry_room bodies b
unfolding entry_room fault_room
at_nmi bodies b x bp pf t e f g =
    e ∙ ap (λ (y : ℕ). faults_by y pf b) f ∙ ap (λ (y : ℕ). faults_by (bp_room bodies) y b) g
    ∙ sym (cond-true (is_nmi b.key) (fault_room bodies b) (open_room bodies (irq_room bodies (16 - least_class b.key)) b) t)

at_other : (bodies : List Body) (b : Body) (x faults up bp pf nmi : ℕ) → is_nmi b.key ≡ false → x ≡ open_by faults nmi up b → faults ≡ faults_by bp pf b → up
    ≡ irq_room bodies (16 - least_class b.key)
    → bp ≡ bp_room bodies → pf ≡ pf_room bodies → nmi ≡ nmi_room bodies → x ≡ entry_room bodies b
unfolding entry_room open_room fault_room
at_other bodies b x faults up bp pf nmi t e d u f g h =
    e ∙ ap (λ (y : ℕ). open_by y nmi up b) d ∙ ap (λ (y : ℕ). open_by (faults_by y pf b) nmi up b) f
    ∙ ap (λ (y : ℕ). open_by (faults_by (bp_room bodies) y b) nmi up b) g
    ∙ ap (λ (y : ℕ). open_by (faults_by (bp_room bodies) (pf_room bodies) b) y up b) h
    ∙ ap (λ (y : ℕ). open_by (faults_by (bp_room bodies) (pf_room bodies) b) (nmi_room bodies) y b) u
    ∙ sym (cond-false (is_nmi b.key) (fault_room bodies b) (open_room bodies (irq_room bodies (16 - least_class b.key)) b) t)

pub open_room-requires-clause-up : goal.open_room-requires-clause-up
open_room-requires-clause-up c =
    let g : get_or c.args.up.now c.from.result 0 ≡ irq_room c.args.bodies.now c.from.result = c.requires.up c.from.result (omega arith) in
    let s : irq_room c.args.bodies.now c.from.result ≤ c.from.result + 5 = irq_room-small c.args.bodies.now c.from.result in
    omega arith

pub returns-then-is_nmi-clause-is : goal.returns-then-is_nmi-clause-is
returns-then-is_nmi-clause-is c =
    at_nmi c.args.bodies.now c.args.body.now c.fault_room-faults.result c.args.rooms.now.bp c.args.rooms.now.pf (sym c.is_nmi.ensures ∙ c.if-is_nmi.true)
    c.fault_room-faults.ensures.is c.requires.rooms.bp c.requires.rooms.pf

pub returns-else-is_nmi-clause-is : goal.returns-else-is_nmi-clause-is
returns-else-is_nmi-clause-is c =
    let e : c.from.result ≡ 16 - least_class c.args.body.now.key = omega arith in
    at_other c.args.bodies.now c.args.body.now c.open_room.result c.fault_room-faults.result (get_or c.args.up.now c.from.result 0) c.args.rooms.now.bp
    c.args.rooms.now.pf c.args.rooms.now.nmi
    (sym c.is_nmi.ensures ∙ c.if-is_nmi.false) c.open_room.ensures.is c.fault_room-faults.ensures.is
    (c.requires.up c.from.result (omega arith) ∙ ap (irq_room c.args.bodies.now) e) c.requires.rooms.bp c.requires.rooms.pf c.requires.rooms.nmi
