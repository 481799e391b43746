use Rattle.std.proofs.Common.{◌≡◌, true, ◌<◌, sym, subst, length, None}
use Rattle.ev_concrete.specs.ConcreteRun.{is_visible}
use Rattle.ev_core.specs.Run.{MachineView, IsStandingAs}
use Rattle.ev_core.specs.contracts.machine.Machine.{the_view}
use Rattle.ev_core.proofs.Standing.{lt, tell, edges_tell}
use Rattle.ev_core.proofs.Turns.{settled_made}
use Rattle.ev_core.proofs.machine.Machine.settle.Goals as goal

pub invariant_of-self : goal.invariant_of-self
invariant_of-self g c =
    let h = c.self.invariant in
    let within = subst (λ (v : MachineView). c.args.p < length v.parts.cpus) (sym c.self.view_is) c.requires.place in
    let tells = edges_tell _ h c.args.p within in
    let made = settled_made h.mode h.image h.system h.machine _ h.so c.args.p (lt _ h c.args.p within) (record { entry = None; frames = c.settle.new.frames }) _
    (c.settle.ensures.settled _ _ h.so.at.shows tells) (c.settle.ensures.frames _ _ h.so.at.shows tells) in
    record { mode = h.mode; image = h.image; system = _; machine = h.machine; so = made.so }

pub returns-clause-settles : goal.returns-clause-settles
returns-clause-settles g c mode image s m so =
    let here : IsStandingAs mode image s m (the_view c.self.inside) = subst (λ v. IsStandingAs mode image s m v) (sym c.self.view_is) so in
    let within : c.args.p < image.processors = subst (λ k. c.args.p < k) so.at.shows.processors c.requires.place in
    let tells = tell mode image s m _ here c.args.p within in
    settled_made mode image s m _ here c.args.p within _ _ (c.settle.ensures.settled _ _ here.at.shows tells)
    (c.settle.ensures.frames _ _ here.at.shows tells)

pub returns-clause-seen : goal.returns-clause-seen
returns-clause-seen g c mode image s at = subst (λ k. is_visible k s c.args.p ≡ true) at.marks (c.settle.ensures.seen _ s at.shows)
