use Rattle.std.proofs.Common.{◌*◌, ◌^◌, ◌%◌, ◌<◌, set, length, ap, sym, ◌∙◌, subst}
use Rattle.ev_apic.specs.Apic.{accepted}
use Rattle.ev_apic.specs.declared.apic.Apic.{Apic}
use Rattle.ev_body.specs.declared.key.Key.TheVariants.{Irq}
use Rattle.ev_concrete.specs.ConcreteRun.{arrived_at}
use Rattle.ev_core.specs.State.{Parts, Shows}
use Rattle.ev_core.specs.contracts.state.State.{the_view}
use Rattle.ev_core.proofs.Interrupts.{arrived_shows}
use Rattle.ev_core.proofs.state.State.arrive.Goals as goal

pub returns-clause-shows : goal.returns-clause-shows
returns-clause-shows c n s h =
    let hv : Shows n (the_view c.self.inside) s = subst (λ v. Shows n v s) (sym c.self.view_is) h in
    let lc : c.args.p < length c.self.inside.cpus.items = subst (λ (v : Parts). c.args.p < length v.cpus) (sym c.self.view_is) c.requires in
    let l = c.index_mut.result.now in
    let small : c.args.v < 256 = c.ranges.v.fits in
    subst (λ (a : Apic). Shows n (record (the_view c.self.inside) { locals = set c.self.inside.locals.items c.args.p (record l { apic = a }) })
    (arrived_at s c.args.p (Irq c.args.v)))
    (sym (c.accept.ensures ∙ ap (λ w. accepted l.apic w (1 * 2 ^ (c.args.v % 64) % 2 ^ 64)) c.from.ensures))
    (arrived_shows n c.args.p c.args.v s small (the_view c.self.inside) l hv lc c.self.invariant.same c.index_mut.ensures.value)
