use Rattle.std.proofs.Common.{◌<◌, set, length, sym, subst}
use Rattle.ev_concrete.specs.ConcreteRun.{accept_mail}
use Rattle.ev_core.specs.State.{Parts, Shows}
use Rattle.ev_core.specs.declared.local.Local.{Local}
use Rattle.ev_core.specs.contracts.state.State.{the_view}
use Rattle.ev_core.proofs.Acceptance.{accepted_shows}
use Rattle.ev_core.proofs.state.State.accept_mail.Goals as goal

pub returns-clause-shows : goal.returns-clause-shows
returns-clause-shows c n s h =
    let hv : Shows n (the_view c.self.inside) s = subst (λ v. Shows n v s) (sym c.self.view_is) h in
    let lc : c.args.p < length c.self.inside.cpus.items = subst (λ (v : Parts). c.args.p < length v.cpus) (sym c.self.view_is) c.requires in
    subst (λ (x : Local). Shows n (record (the_view c.self.inside) { locals = set c.self.inside.locals.items c.args.p x }) (accept_mail s c.args.p))
    (sym c.accept_mail.ensures)
    (accepted_shows n c.args.p s (the_view c.self.inside) c.index_mut.result.now hv lc c.self.invariant.same c.index_mut.ensures.value)
