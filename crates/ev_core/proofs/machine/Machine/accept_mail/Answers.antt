use Rattle.std.proofs.Common.{◌<◌, length, sym, subst}
use Rattle.ev_core.specs.Run.{MachineView, IsRun, IsStandingAs}
use Rattle.ev_core.specs.contracts.machine.Machine.{the_view}
use Rattle.ev_core.proofs.Standing.{lt}
use Rattle.ev_core.proofs.Acceptance.{accepted_stands, accepted_run}
use Rattle.ev_core.proofs.machine.Machine.accept_mail.Goals as goal

pub invariant_of-self : goal.invariant_of-self
invariant_of-self c =
    let h = c.self.invariant in
    let within = subst (λ (v : MachineView). c.args.p < length v.parts.cpus) (sym c.self.view_is) c.requires in
    let made = accepted_stands h.mode h.image c.args.p (lt _ h c.args.p within) h.system h.machine _ h.so _ (c.accept_mail.ensures.shows _ _ h.so.at.shows) in
    record { mode = h.mode; image = h.image; system = _; machine = _; so = made }

pub returns-clause-accepts : goal.returns-clause-accepts
returns-clause-accepts c mode image s m h =
    let so : IsStandingAs mode image s m (the_view c.self.inside) = subst (λ v. IsStandingAs mode image s m v) (sym c.self.view_is) h in
    let within = subst (λ k. c.args.p < k) h.at.shows.processors c.requires in
    accepted_stands mode image c.args.p within s m _ so _ (c.accept_mail.ensures.shows _ _ so.at.shows)

pub returns-clause-run : goal.returns-clause-run
returns-clause-run c mode image script h =
    let r : IsRun mode image script (the_view c.self.inside) = subst (λ v. IsRun mode image script v) (sym c.self.view_is) h in
    let within = subst (λ k. c.args.p < k) h.at.shows.processors c.requires in
    accepted_run mode image c.args.p within script _ r _ (c.accept_mail.ensures.shows _ _ r.at.shows)
