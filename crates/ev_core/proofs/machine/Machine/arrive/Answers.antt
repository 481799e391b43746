use Rattle.std.proofs.Common.{◌<◌, length, sym, subst}
use Rattle.ev_abstract.specs.Run.{run}
use Rattle.ev_core.specs.Run.{MachineView, IsRun, IsStandingAs}
use Rattle.ev_core.specs.contracts.machine.Machine.{the_view}
use Rattle.ev_core.proofs.Standing.{lt}
use Rattle.ev_core.proofs.Turns.{as_run}
use Rattle.ev_core.proofs.Interrupts.{arrived_stands, arrived_run, only_interrupts}
use Rattle.ev_core.proofs.machine.Machine.arrive.Goals as goal

pub invariant_of-self : goal.invariant_of-self
invariant_of-self c =
    let h = c.self.invariant in
    let within = subst (λ (v : MachineView). c.args.p < length v.parts.cpus) (sym c.self.view_is) c.requires.place in
    let seen = subst (λ v. IsStandingAs h.mode h.image h.system h.machine v) c.self.view_is h.so in
    let made = arrived_stands h.mode h.image c.args.p c.in-Irq.v c.args.key c.in-Irq.is (lt _ h c.args.p within) c.requires.sendable
    (c.requires.body h.mode h.image h.system h.machine seen) h.system h.machine _ h.so _ (c.arrive.ensures.shows _ _ h.so.at.shows) in
    record { mode = h.mode; image = h.image; system = _; machine = _; so = made }

pub returns-clause-run : goal.returns-clause-run
returns-clause-run c mode image script h =
    let r : IsRun mode image script (the_view c.self.inside) = subst (λ v. IsRun mode image script v) (sym c.self.view_is) h in
    let within = subst (λ k. c.args.p < k) h.at.shows.processors c.requires.place in
    let has = c.requires.body mode image _ (run image script) (as_run mode image script _ h c.args.p c.requires.place) in
    arrived_run mode image c.args.p c.in-Irq.v c.args.key c.in-Irq.is within c.requires.sendable has script _ r _
    (c.arrive.ensures.shows _ _ r.at.shows)

pub returns-clause-arrives : goal.returns-clause-arrives
returns-clause-arrives c mode image s m h =
    let so : IsStandingAs mode image s m (the_view c.self.inside) = subst (λ v. IsStandingAs mode image s m v) (sym c.self.view_is) h in
    let within = subst (λ k. c.args.p < k) h.at.shows.processors c.requires.place in
    let has = c.requires.body mode image s m h in
    arrived_stands mode image c.args.p c.in-Irq.v c.args.key c.in-Irq.is within c.requires.sendable has s m _ so _
    (c.arrive.ensures.shows _ _ so.at.shows)

pub returns-in_default-clause-run : goal.returns-in_default-clause-run
returns-in_default-clause-run c mode image script h = absurd (only_interrupts c.args.p c.args.key c.requires.built c.in_default.not-Irq)

pub returns-in_default-clause-arrives : goal.returns-in_default-clause-arrives
returns-in_default-clause-arrives c mode image s m h = absurd (only_interrupts c.args.p c.args.key c.requires.built c.in_default.not-Irq)
