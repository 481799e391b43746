use Rattle.std.proofs.Common.{◌==◌, refl, ap, ◌∙◌}
use Rattle.ev_event.specs.declared.event.Event.{Event}
use Rattle.ev_mem.specs.Mapped.{memory}
use Rattle.ev_event.specs.Event.{gp}
use Rattle.ev_proc.specs.ProcessorStep.{fault, ran}
use Rattle.ev_exec.specs.Exec.{at_next}
use Rattle.ev_apic.specs.Apic.{ended}
use Rattle.ev_proc.proofs.Specials.{else_is, not_zero}
use Rattle.ev_proc.proofs.model_specific.end_interrupt.Goals as goal

pub returns-then-v-ne0-clause-is : goal.returns-then-v-ne0-clause-is
returns-then-v-ne0-clause-is c = λ nmi.
    c.fault.ensures.is c.args.apic.now nmi ∙ ap (λ (e : Event). fault c.args.cpu.now c.args.apic.now (memory c.args.mem.now) nmi e) c.gp.ensures
    ∙ else_is (c.args.v == 0) (ran (at_next c.args.cpu.now c.args.next) (ended c.args.apic.now) (memory c.args.mem.now).words nmi)
    (fault c.args.cpu.now c.args.apic.now (memory c.args.mem.now) nmi (gp 0)) (not_zero c.args.v (c.args.v == 0) refl c.if-v-ne0.true)
