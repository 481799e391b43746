use Rattle.std.proofs.Common.{false, ap, ◌∙◌}
use Rattle.ev_event.specs.declared.event.Event.{Event}
use Rattle.ev_apic.specs.declared.apic.Apic.{Apic}
use Rattle.ev_mem.specs.Mapped.{memory}
use Rattle.ev_proc.specs.ProcessorStep.{delivering}
use Rattle.ev_event.specs.Event.{interrupt_event}
use Rattle.ev_event.specs.declared.boundary.Next.TheVariants.{Nmi, Interrupt}
use Rattle.ev_proc.proofs.Specials.{by_next}
use Rattle.ev_proc.proofs.boundary.step_decoded.Goals as goal

pub returns-in-Nmi-clause-is : goal.returns-in-Nmi-clause-is
returns-in-Nmi-clause-is c =
    c.deliver_at_boundary.ensures.is c.args.apic.now false
    ∙ ap (λ (e : Event). delivering c.args.cpu.now c.args.apic.now (memory c.args.mem.now) false e c.args.cpu.now.rip) c.nmi.ensures
    ∙ by_next c.args.cpu.now c.args.apic.now (memory c.args.mem.now) c.args.nmi.now Nmi c.in-Nmi.ensures

pub returns-in-Interrupt-clause-is : goal.returns-in-Interrupt-clause-is
returns-in-Interrupt-clause-is c =
    c.deliver_at_boundary-in-Interrupt.ensures.is c.begin.new.self c.args.nmi.now
    ∙ ap (λ (e : Event). delivering c.args.cpu.now c.begin.new.self (memory c.args.mem.now) c.args.nmi.now e c.args.cpu.now.rip) c.interrupt.ensures
    ∙ ap (λ (a : Apic). delivering c.args.cpu.now a (memory c.args.mem.now) c.args.nmi.now (interrupt_event c.in-Interrupt.vector) c.args.cpu.now.rip)
    c.begin.ensures
    ∙ by_next c.args.cpu.now c.args.apic.now (memory c.args.mem.now) c.args.nmi.now (Interrupt c.in-Interrupt.vector) c.in-Interrupt.ensures
