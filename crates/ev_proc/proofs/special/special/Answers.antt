use Rattle.std.proofs.Common.{sym, ap, ◌∙◌}
use Rattle.ev_event.specs.declared.event.Event.{Event}
use Rattle.ev_isa.specs.declared.instruction.Ins.{Ins}
use Rattle.ev_mem.specs.Mapped.{memory}
use Rattle.ev_proc.specs.ProcessorStep.{delivering, fault, special}
use Rattle.ev_proc.proofs.Specials.{is_int1, is_int3, is_int_n, rest}
use Rattle.ev_proc.proofs.special.special.Goals as goal

pub returns-in-Int1-clause-is : goal.returns-in-Int1-clause-is
returns-in-Int1-clause-is c = λ nmi.
    c.deliver.ensures.is c.args.apic.now nmi ∙ ap (λ (e : Event). delivering c.args.cpu.now c.args.apic.now (memory c.args.mem.now) nmi e c.args.next)
    c.software.ensures
    ∙ is_int1 c.args.cpu.now c.args.apic.now (memory c.args.mem.now) nmi c.args.next
    ∙ ap (λ (i : Ins). special c.args.cpu.now c.args.apic.now (memory c.args.mem.now) nmi c.args.next i) (sym c.in-Int1.is)

pub returns-in-Int3-clause-is : goal.returns-in-Int3-clause-is
returns-in-Int3-clause-is c = λ nmi.
    c.deliver-in-Int3.ensures.is c.args.apic.now nmi
    ∙ ap (λ (e : Event). delivering c.args.cpu.now c.args.apic.now (memory c.args.mem.now) nmi e c.args.next) c.software-in-Int3.ensures
    ∙ is_int3 c.args.cpu.now c.args.apic.now (memory c.args.mem.now) nmi c.args.next
    ∙ ap (λ (i : Ins). special c.args.cpu.now c.args.apic.now (memory c.args.mem.now) nmi c.args.next i) (sym c.in-Int3.is)

pub returns-in-IntN-clause-is : goal.returns-in-IntN-clause-is
returns-in-IntN-clause-is c = λ nmi.
    c.deliver-in-IntN.ensures.is c.args.apic.now nmi
    ∙ ap (λ (e : Event). delivering c.args.cpu.now c.args.apic.now (memory c.args.mem.now) nmi e c.args.next) c.software-in-IntN.ensures
    ∙ is_int_n c.args.cpu.now c.args.apic.now (memory c.args.mem.now) nmi c.args.next c.in-IntN.n
    ∙ ap (λ (i : Ins). special c.args.cpu.now c.args.apic.now (memory c.args.mem.now) nmi c.args.next i) (sym c.in-IntN.is)

pub returns-in-Sysretq-clause-is : goal.returns-in-Sysretq-clause-is
returns-in-Sysretq-clause-is c = λ nmi. c.sysretq.ensures.is c.args.apic.now nmi c.args.next
    ∙ ap (λ (i : Ins). special c.args.cpu.now c.args.apic.now (memory c.args.mem.now) nmi c.args.next i) (sym c.in-Sysretq.is)

pub returns-in-Iretq-clause-is : goal.returns-in-Iretq-clause-is
returns-in-Iretq-clause-is c = λ nmi. c.iretq.ensures.is c.args.apic.now nmi c.args.next
    ∙ ap (λ (i : Ins). special c.args.cpu.now c.args.apic.now (memory c.args.mem.now) nmi c.args.next i) (sym c.in-Iretq.is)

pub returns-in-Eretu-clause-is : goal.returns-in-Eretu-clause-is
returns-in-Eretu-clause-is c = λ nmi. c.eretu.ensures.is c.args.apic.now nmi c.args.next
    ∙ ap (λ (i : Ins). special c.args.cpu.now c.args.apic.now (memory c.args.mem.now) nmi c.args.next i) (sym c.in-Eretu.is)

pub returns-in-Erets-clause-is : goal.returns-in-Erets-clause-is
returns-in-Erets-clause-is c = λ nmi. c.erets.ensures.is c.args.apic.now nmi c.args.next
    ∙ ap (λ (i : Ins). special c.args.cpu.now c.args.apic.now (memory c.args.mem.now) nmi c.args.next i) (sym c.in-Erets.is)

pub returns-in_default : goal.returns-in_default
returns-in_default c = record {
  is = λ nmi. c.fault.ensures.is c.args.apic.now nmi ∙ ap (λ (e : Event). fault c.args.cpu.now c.args.apic.now (memory c.args.mem.now) nmi e) c.ud.ensures
      ∙ rest c.args.cpu.now c.args.apic.now (memory c.args.mem.now) nmi c.args.next c.args.i.now c.in_default.not-IntN c.in_default.not-Lkgs
      c.in_default.not-Int3 c.in_default.not-Int1 c.in_default.not-Syscall c.in_default.not-Sysretq c.in_default.not-Iretq c.in_default.not-Swapgs
      c.in_default.not-Eretu c.in_default.not-Erets c.in_default.not-Rdmsr c.in_default.not-Wrmsr;
  regions = c.fault.ensures.regions;
}
