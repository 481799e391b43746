-- #UD where no instruction begins at RIP, or where user code may not hold it.
use Rattle.std.proofs.Common.{◌≡◌, ℕ, None, Option, Some, sym, subst, ap, ◌∙◌}
use Rattle.ev_event.specs.declared.event.Event.{Event}
use Rattle.ev_isa.specs.declared.instruction.Ins.{Ins}
use Rattle.ev_mem.specs.Mapped.{memory}
use Rattle.ev_proc.specs.Conditions.{IsDecoded}
use Rattle.ev_proc.specs.ProcessorStep.{executed, fault, instruction_at}
use Rattle.ev_proc.proofs.Specials.{not_user}
use Rattle.ev_proc.proofs.instruction.execute_decoded.Goals as goal

pub returns-then-not-user_may-clause-is : goal.returns-then-not-user_may-clause-is
returns-then-not-user_may-clause-is c = λ nmi.
    let found : Option Ins = instruction_at (memory c.args.mem.now).words c.args.cpu.now.rip in
    let decoded = subst (λ (d : Option (Ins × ℕ)). IsDecoded found d) c.in-Some.is c.requires.decoded in
    c.fault.ensures.is c.args.apic.now nmi ∙ ap (λ (e : Event). fault c.args.cpu.now c.args.apic.now (memory c.args.mem.now) nmi e) c.ud.ensures
    ∙ not_user c.args.cpu.now c.args.apic.now (memory c.args.mem.now) nmi c.in-Some.i found c.is_user.result c.user_may.result c.is_user.ensures
    c.user_may.ensures c.if-is_user.true c.if-not-user_may.true decoded.0

pub returns-in-None-clause-is : goal.returns-in-None-clause-is
returns-in-None-clause-is c = λ nmi.
    let found : Option Ins = instruction_at (memory c.args.mem.now).words c.args.cpu.now.rip in
    let decoded = subst (λ (d : Option (Ins × ℕ)). IsDecoded found d) c.in-None.is c.requires.decoded in
    c.fault-in-None.ensures.is c.args.apic.now nmi
    ∙ ap (λ (e : Event). fault c.args.cpu.now c.args.apic.now (memory c.args.mem.now) nmi e) c.ud-in-None.ensures
    ∙ ap (λ (x : Option Ins). executed c.args.cpu.now c.args.apic.now (memory c.args.mem.now) nmi x) (sym decoded)
