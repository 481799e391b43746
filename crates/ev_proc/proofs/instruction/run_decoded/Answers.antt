-- A fault of the fetch is delivered.
use Rattle.std.proofs.Common.{◌≡◌, ℕ, true, false, Option, Some, ap, ◌∙◌}
use Rattle.ev_event.specs.declared.event.Event.{Event}
use Rattle.ev_event.specs.Event.{pf}
use Rattle.ev_state.specs.Processor.{Processor, is_user}
use Rattle.ev_mem.specs.Mapped.{memory}
use Rattle.ev_mem.specs.Memory.{page_fault}
use Rattle.ev_proc.specs.ProcessorStep.{fault, fetched}
use Rattle.ev_proc.proofs.instruction.run_decoded.Goals as goal

pub returns-in-Some-clause-is : goal.returns-in-Some-clause-is
returns-in-Some-clause-is c = λ nmi.
    let o : Some c.in-Some.code ≡ page_fault (memory c.args.mem.now) (record { user = is_user c.args.cpu.now; write = false; fetch = true })
    c.args.cpu.now.rip = c.in-Some.ensures
    ∙ ap (λ (p : Processor). page_fault (memory c.args.mem.now) (record { user = is_user p; write = false; fetch = true }) p.rip) c.cpu.view_is in
    c.fault-in-Some.ensures.is c.args.apic.now nmi ∙ ap (λ (e : Event). fault c.args.cpu.now c.args.apic.now (memory c.args.mem.now) nmi e) c.exception.ensures
    ∙ ap (λ (p : Processor). fault c.args.cpu.now c.args.apic.now (memory c.args.mem.now) nmi (pf c.in-Some.code p.rip)) c.cpu.view_is
    ∙ ap (λ (x : Option ℕ). fetched c.args.cpu.now c.args.apic.now (memory c.args.mem.now) nmi x) o
