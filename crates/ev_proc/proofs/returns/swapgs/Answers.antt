use Rattle.std.proofs.Common.{◌≡◌, ap, ◌∙◌}
use Rattle.ev_event.specs.declared.event.Event.{Event}
use Rattle.ev_state.specs.Processor.{Processor}
use Rattle.ev_mem.specs.Mapped.{memory}
use Rattle.ev_proc.specs.ProcessorStep.{fault}
use Rattle.ev_exec.specs.Exec.{at_next}
use Rattle.ev_proc.specs.ProcessorStep.{ran}
use Rattle.ev_idt.specs.IdtDelivery.{swapgs}
use Rattle.ev_proc.proofs.Specials.{no_swapgs, is_swapgs}
use Rattle.ev_proc.proofs.returns.swapgs.Goals as goal

pub returns-then-has_fred-clause-is : goal.returns-then-has_fred-clause-is
returns-then-has_fred-clause-is c = λ a nmi. c.fault.ensures.is a nmi ∙ ap (λ (e : Event). fault c.args.cpu.now a (memory c.args.mem.now) nmi e)
    c.ud.ensures ∙ no_swapgs c.args.cpu.now a (memory c.args.mem.now) nmi c.args.next c.if-has_fred.ensures

pub returns-clause-is : goal.returns-clause-is
returns-clause-is c = λ a nmi.
    let went : c.go_on.new.cpu ≡ at_next (swapgs c.args.cpu.now) c.args.next =
    c.go_on.ensures ∙ ap (λ (p : Processor). at_next p c.args.next) c.swapgs.ensures in
    ap (λ (p : Processor). ran p a (memory c.args.mem.now).words nmi) went ∙ is_swapgs c.args.cpu.now a (memory c.args.mem.now) nmi c.args.next
    c.if-has_fred.ensures
