use Rattle.std.proofs.Common.{ap, ◌∙◌}
use Rattle.ev_event.specs.declared.event.Event.{Event}
use Rattle.ev_mem.specs.Mapped.{memory}
use Rattle.ev_proc.specs.ProcessorStep.{delivering}
use Rattle.ev_proc.proofs.Specials.{call_event}
use Rattle.ev_proc.proofs.special.system_call.Goals as goal

pub returns-then-has_fred-clause-is : goal.returns-then-has_fred-clause-is
returns-then-has_fred-clause-is c = λ a nmi.
    c.deliver.ensures.is a nmi ∙ ap (λ (e : Event). delivering c.args.cpu.now a (memory c.args.mem.now) nmi e c.args.next) c.software-event.ensures
    ∙ call_event c.args.cpu.now a (memory c.args.mem.now) nmi c.args.next c.if-has_fred.ensures
