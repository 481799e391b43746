use Rattle.std.proofs.Common.{ap, ◌∙◌}
use Rattle.ev_event.specs.declared.event.Event.{Event}
use Rattle.ev_mem.specs.Mapped.{memory}
use Rattle.ev_proc.specs.ProcessorStep.{fault}
use Rattle.ev_apic.specs.Send.{sent}
use Rattle.ev_proc.proofs.Specials.{send_none}
use Rattle.ev_proc.proofs.model_specific.send.Goals as goal

pub returns-in-Err-clause-is : goal.returns-in-Err-clause-is
returns-in-Err-clause-is c = λ a nmi.
    c.fault.ensures.is a nmi ∙ ap (λ (e : Event). fault c.args.cpu.now a (memory c.args.mem.now) nmi e) c.gp.ensures
    ∙ send_none c.args.cpu.now a (memory c.args.mem.now) nmi c.args.next (sent c.args.v) c.in-Err.field-0 c.in-Err.ensures
