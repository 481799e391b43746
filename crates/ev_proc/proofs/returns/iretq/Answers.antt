use Rattle.std.proofs.Common.{ap, ◌∙◌}
use Rattle.ev_state.specs.Outcome.{Outcome}
use Rattle.ev_mem.specs.Mapped.{memory}
use Rattle.ev_proc.specs.ProcessorStep.{after_return}
use Rattle.ev_idt.specs.IdtDelivery.{iretq}
use Rattle.ev_proc.proofs.Returned.{after_entries, after_event, iretq_again}
use Rattle.ev_proc.proofs.Specials.{is_iretq}
use Rattle.ev_proc.proofs.returns.iretq.Goals as goal

pub after_return-requires-clause-entries : goal.after_return-requires-clause-entries
after_return-requires-clause-entries c = after_entries c.args.cpu.now c.iretq-answer.new.cpu (memory c.args.mem.now) c.iretq-answer.result
    (iretq c.args.cpu.now (memory c.args.mem.now)) (c.iretq-answer.ensures) (iretq_again c.args.cpu.now (memory c.args.mem.now)) c.requires

pub after_return-requires-clause-event : goal.after_return-requires-clause-event
after_return-requires-clause-event c = after_event c.args.cpu.now c.iretq-answer.new.cpu (memory c.args.mem.now) c.iretq-answer.result
    (iretq c.args.cpu.now (memory c.args.mem.now)) (c.iretq-answer.ensures) (iretq_again c.args.cpu.now (memory c.args.mem.now))

pub returns-clause-is : goal.returns-clause-is
returns-clause-is c = λ a nmi next.
    c.after_return.ensures.is a nmi ∙ ap (λ (o : Outcome). after_return a (memory c.args.mem.now) nmi o) (c.iretq-answer.ensures)
    ∙ is_iretq c.args.cpu.now a (memory c.args.mem.now) nmi next
