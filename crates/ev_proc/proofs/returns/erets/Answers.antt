use Rattle.std.proofs.Common.{ap, ◌∙◌}
use Rattle.ev_event.specs.declared.event.Event.{Event}
use Rattle.ev_state.specs.Outcome.{Outcome}
use Rattle.ev_mem.specs.Mapped.{memory}
use Rattle.ev_proc.specs.ProcessorStep.{fault, after_return}
use Rattle.ev_fred.specs.FredDelivery.{erets}
use Rattle.ev_proc.proofs.Returned.{after_entries, after_event, erets_again}
use Rattle.ev_proc.proofs.Specials.{no_erets, is_erets}
use Rattle.ev_proc.proofs.returns.erets.Goals as goal

pub returns-then-not-has_fred-clause-is : goal.returns-then-not-has_fred-clause-is
returns-then-not-has_fred-clause-is c = λ a nmi next. c.fault.ensures.is a nmi ∙ ap (λ (e : Event). fault c.args.cpu.now a (memory c.args.mem.now) nmi e)
    c.ud.ensures ∙ no_erets c.args.cpu.now a (memory c.args.mem.now) nmi next c.if-not-has_fred.ensures

pub after_return-requires-clause-entries : goal.after_return-requires-clause-entries
after_return-requires-clause-entries c = after_entries c.args.cpu.now c.erets-answer.new.cpu (memory c.args.mem.now) c.erets-answer.result
    (erets c.args.cpu.now (memory c.args.mem.now)) (c.erets-answer.ensures) (erets_again c.args.cpu.now (memory c.args.mem.now)) c.requires

pub after_return-requires-clause-event : goal.after_return-requires-clause-event
after_return-requires-clause-event c = after_event c.args.cpu.now c.erets-answer.new.cpu (memory c.args.mem.now) c.erets-answer.result
    (erets c.args.cpu.now (memory c.args.mem.now)) (c.erets-answer.ensures) (erets_again c.args.cpu.now (memory c.args.mem.now))

pub returns-clause-is : goal.returns-clause-is
returns-clause-is c = λ a nmi next.
    c.after_return.ensures.is a nmi ∙ ap (λ (o : Outcome). after_return a (memory c.args.mem.now) nmi o) (c.erets-answer.ensures)
    ∙ is_erets c.args.cpu.now a (memory c.args.mem.now) nmi next c.if-not-has_fred.ensures
