use Rattle.std.proofs.Common.{Result, sym, ap, ◌∙◌}
use Rattle.ev_event.specs.declared.event.Event.{Event}
use Rattle.ev_mem.specs.Mapped.{memory}
use Rattle.ev_words.specs.Answer.{return_of}
use Rattle.ev_proc.specs.ProcessorStep.{after_return}
use Rattle.ev_proc.proofs.returns.after_return.Goals as goal

pub returns-in-Err-clause-is : goal.returns-in-Err-clause-is
returns-in-Err-clause-is c = λ a nmi.
    c.fault.ensures.is a nmi ∙ ap
    (λ (r : Result (Unit {0}) Event). after_return a (memory c.args.mem.now) nmi (return_of r c.args.cpu.now (memory c.args.mem.now).words))
    (sym c.in-Err.is)
