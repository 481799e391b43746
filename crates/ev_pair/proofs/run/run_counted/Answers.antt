use Rattle.std.proofs.Common.{OnErr, sym, subst}
use Rattle.ev_io.specs.Transfer.{TookPrefix}
use Rattle.ev_concrete.specs.RunText.{run_text}
use Rattle.ev_pair.specs.declared.modes.Modes.{Modes}
use Rattle.ev_pair.specs.Modes.{modes_of}
use Rattle.ev_pair.proofs.run.run_counted.Goals as goal

pub returns-in-Idt-clause-failed : goal.returns-in-Idt-clause-failed
returns-in-Idt-clause-failed g c = subst (λ (modes : Modes). OnErr c.run_one.result (TookPrefix (g.K.Sink.taken c.args.sink.now)
    (g.K.Sink.taken c.run_one.new.sink) (run_text c.args.accepted.now.image c.args.script.now (modes_of modes) c.args.frames))) (sym c.in-Idt.is)
    c.run_one.ensures.failed

pub returns-in-Fred-clause-failed : goal.returns-in-Fred-clause-failed
returns-in-Fred-clause-failed g c = subst (λ (modes : Modes). OnErr c.run_one-in-Fred.result (TookPrefix (g.K.Sink.taken c.args.sink.now)
    (g.K.Sink.taken c.run_one-in-Fred.new.sink) (run_text c.args.accepted.now.image c.args.script.now (modes_of modes) c.args.frames)))
    (sym c.in-Fred.is) c.run_one-in-Fred.ensures.failed

pub returns-clause-failed : goal.returns-clause-failed
returns-clause-failed g c = subst (λ (modes : Modes). OnErr c.run_both.result (TookPrefix (g.K.Sink.taken c.args.sink.now)
    (g.K.Sink.taken c.run_both.new.sink) (run_text c.args.accepted.now.image c.args.script.now (modes_of modes) c.args.frames))) (sym c.in-Both.is)
    c.run_both.ensures.failed
