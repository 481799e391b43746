use Rattle.std.proofs.Common.{sym, subst}
use Rattle.ev_command.specs.declared.command.Command.TheVariants.{Probe}
use Rattle.ev_probe.specs.Told.{told}
use Rattle.fredbox.specs.Answer.{comes_of}
use Rattle.fredbox.specs.Taken.{Took}
use Rattle.fredbox.proofs.TakenLaws.{fresh_coming, probe_refused, probe_took}
use Rattle.fredbox.proofs.probe.probe.Goals as goal

pub returns-in-Ok-clause-took : goal.returns-in-Ok-clause-took
returns-in-Ok-clause-took g c = λ bytes e.
    probe_took _ _ bytes c.args.lines.now (told c.in-Ok.report) _ c.requires.fresh
    (c.in-Ok.ensures.reads bytes (fresh_coming _ _ bytes c.requires.fresh e)) c.write_report.ensures.wrote

pub returns-in-Err-clause-took : goal.returns-in-Err-clause-took
returns-in-Err-clause-took g c = λ bytes e.
    subst (Took (g.K.Sink.taken c.args.sink.now) (g.K.Sink.taken c.args.sink.now) (comes_of Probe bytes)) (sym c.input_status.ensures.is)
    (probe_refused _ bytes c.args.lines.now _ _ c.in-Err.fault c.requires.fresh (c.in-Err.ensures.reads bytes (fresh_coming _ _ bytes c.requires.fresh e)))
