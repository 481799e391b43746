use Rattle.std.proofs.lemmas.Result.{err_from_is_err_and}
use Rattle.ev_probe.specs.Told.{told}
use Rattle.ev_probe.proofs.Answers.{answers, refuses}
use Rattle.ev_probe.proofs.probing.probe.Goals as goal

pub returns-in_err-l : goal.returns-in_err-l
returns-in_err-l c =
    let p = err_from_is_err_and c.from_residual.result c.from_residual.ensures.1 in
    rw (p.1, p.2) (refuses c.args.line.now c.in_err-l.field-0.0 c.in_err-l.ensures.is)

pub returns-in-Ok : goal.returns-in-Ok
returns-in-Ok c = answers c.args.line.now c.in_ok-l.l (told c.in-Ok.report) c.in_ok-l.ensures.is c.in-Ok.ensures
