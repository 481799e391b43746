use Rattle.ev_io.specs.InputLines.{lines_of}
use Rattle.ev_probe.specs.Told.{told}
use Rattle.ev_probe.proofs.Inputs.{told_line}
use Rattle.ev_probe.proofs.input.read_probe.Goals as goal

pub returns-in-Ok-clause-reads : goal.returns-in-Ok-clause-reads
returns-in-Ok-clause-reads g c = λ bytes e.
    told_line c.args.lines.now.number c.args.lines.now.gone (lines_of bytes) c.in_ok-line.line (told c.in-Ok.report) (c.in_ok-line.ensures.reads bytes e)
    c.in-Ok.ensures
