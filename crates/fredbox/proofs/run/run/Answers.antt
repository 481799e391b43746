use Rattle.std.proofs.Common.{rules, ◌≡◌, true}
use Rattle.std.specs.Prelude.{Ok}
use Rattle.std.specs.List.{list_all}
use Rattle.ev_built.specs.Built.{line_is_built}
use Rattle.ev_built.specs.RunTakes.{is_built}
use Rattle.ev_concrete.specs.RunText.{run_text}
use Rattle.ev_io.specs.InputLines.{lines_of}
use Rattle.ev_script.specs.Script.{read_script}
use Rattle.fredbox.specs.Answer.{modes_of}
use Rattle.fredbox.specs.Taken.{Wrote}
use Rattle.fredbox.proofs.TakenLaws.{ran_took}
use Rattle.fredbox.proofs.run.run.Goals as goal

pub returns-clause-took : goal.returns-clause-took
returns-clause-took g c = λ bytes e.
    let reads = c.in-Ok-read_lines.ensures.reads bytes e in
    let items = c.in-Ok-read_lines.script.lines.items in
    let built : is_built c.args.image ≡ true = search rules in
    let read : read_script c.args.image c.args.lines.now.number c.args.lines.now.gone (lines_of bytes) ≡ Ok items = search rules in
    let all : list_all line_is_built items ≡ true = search rules in
    let wrote : Wrote (g.K.Sink.taken c.args.sink.now) (g.K.Sink.taken c.write_run.new.sink)
    (run_text c.args.image items (modes_of c.args.mode) c.args.frames) c.write_run.result = search rules in
    ran_took _ _ c.args.mode c.args.frames c.args.image c.in-Ok.accepted.bound _ items _ built c.in-Ok.ensures.accepted.1 read all wrote
