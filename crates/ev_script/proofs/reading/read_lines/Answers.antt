use Rattle.ev_io.proofs.Bytes.{draws_then}
use Rattle.ev_io.proofs.EndLaws.{nothing_left}
use Rattle.ev_script.proofs.ScriptLaws.{faulty, bad_line, nothing_follows, whole_script}
use Rattle.ev_script.proofs.reading.read_lines.Goals as goal

pub returns-in-Err-clause-reads : goal.returns-in-Err-clause-reads
returns-in-Err-clause-reads g c = λ bytes e.
    let stands = c.in_ok-script.ensures.reads bytes e in
    let skips = c.in-Err.ensures.said stands.left stands.to_come in
    rw c.fault_of.ensures (faulty c.args.image.now c.args.lines.now bytes c.read_to_end.new.lines _ _ c.next_said.new.self _ c.in-Err.fault stands skips)

pub returns-in-Err-clause-draws : goal.returns-in-Err-clause-draws
returns-in-Err-clause-draws g c = draws_then _ _ _ _ _ _ c.read_to_end.ensures.draws c.next_said.ensures.draws

pub returns-in-Ok-Some-clause-reads : goal.returns-in-Ok-Some-clause-reads
returns-in-Ok-Some-clause-reads g c = λ bytes e.
    let stands = c.in_ok-script.ensures.reads bytes e in
    let skips = rw c.in-Ok-Some.field-0-is at (c.in-Ok-Some.ensures.said stands.left stands.to_come) in
    bad_line c.args.image.now c.args.lines.now bytes c.read_to_end.new.lines _ _ c.next_said.new.self _ c.in-Ok-Some.number _ stands skips
    (nothing_follows c.args.image.now c.in_ok-script.script.items _)

pub returns-in-Ok-Some-clause-draws : goal.returns-in-Ok-Some-clause-draws
returns-in-Ok-Some-clause-draws g c = draws_then _ _ _ _ _ _ c.read_to_end.ensures.draws c.next_said.ensures.draws

pub returns-in-Ok-None-clause-reads : goal.returns-in-Ok-None-clause-reads
returns-in-Ok-None-clause-reads g c = λ bytes e.
    let stands = c.in_ok-script.ensures.reads bytes e in
    let skips = rw c.in-Ok-None.field-0-is at (c.in-Ok-None.ensures.said stands.left stands.to_come) in
    whole_script c.args.image.now c.args.lines.now bytes c.read_to_end.new.lines _ c.in_ok-script.script.items c.next_said.new.self stands skips

pub returns-in-Ok-None-clause-draws : goal.returns-in-Ok-None-clause-draws
returns-in-Ok-None-clause-draws g c = draws_then _ _ _ _ _ _ c.read_to_end.ensures.draws c.next_said.ensures.draws

pub returns-in-Ok-None-clause-end : goal.returns-in-Ok-None-clause-end
returns-in-Ok-None-clause-end g c = λ bytes e.
    let stands = c.in_ok-script.ensures.reads bytes e in
    let skips = rw c.in-Ok-None.field-0-is at (c.in-Ok-None.ensures.said stands.left stands.to_come) in
    nothing_left c.read_to_end.new.lines c.next_said.new.self stands.left _ _ stands.to_come c.next_said.ensures.draws skips
