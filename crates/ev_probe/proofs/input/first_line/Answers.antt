use Rattle.std.proofs.Common.{◌∙◌, None, Some, ap, sym, List, ℕ}
use Rattle.ev_io.specs.Tokens.{tokens_of}
use Rattle.ev_io.proofs.StandLaws.{stands_first, stands_more}
use Rattle.ev_probe.specs.ProbeLine.{probe_line}
use Rattle.ev_probe.specs.Input.{follows}
use Rattle.ev_probe.proofs.Inputs.{bad_line, faulty, follow_bad, follow_first, last_line}
use Rattle.ev_probe.proofs.input.first_line.Goals as goal

pub returns-in-Err-clause-reads : goal.returns-in-Err-clause-reads
returns-in-Err-clause-reads g c = λ bytes e.
    let stands = stands_first follows c.args.lines.now None bytes _ e in
    let skips = c.in-Err.ensures.said stands.left stands.to_come in
    rw c.fault_of.ensures (faulty c.args.lines.now bytes c.args.lines.now _ None c.next_said.new.self _ c.in-Err.fault stands skips)

pub returns-in-Ok-None-clause-reads : goal.returns-in-Ok-None-clause-reads
returns-in-Ok-None-clause-reads g c = λ bytes e.
    let stands = stands_first follows c.args.lines.now None bytes _ e in
    let skips = rw c.in-Ok-None.field-0-is at (c.in-Ok-None.ensures.said stands.left stands.to_come) in
    rw c.number.ensures (last_line c.args.lines.now bytes c.args.lines.now _ c.next_said.new.self stands skips)

pub returns-in-Ok-clause-reads : goal.returns-in-Ok-clause-reads
returns-in-Ok-clause-reads g c = λ bytes e.
    let stands = stands_first follows c.args.lines.now None bytes _ e in
    let skips = rw c.in-Ok-Some.field-0-is at (c.in-Ok-Some.ensures.said stands.left stands.to_come) in
    stands_more follows c.args.lines.now None bytes c.args.lines.now _ None c.next_said.new.self _ c.in-Ok-Some.number (Some c.in-Ok.line) stands skips
    (follow_first _ c.in-Ok.line (ap (λ (x : List ℕ). probe_line (tokens_of x)) (sym c.text.ensures) ∙ c.in-Ok.ensures.is))

pub returns-in-Err-BadLine-clause-reads : goal.returns-in-Err-BadLine-clause-reads
returns-in-Err-BadLine-clause-reads g c = λ bytes e.
    let stands = stands_first follows c.args.lines.now None bytes _ e in
    let skips = rw c.in-Ok-Some.field-0-is at (c.in-Ok-Some.ensures.said stands.left stands.to_come) in
    let said = rw c.in-Err-BadLine.field-0-is at c.in-Err-BadLine.ensures.is in
    bad_line c.args.lines.now bytes c.args.lines.now _ None c.next_said.new.self _ c.in-Ok-Some.number c.in-Err-BadLine.cause stands skips
    (follow_bad _ c.in-Err-BadLine.cause (ap (λ (x : List ℕ). probe_line (tokens_of x)) (sym c.text.ensures) ∙ said))
