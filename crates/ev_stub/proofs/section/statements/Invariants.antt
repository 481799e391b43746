use Rattle.std.proofs.Common.{◌≡◌, take, map}
use Rattle.ev_stub.specs.Lines.{stmt_of}
use Rattle.ev_stub.proofs.section.statements.Given as goal

abbrev pub invariant-loop-line : goal.invariant-loop-line
invariant-loop-line l = l.stmts.items ≡ map stmt_of (take l.line-index l.lines)
