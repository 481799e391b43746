use Rattle.std.proofs.Common.{◌≡◌, ◌+◌, ◌≤◌, drop, map}
use Rattle.ev_asm.specs.Assembly.{total_size}
use Rattle.ev_stub.specs.Lines.{marked_of, stmt_of}
use Rattle.ev_stub.specs.Position.{index_from}
use Rattle.ev_stub.proofs.position.index_from.Given as goal

abbrev pub invariant-loop-line : goal.invariant-loop-line
invariant-loop-line l = record {
  same : index_from l.index l.at l.rip (map marked_of (drop l.line-index l.lines)) ≡ index_from l.first l.address l.rip (map marked_of l.lines);
  room : l.at + total_size (map stmt_of (drop l.line-index l.lines)) ≡ l.address + total_size (map stmt_of l.lines);
  few : l.index ≤ l.first + l.line-index;
}
