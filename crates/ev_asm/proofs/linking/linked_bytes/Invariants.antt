use Rattle.std.proofs.Common.{◌≡◌, ◌+◌, ◌++◌, true, drop}
use Rattle.ev_asm.specs.Assembly.{code, total_size}
use Rattle.ev_asm.specs.Linked.{all_reach}
use Rattle.ev_asm.proofs.linking.linked_bytes.Given as goal

abbrev pub invariant-loop-s : goal.invariant-loop-s
invariant-loop-s l = record {
  written : l.bytes.items ++ code l.labels l.at (drop l.s-index l.stmts) ≡ code l.labels l.address l.stmts;
  reach : all_reach l.labels l.at (drop l.s-index l.stmts) ≡ true;
  room : l.at + total_size (drop l.s-index l.stmts) ≡ l.address + total_size l.stmts;
}
