use Rattle.std.proofs.Common.{◌≡◌, ◌+◌, ◌≤◌, ◌++◌, drop}
use Rattle.ev_asm.specs.Assembly.{code, total_size}
use Rattle.ev_asm.specs.Assembled.{addresses_of}
use Rattle.ev_asm.proofs.assembly.written.Given as goal

abbrev pub invariant-loop-s : goal.invariant-loop-s
invariant-loop-s l = record {
  written : l.bytes.items ++ code l.labels l.at (drop l.s-index l.stmts) ≡ code l.labels l.base l.stmts;
  placed : l.places.items ++ addresses_of l.at (drop l.s-index l.stmts) ≡ addresses_of l.base l.stmts;
  starts : l.base ≤ l.at;
  room : l.at + total_size (drop l.s-index l.stmts) ≡ l.base + total_size l.stmts;
}
