use Rattle.std.proofs.Common.{◌≡◌, ◌+◌, ◌++◌, drop}
use Rattle.ev_asm.specs.Assembly.{places, total_size}
use Rattle.ev_asm.specs.LabelTable.{FindAlike}
use Rattle.ev_asm.proofs.linking.with_section.Given as goal

abbrev pub invariant-loop-s : goal.invariant-loop-s
invariant-loop-s l = record {
  alike : FindAlike (l.labels ++ places l.at (drop l.s-index l.s-items)) (l.fn.given ++ places l.fn.section.address l.fn.section.stmts);
  room : l.at + total_size (drop l.s-index l.s-items) ≡ l.fn.section.address + total_size l.fn.section.stmts;
}
