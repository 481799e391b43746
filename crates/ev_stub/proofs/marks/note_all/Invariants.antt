use Rattle.std.proofs.Common.{◌≡◌, ◌+◌, ◌++◌, drop, map}
use Rattle.ev_asm.specs.Assembly.{total_size}
use Rattle.ev_listing.specs.Marks.{marks}
use Rattle.ev_stub.specs.Blocks.{always}
use Rattle.ev_stub.specs.Lines.{marked_of, stmt_of}
use Rattle.ev_stub.proofs.marks.note_all.Given as goal

abbrev pub invariant-loop-line : goal.invariant-loop-line
invariant-loop-line l = record {
  noted : always l.visible.items ++ marks l.at (map marked_of (drop l.line-index l.lines)) ≡ always l.fn.visible.items ++ marks l.address
      (map marked_of l.lines);
  room : l.at + total_size (map stmt_of (drop l.line-index l.lines)) ≡ l.address + total_size (map stmt_of l.lines);
}
