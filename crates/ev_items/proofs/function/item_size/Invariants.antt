use Rattle.std.proofs.Common.{◌≡◌, ◌≤◌, ◌+◌, ◌*◌, ℕ, drop}
use Rattle.ev_isa.specs.declared.mode.Mode.{Mode}
use Rattle.ev_body.specs.declared.key.Key.{Key}
use Rattle.ev_asm.specs.Assembly.{total_size}
use Rattle.ev_listing.specs.Marks.{stmts_of}
use Rattle.ev_items.specs.Lines.{lines_of}
use Rattle.ev_items.proofs.function.item_size.Given as goal

abbrev pub invariant-loop-line : goal.invariant-loop-line
invariant-loop-line l = record {
  sum : (mode : Mode) (b : ℕ) (key : Key) (n : ℕ) → l.size + total_size (stmts_of (lines_of mode b key n (drop l.line-index l.line-items)))
      ≡ total_size (stmts_of (lines_of mode b key n l.line-items));
  small : l.size ≤ 15 * l.line-index;
}
