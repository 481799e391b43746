use Rattle.std.proofs.Common.{◌≡◌, ◌≤◌, ◌+◌, ◌*◌, ℕ, ◌++◌, drop}
use Rattle.ev_isa.specs.declared.mode.Mode.{Mode}
use Rattle.ev_body.specs.declared.key.Key.{Key}
use Rattle.ev_asm.specs.Assembly.{total_size}
use Rattle.ev_listing.specs.Marks.{stmts_of, marks}
use Rattle.ev_items.specs.Lines.{lines_of}
use Rattle.ev_layout.specs.Marks.{listed}
use Rattle.ev_layout.proofs.visible.append_item.Given as goal

abbrev pub invariant-loop-line : goal.invariant-loop-line
invariant-loop-line l = record {
  noted : (mode : Mode) (b : ℕ) (key : Key) (n : ℕ) → listed l.places ++ marks l.at (lines_of mode b key n (drop l.line-index l.line-items))
      ≡ listed l.fn.places ++ marks l.address (lines_of mode b key n l.line-items);
  behind : (mode : Mode) (b : ℕ) (key : Key) (n : ℕ) → l.at + total_size (stmts_of (lines_of mode b key n (drop l.line-index l.line-items)))
      ≡ l.address + total_size (stmts_of (lines_of mode b key n l.line-items));
  near : l.at ≤ l.address + 15 * l.line-index;
}
