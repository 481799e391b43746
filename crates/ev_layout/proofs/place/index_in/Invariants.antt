use Rattle.std.proofs.Common.{◌≡◌, ◌≤◌, ◌+◌, ◌*◌, ℕ, drop}
use Rattle.ev_isa.specs.declared.mode.Mode.{Mode}
use Rattle.ev_body.specs.declared.key.Key.{Key}
use Rattle.ev_stub.specs.Position.{index_from}
use Rattle.ev_items.specs.Lines.{lines_of}
use Rattle.ev_layout.proofs.place.index_in.Given as goal

abbrev pub invariant-loop-line : goal.invariant-loop-line
invariant-loop-line l = record {
  same : (mode : Mode) (b : ℕ) (key : Key) (n : ℕ) → index_from l.index l.at l.rip (lines_of mode b key n (drop l.line-index l.line-items))
      ≡ index_from 0 l.address l.rip (lines_of mode b key n l.line-items);
  near : l.at ≤ l.address + 15 * l.line-index;
  few : l.index ≤ l.line-index;
}
