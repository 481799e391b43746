use Rattle.std.proofs.Common.{◌≡◌, ◌≤◌, ◌+◌, ◌*◌, ℕ, ◌++◌, drop}
use Rattle.ev_isa.specs.declared.mode.Mode.{Mode}
use Rattle.ev_body.specs.declared.key.Key.{Key}
use Rattle.ev_listing.specs.Expansion.{expansions}
use Rattle.ev_listing.specs.Marks.{marks}
use Rattle.ev_layout.specs.Marks.{listed}
use Rattle.ev_layout.proofs.visible.append_items.Given as goal

abbrev pub invariant-loop-item : goal.invariant-loop-item
invariant-loop-item l = record {
  noted : (mode : Mode) (b : ℕ) (key : Key) (f : ℕ → ℕ)
      → listed l.places ++ marks l.at (expansions mode b key f l.item-index (drop l.item-index l.items))
      ≡ listed l.fn.places ++ marks l.address (expansions mode b key f 0 l.items);
  near : l.at ≤ l.address + 480 * l.item-index;
}
