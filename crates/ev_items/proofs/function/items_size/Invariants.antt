use Rattle.std.proofs.Common.{◌≡◌, ◌≤◌, ◌+◌, ◌*◌, ℕ, drop}
use Rattle.ev_isa.specs.declared.mode.Mode.{Mode}
use Rattle.ev_body.specs.declared.key.Key.{Key}
use Rattle.ev_asm.specs.Assembly.{total_size}
use Rattle.ev_listing.specs.Expansion.{expansions}
use Rattle.ev_listing.specs.Marks.{stmts_of}
use Rattle.ev_items.proofs.function.items_size.Given as goal

abbrev pub invariant-loop-item : goal.invariant-loop-item
invariant-loop-item l = record {
  sum : (mode : Mode) (b : ℕ) (key : Key) → l.size + total_size (stmts_of (expansions mode b key (λ f. 0) l.item-index (drop l.item-index l.items)))
      ≡ total_size (stmts_of (expansions mode b key (λ f. 0) 0 l.items));
  small : l.size ≤ 480 * l.item-index;
}
