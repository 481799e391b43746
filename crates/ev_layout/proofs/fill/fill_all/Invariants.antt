use Rattle.std.proofs.Common.{◌≡◌, ℕ, take}
use Rattle.ev_mem.specs.Mapped.{memory}
use Rattle.ev_concrete.specs.Opening.{word_there}
use Rattle.ev_layout.specs.Filled.{all_filled}
use Rattle.ev_layout.specs.Placed.{placed}
use Rattle.ev_layout.proofs.fill.fill_all.Given as goal

abbrev pub invariant-loop-span : goal.invariant-loop-span
invariant-loop-span l = record {
  regions : l.mem.regions ≡ l.fn.mem.regions;
  words : (a : ℕ) → (memory l.mem).words a ≡ all_filled (word_there (placed l.blocks) l.mode l.image) (take l.span-index l.spans) (memory l.fn.mem).words a;
}
