use Rattle.std.proofs.Common.{◌≡◌, ℕ}
use Rattle.ev_mem.specs.Mapped.{memory}
use Rattle.ev_concrete.specs.Opening.{word_there}
use Rattle.ev_layout.specs.Filled.{filled}
use Rattle.ev_layout.specs.Placed.{placed}
use Rattle.ev_layout.proofs.fill.fill.Given as goal

abbrev pub invariant-loop-k : goal.invariant-loop-k
invariant-loop-k l = record {
  regions : l.mem.regions ≡ l.fn.mem.regions;
  words : (a : ℕ) → (memory l.mem).words a ≡ filled (word_there (placed l.blocks) l.mode l.image) l.base l.k (memory l.fn.mem).words a;
}
