-- No vector of the words above is in the set.
use Rattle.std.proofs.Common.{◌≡◌, false, ℕ, ◌*◌, ◌<◌, ◌≤◌}
use Rattle.ev_apic.specs.Vectors.{vectors_of}
use Rattle.ev_apic.proofs.vectors.greatest.Given as goal

abbrev pub invariant-loop-n : goal.invariant-loop-n
invariant-loop-n l = (l.n ≤ 4) × ((u : ℕ) → 64 * l.n ≤ u → u < 256 → vectors_of l.words u ≡ false)
