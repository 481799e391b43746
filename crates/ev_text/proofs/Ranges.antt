-- A number that is read within bounds is within them.
use Rattle.std.proofs.Common.{◌≡◌, ℕ, ◌≤◌, Bool, true, false, ◌&&◌, List, Result, Ok, Err, arith, nat_le, refl}
use Rattle.ev_io.specs.declared.cause.Cause.{Cause}
use Rattle.ev_line.specs.Operands.{if_it, number, number_within}

between : (low high n : ℕ) (r : Result ℕ Cause) → Ok n ≡ if_it (λ k. nat_le low k && nat_le k high) Cause.Limit r → (low ≤ n) × (n ≤ high)
between low high n (Err cause) e = absurd cc
between low high n (Ok k) e = by (nat_le low k) refl (nat_le k high) refl e
  where
    by : (a : Bool) → nat_le low k ≡ a → (b : Bool) → nat_le k high ≡ b
        → ◌≡◌ {A = Result ℕ Cause} (Ok n) (elim (a && b) [ true ↦ Ok k | false ↦ Err Cause.Limit ]) → (low ≤ n) × (n ≤ high)
    by true p true q e = (grind arith, grind arith)
    by true p false q e = absurd cc
    by false p b q e = absurd cc

pub number_bounds : (low high : ℕ) (t : List ℕ) (n : ℕ) → Ok n ≡ number_within low high t → (low ≤ n) × (n ≤ high)
unfolding number_within
number_bounds low high t n e = between low high n (number t) e

pub number_at_most : (low high : ℕ) (t : List ℕ) (n : ℕ) → Ok n ≡ number_within low high t → n ≤ high
number_at_most low high t n e = (number_bounds low high t n e).1
