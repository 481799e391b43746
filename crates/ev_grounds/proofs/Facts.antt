-- When the facts hold that say which way a path goes.
use Rattle.std.proofs.Common.{◌≡◌, ◌≢◌, ℕ, ◌+◌, ◌-◌, ◌/◌, ◌%◌, ◌^◌, ◌<◌, ◌≤◌, Bool, true, false, refl, ap, ◌∙◌, arith}
use Rattle.std.specs.Prelude.{◌==◌, if◌then◌else◌}
use Rattle.std.proofs.lemmas.Bool.{eqb-true, eq-eqb, lt-ltb, le-ltb}
use Rattle.std.proofs.lemmas.Nat.{and_mask}
use Rattle.ev_symbolic.specs.Value.{M, V, K, B, OSub, OSame}
use Rattle.ev_symbolic.specs.Agrees.{Env, eval}
use Rattle.ev_symbolic.specs.Names.{frame_cs, says_same, says_below, says_ring}
use Rattle.ev_blocks.specs.Nmi.{top_bit}
use Rattle.ev_grounds.specs.Facts.{FactsTell}

-- whether a difference is 0
same_difference : (a b : ℕ) → a ≡ b → ((a + M - b) % M == 0) ≡ true
same_difference a b h = eq-eqb ((a + M - b) % M) 0 (omega arith)

other_difference : (a b : ℕ) → a ≢ b → a < M → b < M → ((a + M - b) % M == 0) ≡ false
other_difference a b h k l = pick ((a + M - b) % M == 0) refl
  where
    pick : (t : Bool) → ((a + M - b) % M == 0) ≡ t → t ≡ false
    pick true q = let zero : (a + M - b) % M ≡ 0 = eqb-true _ 0 q in absurd (h (omega arith))
    pick false q = refl

ring_three : (n : ℕ) → n % 2 ^ 16 ≡ 0x33 → n % 2 ^ 2 ≡ 3
ring_three n h = omega arith

ring_zero : (n : ℕ) → n % 2 ^ 16 ≡ 0x10 → n % 2 ^ 2 ≡ 0
ring_zero n h = omega arith

low_top : (n : ℕ) → n < 2 ^ 63 → n / 2 ^ 32 / 2 ^ 31 ≡ 0
low_top n h = omega arith

high_top : (n : ℕ) → 2 ^ 63 ≤ n → n < M → n / 2 ^ 32 / 2 ^ 31 ≡ 1
high_top n h k = omega arith

module _ (e : Env) where
  same : (v : V) (k : ℕ) → eval e v ≡ k → eval e (says_same v k 1).val ≡ 1
  unfolding eval
  same v k h = ap (λ t. if t then 1 else 0) (same_difference (eval e v) k h)

  other : (v : V) (k : ℕ) → eval e v ≢ k → eval e v < M → k < M → eval e (says_same v k 0).val ≡ 0
  unfolding eval
  other v k h a b = ap (λ t. if t then 1 else 0) (other_difference (eval e v) k h a b)

  equal : (a b : V) → eval e a ≡ eval e b → eval e (B OSame (B OSub a b) (K 0)) ≡ 1
  unfolding eval
  equal a b h = ap (λ t. if t then 1 else 0) (same_difference (eval e a) (eval e b) h)

  unequal : (a b : V) → eval e a ≢ eval e b → eval e a < M → eval e b < M → eval e (B OSame (B OSub a b) (K 0)) ≡ 0
  unfolding eval
  unequal a b h k l = ap (λ t. if t then 1 else 0) (other_difference (eval e a) (eval e b) h k l)

  less : (v : V) (k : ℕ) → eval e v < k → eval e (says_below v k 1).val ≡ 1
  unfolding eval
  less v k h = ap (λ t. if t then 1 else 0) (lt-ltb (eval e v) k h)

  not_less : (v : V) (k : ℕ) → k ≤ eval e v → eval e (says_below v k 0).val ≡ 0
  unfolding eval
  not_less v k h = ap (λ t. if t then 1 else 0) (le-ltb (eval e v) k h)

  user : eval e frame_cs % 2 ^ 16 ≡ 0x33 → eval e (says_ring 3).val ≡ 3
  unfolding eval
  user h = and_mask (e.var 18) 2 ∙ ring_three (e.var 18) h

  kernel : eval e frame_cs % 2 ^ 16 ≡ 0x10 → eval e (says_ring 0).val ≡ 0
  unfolding eval
  kernel h = and_mask (e.var 18) 2 ∙ ring_zero (e.var 18) h

  lower_half : (v : V) → eval e v < 2 ^ 63 → eval e (top_bit v) ≡ 0
  unfolding eval
  lower_half v h = low_top (eval e v) h

  upper_half : (v : V) → 2 ^ 63 ≤ eval e v → eval e v < M → eval e (top_bit v) ≡ 1
  unfolding eval
  upper_half v h k = high_top (eval e v) h k

pub facts_tell : FactsTell
facts_tell e = record {
  user = user e;
  kernel = kernel e;
  same = same e;
  other = other e;
  equal = equal e;
  unequal = unequal e;
  less = less e;
  not_less = not_less e;
  lower_half = lower_half e;
  upper_half = upper_half e;
}
