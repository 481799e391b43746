-- When the facts hold that say which way a path goes: of the ring of what was interrupted, of equal and lesser numbers, and of the top bit of a GS base.
use Rattle.std.specs.Prelude.{◌≡◌, ◌≢◌, ℕ, ◌%◌, ◌^◌, ◌<◌, ◌≤◌}
use Rattle.ev_symbolic.specs.Value.{M, V, K, B, OSub, OSame}
use Rattle.ev_symbolic.specs.Agrees.{Env, eval}
use Rattle.ev_symbolic.specs.Names.{frame_cs, says_same, says_below, says_ring}
use Rattle.ev_blocks.specs.Nmi.{top_bit}

-- each kind of fact, by the values of an environment
pub record FactLaws (e : Env) : Type 0 where
  pub user : eval e frame_cs % 2 ^ 16 ≡ 0x33 → eval e (says_ring 3).val ≡ 3
  pub kernel : eval e frame_cs % 2 ^ 16 ≡ 0x10 → eval e (says_ring 0).val ≡ 0
  pub same : (v : V) (k : ℕ) → eval e v ≡ k → eval e (says_same v k 1).val ≡ 1
  pub other : (v : V) (k : ℕ) → eval e v ≢ k → eval e v < M → k < M → eval e (says_same v k 0).val ≡ 0
  pub equal : (a b : V) → eval e a ≡ eval e b → eval e (B OSame (B OSub a b) (K 0)) ≡ 1
  pub unequal : (a b : V) → eval e a ≢ eval e b → eval e a < M → eval e b < M → eval e (B OSame (B OSub a b) (K 0)) ≡ 0
  pub less : (v : V) (k : ℕ) → eval e v < k → eval e (says_below v k 1).val ≡ 1
  pub not_less : (v : V) (k : ℕ) → k ≤ eval e v → eval e (says_below v k 0).val ≡ 0
  pub lower_half : (v : V) → eval e v < 2 ^ 63 → eval e (top_bit v) ≡ 0
  pub upper_half : (v : V) → 2 ^ 63 ≤ eval e v → eval e v < M → eval e (top_bit v) ≡ 1

-- in every environment
abbrev pub FactsTell : Type 0
FactsTell = (e : Env) → FactLaws e
