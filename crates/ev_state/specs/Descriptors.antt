-- The descriptors of selectors. Own: a descriptor is its base alone.
use Rattle.std.specs.Prelude.{◌≡◌, ℕ, ◌^◌, Bool, true, not, ◌&&◌, ◌==◌, nat_lt, if◌then◌else◌, List, [], ◌∷◌, Option, Some, None}
use Rattle.std.specs.List.{list_any, list_all}

-- the base of a selector's descriptor
abbrev pub base_of : List (ℕ × ℕ) → ℕ → Option ℕ
base_of [] s = None
base_of (e ∷ es) s = if e.0 == s then Some e.1 else base_of es s

abbrev pub stand_once : List (ℕ × ℕ) → Bool
stand_once [] = true
stand_once (e ∷ es) = not (list_any (λ (d : ℕ × ℕ). d.0 == e.0) es) && stand_once es

-- bases are below 2^32, and no selector stands twice
pub record AreDescriptors (bases : List (ℕ × ℕ)) : Type 0 where
  pub low : list_all (λ (e : ℕ × ℕ). nat_lt e.1 (2 ^ 32)) bases ≡ true
  pub once : stand_once bases ≡ true
