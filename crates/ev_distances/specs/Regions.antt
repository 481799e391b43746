-- Intervals that regions of the kernel cover.
use Rattle.std.specs.Prelude.{◌≡◌, ◌⊎◌, ℕ, ◌+◌, ◌*◌, ◌≤◌, List, [], ◌∷◌}
use Rattle.ev_mem.specs.declared.region.Region.{Region}
use Rattle.ev_mem.specs.declared.region.RegionKind.TheVariants.{Kernel}

-- the region has all addresses from lo up to hi
pub record Spans (r : Region) (lo hi : ℕ) : Type 0 where
  pub from : r.base ≤ lo
  pub to : hi ≤ r.base + 8 * r.words

-- the interval lies in one of the kernel's regions that stand before any other region
abbrev pub InKernel : List Region → ℕ → ℕ → Type 0
InKernel [] lo hi = ⊥
InKernel (r ∷ rs) lo hi = (r.kind ≡ Kernel) × (Spans r lo hi ⊎ InKernel rs lo hi)

abbrev pub AreKernel : List Region → Type 0
AreKernel [] = Unit {0}
AreKernel (r ∷ rs) = (r.kind ≡ Kernel) × AreKernel rs
