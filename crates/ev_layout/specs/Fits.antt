-- Spans that regions map. Own.
use Rattle.std.specs.Prelude.{◌≡◌, ◌≤◌, ◌<◌, ℕ, ◌+◌, ◌*◌, ◌%◌, ◌^◌, true, List, [], ◌∷◌, is_some}
use Rattle.ev_mem.specs.declared.region.Region.{Region}
use Rattle.ev_mem.specs.Mapped.{slot_in}
use Rattle.ev_layout.specs.declared.fill.Span.{Span}

-- a span of the upper half, at a multiple of 8, each of whose words lies in a region
pub record IsFit (regions : List Region) (s : Span) : Type 0 where
  pub aligned : s.base % 8 ≡ 0
  pub upper : 2 ^ 63 ≤ s.base
  pub room : s.base + 8 * s.count < 2 ^ 64
  pub mapped : (k : ℕ) → k < s.count → is_some (slot_in regions (s.base + 8 * k)) ≡ true

abbrev pub AreFit : List Region → List Span → Type 0
AreFit regions [] = Unit {0}
AreFit regions (s ∷ ss) = IsFit regions s × AreFit regions ss
