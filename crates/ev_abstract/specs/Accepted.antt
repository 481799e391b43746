-- Accepted images, and the first rule that refuses an image. Own.
use Rattle.std.specs.Prelude.{◌≡◌, ℕ, ◌≤◌, ◌<◌, Option, Some, None}
use Rattle.ev_body.specs.declared.image.Image.{Image}
use Rattle.ev_abstract.specs.Chain.{IsBound}
use Rattle.ev_abstract.specs.declared.refusal.Refusal.{Refusal}
use Rattle.ev_abstract.specs.declared.refusal.Refusal.TheVariants.{DeepNesting}
use Rattle.ev_abstract.specs.Rules.{rules}

-- the image keeps the rules, its bound is this one, and `nest` is at least the bound
pub record IsAcceptedWith (image : Image) (bound : ℕ) : Type 0 where
  pub kept : rules image ≡ None
  pub is_bound : IsBound image bound
  pub fits : bound ≤ image.nest

-- all rules hold, with some bound
abbrev pub IsAccepted : Image → Type 0
IsAccepted image = (bound : ℕ) × IsAcceptedWith image bound

-- Whether this is the first rule that fails, with its first place: one of the rules before the last, or else the last with both numbers.
abbrev pub FirstRefusal : Image → Option Refusal → Refusal → Type 0
FirstRefusal image (Some r) refusal = refusal ≡ r
FirstRefusal image None refusal = (bound : ℕ) × IsBound image bound × (image.nest < bound) × (refusal ≡ DeepNesting bound image.nest)

-- the refusal by the first rule that does not hold
abbrev pub IsFirstRefusal : Image → Refusal → Type 0
IsFirstRefusal image refusal = FirstRefusal image (rules image) refusal
