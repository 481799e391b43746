-- Accepted images as values, refusals of images, and the laws of both. Own.
use Rattle.std.specs.Prelude.{◌≡◌, ℕ, ◌≤◌, None}
use Rattle.ev_body.specs.declared.image.Image.{Image}
use Rattle.ev_body.specs.KernelImage.{KernelImage}
use Rattle.ev_body.specs.WellFormed.{IsImage}
use Rattle.ev_abstract.specs.declared.refusal.Refusal.{Refusal}
use Rattle.ev_abstract.specs.Chain.{IsBound}
use Rattle.ev_abstract.specs.Rules.{rules}
use Rattle.ev_abstract.specs.Accepted.{IsAcceptedWith, IsFirstRefusal}
use Rattle.ev_accept.specs.declared.accepted.AcceptFault.{AcceptFault}
use Rattle.ev_accept.specs.declared.accepted.AcceptFault.TheVariants.{Refused, NoMemory}

-- an image with its bound, as contracts see it
pub record AcceptedImage : Type 0 where
  pub image : KernelImage
  pub bound : ℕ

-- whether the fault tells the first rule that the image breaks, with its first place; memory is never wanted
abbrev pub Refuses : Image → AcceptFault → Type 0
Refuses image (Refused refusal) = IsFirstRefusal image refusal
Refuses image NoMemory = ⊥

-- an accepted image has no first refusal
abbrev pub AcceptedIsNotRefused : Type 0
AcceptedIsNotRefused = (image : Image) (bound : ℕ) (refusal : Refusal)
    → IsAcceptedWith image bound → IsFirstRefusal image refusal → ⊥

-- an image has at most one first refusal
abbrev pub RefusalIsUnique : Type 0
RefusalIsUnique = (image : Image) (first second : Refusal)
    → IsFirstRefusal image first → IsFirstRefusal image second → first ≡ second

-- an image has one bound
abbrev pub BoundIsUnique : Type 0
BoundIsUnique = (image : Image) (m n : ℕ) → IsBound image m → IsBound image n → m ≡ n

-- and where the rules before the one on nesting hold, it is at most 20
abbrev pub BoundIsSmall : Type 0
BoundIsSmall = (image : Image) (n : ℕ)
    → IsImage image → rules image ≡ None → IsBound image n → n ≤ 20
