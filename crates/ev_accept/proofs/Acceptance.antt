-- An accepted image has no first refusal, and an image has at most one.
use Rattle.std.proofs.Common.{◌≡◌, refl, sym, ◌∙◌, ap, subst, ℕ, ◌<◌, ◌≤◌, Option, Some, None, arith}
use Rattle.ev_body.specs.declared.image.Image.{Image}
use Rattle.ev_body.specs.WellFormed.{IsImage}
use Rattle.ev_abstract.specs.declared.refusal.Refusal.{Refusal}
use Rattle.ev_abstract.specs.declared.refusal.Refusal.TheVariants.{DeepNesting}
use Rattle.ev_abstract.specs.Chain.{IsBound}
use Rattle.ev_abstract.specs.Rules.{rules}
use Rattle.ev_abstract.specs.Accepted.{IsAcceptedWith, FirstRefusal, IsFirstRefusal}
use Rattle.ev_accept.specs.Acceptance.{AcceptedIsNotRefused, RefusalIsUnique, BoundIsSmall}
use Rattle.ev_accept.specs.Bound.{bound_of}
use Rattle.ev_accept.proofs.BoundLaws.{bound-is, bound-unique}
use Rattle.ev_accept.proofs.Small.{bound-at-most-20}

-- ---- one of them

pub accepted_is_not_refused : AcceptedIsNotRefused
accepted_is_not_refused image bound refusal a r =
    let deep : FirstRefusal image None refusal = subst (λ o. FirstRefusal image o refusal) a.kept r in
    let same : deep.0 ≡ bound = bound-unique image deep.0 bound deep.1 a.is_bound in
    let over : image.nest < deep.0 = deep.2 in
    let fits : bound ≤ image.nest = a.fits in
    absurd (omega arith)

pub refusal_is_unique : RefusalIsUnique
refusal_is_unique image first second f s = by (rules image) f s
  where
    by : (o : Option Refusal) → FirstRefusal image o first → FirstRefusal image o second → first ≡ second
    by (Some r) f s = f ∙ sym s
    by None f s = f.3 ∙ ap (λ n. DeepNesting n image.nest) (bound-unique image f.0 s.0 f.1 s.1) ∙ sym s.3

pub bound_is_small : BoundIsSmall
bound_is_small image n is kept b =
    let same : n ≡ bound_of image.bodies = bound-unique image n (bound_of image.bodies) b (bound-is image is kept) in
    let small : bound_of image.bodies ≤ 20 = bound-at-most-20 image is in
    omega arith

-- ---- what the code answers

-- a rule before the last one
pub refused_by_rule : (image : Image) (r : Refusal) → rules image ≡ Some r → IsFirstRefusal image r
refused_by_rule image r e = subst (λ o. FirstRefusal image o r) (sym e) refl

-- the bound is above `nest`
pub refused_by_nesting : (image : Image) (bound : ℕ) → IsImage image → rules image ≡ None → bound ≡ bound_of image.bodies → image.nest < bound
    → IsFirstRefusal image (DeepNesting bound image.nest)
refused_by_nesting image bound is kept e over =
    subst (λ o. FirstRefusal image o (DeepNesting bound image.nest)) (sym kept)
    (bound, subst (IsBound image) (sym e) (bound-is image is kept), over, refl)

pub accepted_with : (image : Image) (bound : ℕ) → IsImage image → rules image ≡ None → bound ≡ bound_of image.bodies → bound ≤ image.nest
    → IsAcceptedWith image bound
accepted_with image bound is kept e fits =
    record { kept = kept; is_bound = subst (IsBound image) (sym e) (bound-is image is kept); fits = fits }
