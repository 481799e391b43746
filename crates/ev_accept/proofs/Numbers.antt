-- Chains as numbers of bodies, and as the bodies themselves.
use Rattle.std.proofs.Common.{◌≡◌, refl, sym, subst, ◌∙◌, ap, ℕ, zero, suc, ◌<◌, true, ltb, List, [], ◌∷◌, length, Option, Some, inl, inr, arith, slice_get}
use Rattle.std.specs.List.{list_all}
use Rattle.std.proofs.lemmas.Bool.{and_parts, and_from, ltb-true, lt-ltb}
use Rattle.ev_body.specs.declared.body.Body.{Body}
use Rattle.ev_body.specs.declared.image.Image.{Image}
use Rattle.ev_abstract.specs.Chain.{cons_body, bodies_of}
use Rattle.ev_accept.proofs.Members.{In}
use Rattle.ev_accept.proofs.Upper.{AllIn}

record Number (b : Body) (bodies : List Body) : Type 0 where
  n : ℕ
  is : slice_get bodies n ≡ Some b
  within : n < length bodies

number : (b : Body) (bodies : List Body) → In b bodies → Number b bodies
number b [] m = absurd m
number b (c ∷ bs) (inl e) = record { n = 0; is = ap Some (sym e); within = omega arith }
number b (c ∷ bs) (inr m) = let r = number b bs m in later r.n r.is r.within
  where
    later : (n : ℕ) → slice_get bs n ≡ Some b → n < length bs → Number b (c ∷ bs)
    later n e h = record { n = suc n; is = e; within = omega arith }

record Body_at (bodies : List Body) (n : ℕ) : Type 0 where
  body : Body
  member : In body bodies
  is : slice_get bodies n ≡ Some body

body_at : (bodies : List Body) (n : ℕ) → n < length bodies → Body_at bodies n
body_at [] n h = absurd (omega arith)
body_at (b ∷ bs) zero h = record { body = b; member = inl refl; is = refl }
body_at (b ∷ bs) (suc n) h = let r = body_at bs n (omega arith) in record { body = r.body; member = inr r.member; is = r.is }

-- the numbers of bodies of the image
pub record Numbered (image : Image) (list : List Body) : Type 0 where
  pub chain : List ℕ
  pub within : list_all (λ n. ltb n (length image.bodies)) chain ≡ true
  pub are : bodies_of image chain ≡ list
  pub long : length chain ≡ length list

pub numbered : (image : Image) (list : List Body) → AllIn image.bodies list → Numbered image list
numbered image [] m = record { chain = []; within = refl; are = refl; long = refl }
numbered image (b ∷ bs) m =
    let r = number b image.bodies m.0 in
    let rs = numbered image bs m.1 in
    record {
      chain = r.n ∷ rs.chain;
      within = and_from (ltb r.n (length image.bodies)) (list_all (λ n. ltb n (length image.bodies)) rs.chain) (lt-ltb r.n (length image.bodies) r.within)
          rs.within;
      are = ap (λ (o : Option Body). cons_body o (bodies_of image rs.chain)) r.is ∙ ap (λ (l : List Body). b ∷ l) rs.are;
      long = ap suc rs.long;
    }

pub record Bodied (image : Image) (chain : List ℕ) : Type 0 where
  pub members : AllIn image.bodies (bodies_of image chain)
  pub long : length (bodies_of image chain) ≡ length chain

pub bodied : (image : Image) (chain : List ℕ) → list_all (λ n. ltb n (length image.bodies)) chain ≡ true → Bodied image chain
bodied image [] h = record { members = tt; long = refl }
bodied image (n ∷ ns) h =
    let p = and_parts (ltb n (length image.bodies)) (list_all (λ k. ltb k (length image.bodies)) ns) h in
    let r = body_at image.bodies n (ltb-true n (length image.bodies) p.0) in
    let rs = bodied image ns p.1 in
    let e : bodies_of image (n ∷ ns) ≡ r.body ∷ bodies_of image ns = ap (λ (o : Option Body). cons_body o (bodies_of image ns)) r.is in
    record { members = moved (bodies_of image (n ∷ ns)) (r.body ∷ bodies_of image ns) (sym e) (r.member, rs.members); long = ap length e ∙ ap suc rs.long }
  where
    moved : (xs ys : List Body) → ys ≡ xs → AllIn image.bodies ys → AllIn image.bodies xs
    moved xs ys e m = subst (AllIn image.bodies) e m
