-- IF along the items.
use Rattle.std.proofs.Common.{◌≡◌, refl, ◌∙◌, ap, ℕ, zero, suc, ◌+◌, ◌≤◌, Bool, List, [], ◌∷◌, take, Some, None, slice_get, arith, add-one}
use Rattle.ev_body.specs.declared.item.Item.{Item}
use Rattle.ev_abstract.specs.Rules.{if_along, if_after}

along_next : (on : Bool) (xs : List Item) (i : ℕ) (x : Item) → slice_get xs i ≡ Some x → if_along on (take (suc i) xs) ≡ if_after (if_along on (take i xs)) x
along_next on [] i x e = absurd (cc)
along_next on (y ∷ ys) zero x e = ap (if_after on) (same y x e)
  where
    same : (y x : Item) → Some y ≡ Some x → y ≡ x
    same y x e = cc
along_next on (y ∷ ys) (suc i) x e = along_next (if_after on y) ys i x e

pub along_more : (on : Bool) (xs : List Item) (i : ℕ) (x : Item) → slice_get xs i ≡ Some x → if_along on (take (i + 1) xs)
    ≡ if_after (if_along on (take i xs)) x
along_more on xs i x e = ap (λ (k : ℕ). if_along on (take k xs)) (add-one i) ∙ along_next on xs i x e

pub along_past : (on : Bool) (xs : List Item) (i n : ℕ) → i ≤ n → slice_get xs i ≡ None → if_along on (take n xs) ≡ if_along on (take i xs)
along_past on [] zero zero h e = refl
along_past on [] zero (suc n) h e = refl
along_past on [] (suc i) zero h e = refl
along_past on [] (suc i) (suc n) h e = refl
along_past on (y ∷ ys) zero n h e = absurd (cc)
along_past on (y ∷ ys) (suc i) zero h e = absurd (omega arith)
along_past on (y ∷ ys) (suc i) (suc n) h e = along_past (if_after on y) ys i n (omega arith) e
