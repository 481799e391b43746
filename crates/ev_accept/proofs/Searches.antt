-- Searches through lists one behind the other.
use Rattle.std.proofs.Common.{◌≡◌, refl, sym, ◌∙◌, ap, ℕ, zero, suc, ◌+◌, ◌<◌, ◌≤◌, Bool, true, false, ◌||◌, List, [], ◌∷◌, ◌++◌, length, drop, Option, Some, None, slice_get, arith, add-one, flat_map, get_or, drop-cons}
use Rattle.ev_body.specs.declared.body.Body.{Body}
use Rattle.ev_abstract.specs.declared.refusal.Refusal.{Refusal}
use Rattle.ev_body.specs.declared.body.Part.{Part}
use Rattle.std.proofs.lemmas.Bool.{cond-true, cond-false}
use Rattle.ev_abstract.specs.Rules.{first_item_from, first_refused, refusal_at}
use Rattle.std.specs.List.{list_any}
use Rattle.std.proofs.lemmas.List.Folds.{list_any-append}
use Rattle.ev_body.specs.declared.item.Item.{Item}

pub any_append : (p : Item → Bool) (xs ys : List Item) → list_any p (xs ++ ys) ≡ (list_any p xs || list_any p ys)
any_append p xs ys = list_any-append p xs ys

pub get_left : (xs ys : List Item) (k : ℕ) → k < length xs → slice_get (xs ++ ys) k ≡ slice_get xs k
get_left [] ys k h = absurd (omega arith)
get_left (x ∷ xs) ys zero h = refl
get_left (x ∷ xs) ys (suc k) h = get_left xs ys k (omega arith)

pub get_right : (xs ys : List Item) (k n : ℕ) → k ≡ length xs + n → slice_get (xs ++ ys) k ≡ slice_get ys n
get_right [] ys k n h = ap (slice_get ys) (the_sum k n h)
  where
    the_sum : (k n : ℕ) → k ≡ 0 + n → k ≡ n
    the_sum k n h = omega arith
get_right (x ∷ xs) ys zero n h = absurd (omega arith)
get_right (x ∷ xs) ys (suc k) n h = get_right xs ys k n (omega arith)

pub drop_some : (xs : List Item) (i : ℕ) (x : Item) → slice_get xs i ≡ Some x → drop i xs ≡ x ∷ drop (i + 1) xs
drop_some xs i x e = rw add-one (go xs i x e)
  where
    go : (xs : List Item) (i : ℕ) (x : Item) → slice_get xs i ≡ Some x → drop i xs ≡ x ∷ drop (suc i) xs
    go [] i x e = absurd (cc)
    go (y ∷ ys) zero x e = ap (λ (z : Item). z ∷ ys) (same y x e)
      where
        same : (y x : Item) → Some y ≡ Some x → y ≡ x
        same y x e = cc
    go (y ∷ ys) (suc i) x e = go ys i x e

pub drop_none : (xs : List Item) (i : ℕ) → slice_get xs i ≡ None → drop i xs ≡ []
drop_none [] zero e = refl
drop_none [] (suc i) e = refl
drop_none (y ∷ ys) zero e = absurd (cc)
drop_none (y ∷ ys) (suc i) e = drop_none ys i e

pub drop_past : (xs : List Item) (i : ℕ) → length xs ≤ i → drop i xs ≡ []
drop_past [] zero h = refl
drop_past [] (suc i) h = refl
drop_past (y ∷ ys) zero h = absurd (omega arith)
drop_past (y ∷ ys) (suc i) h = drop_past ys i (omega arith)

-- a step of a search by items
pub search_past : (test : ℕ → Item → Bool) (xs : List Item) (i : ℕ) (x : Item) → slice_get xs i ≡ Some x → test i x ≡ false → first_item_from i test
    (drop i xs) ≡ first_item_from (i + 1) test (drop (i + 1) xs)
search_past test xs i x e f =
    ap (first_item_from i test) (drop_some xs i x e) ∙ cond-false (test i x) (Some i) (first_item_from (suc i) test (drop (i + 1) xs)) f
    ∙ ap (λ (k : ℕ). first_item_from k test (drop (i + 1) xs)) (sym (add-one i))

pub search_found : (test : ℕ → Item → Bool) (xs : List Item) (i : ℕ) (x : Item) → slice_get xs i ≡ Some x → test i x ≡ true → first_item_from i test
    (drop i xs) ≡ Some i
search_found test xs i x e f = ap (first_item_from i test) (drop_some xs i x e) ∙ cond-true (test i x) (Some i)
    (first_item_from (suc i) test (drop (i + 1) xs)) f

pub search_none : (test : ℕ → Item → Bool) (xs : List Item) (i : ℕ) → slice_get xs i ≡ None → first_item_from i test (drop i xs) ≡ None
search_none test xs i e = ap (first_item_from i test) (drop_none xs i e)

pub search_end : (test : ℕ → Item → Bool) (xs : List Item) (i : ℕ) → length xs ≤ i → first_item_from i test (drop i xs) ≡ None
search_end test xs i h = ap (first_item_from i test) (drop_past xs i h)

-- the items of parts from one on
pub part_here : (parts : List Part) (i left : ℕ) (p : Part) → i < length parts → p ≡ get_or parts i p → left < length p.items
    → slice_get (flat_map (λ (part : Part). part.items) (drop i parts)) left ≡ slice_get p.items left
part_here [] i left p h e l = absurd (omega arith)
part_here (q ∷ qs) zero left p h e l =
    ap (λ (x : Part). slice_get (x.items ++ flat_map (λ (part : Part). part.items) qs) left) (sym e)
    ∙ get_left p.items (flat_map (λ (part : Part). part.items) qs) left l
part_here (q ∷ qs) (suc i) left p h e l = part_here qs i left p (omega arith) e l

pub part_later : (parts : List Part) (i left n : ℕ) (p : Part) → i < length parts → p ≡ get_or parts i p → left ≡ length p.items + n
    → slice_get (flat_map (λ (part : Part). part.items) (drop i parts)) left ≡ slice_get (flat_map (λ (part : Part). part.items) (drop (i + 1) parts)) n
part_later parts i left n p h e l = rw add-one (go parts i h e)
  where
    go : (parts : List Part) (i : ℕ) → i < length parts → p ≡ get_or parts i p → slice_get (flat_map (λ (part : Part). part.items) (drop i parts)) left
        ≡ slice_get (flat_map (λ (part : Part). part.items) (drop (suc i) parts)) n
    go [] i h e = absurd (omega arith)
    go (q ∷ qs) zero h e = ap (λ (x : Part). slice_get (x.items ++ flat_map (λ (part : Part). part.items) qs) left) (sym e)
        ∙ get_right p.items (flat_map (λ (part : Part). part.items) qs) left n l
    go (q ∷ qs) (suc i) h e = go qs i (omega arith) e

-- a step of a search by bodies
pub refused_past : (name : ℕ → ℕ → Refusal) (fails : ℕ → Body → Option ℕ) (bs : List Body) (n : ℕ) (b : Body) → n < length bs → b ≡ get_or bs n b → fails n b
    ≡ None
    → first_refused name fails n (drop n bs) ≡ first_refused name fails (n + 1) (drop (n + 1) bs)
refused_past name fails bs n b h e f =
    ap (first_refused name fails n) (drop-cons bs n b h ∙ ap (λ (x : Body). x ∷ drop (suc n) bs) (sym e))
    ∙ ap (λ (o : Option ℕ). refusal_at name n o (first_refused name fails (suc n) (drop (suc n) bs))) f
    ∙ ap (λ (k : ℕ). first_refused name fails k (drop k bs)) (sym (add-one n))

pub refused_found : (name : ℕ → ℕ → Refusal) (fails : ℕ → Body → Option ℕ) (bs : List Body) (n : ℕ) (b : Body) (i : ℕ) → n < length bs → b ≡ get_or bs n b
    → fails n b ≡ Some i
    → first_refused name fails n (drop n bs) ≡ Some (name n i)
refused_found name fails bs n b i h e f =
    ap (first_refused name fails n) (drop-cons bs n b h ∙ ap (λ (x : Body). x ∷ drop (suc n) bs) (sym e))
    ∙ ap (λ (o : Option ℕ). refusal_at name n o (first_refused name fails (suc n) (drop (suc n) bs))) f
