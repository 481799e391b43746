-- Tests of lists that grow, and causes in their order.
use Rattle.std.proofs.Common.{◌≡◌, ℕ, ◌≤◌, ◌<◌, Bool, true, false, not, ◌&&◌, List, [], ◌∷◌, ◌++◌, set, filter, Result, Ok, Err, refl, sym, ap, ◌∙◌, arith}
use Rattle.std.specs.Prelude.{◌||◌, ◌==◌, nat_lt, nat_le, if◌then◌else◌}
use Rattle.std.specs.List.{list_any, list_all}
use Rattle.std.proofs.lemmas.Bool.{and_parts, and_from}
use Rattle.std.proofs.lemmas.Bool.Decides.{nat_tests}
use Rattle.std.proofs.lemmas.List.Folds.{list_all-append, list_any-append}
use Rattle.std.proofs.lemmas.List.Elements.{All-set}
use Rattle.std.proofs.lemmas.List.Sums.{AllPass-from_list_all, list_all-from_AllPass}
use Rattle.ev_io.specs.declared.cause.Cause.{Cause}
use Rattle.ev_text.specs.UserText.{unless}
use Rattle.ev_body.specs.WellFormed.{are_distinct}
use Rattle.ev_line.specs.Operands.{among, then_make}
use Rattle.ev_image.specs.Head.{and_then}

-- ---- causes

pub unless_ok : {X : Type 0} → (b : Bool) (cause : Cause) (r : Result X Cause) (x : X) → unless b cause r ≡ Ok x → (b ≡ false) × (r ≡ Ok x)
unless_ok true cause r x h = absurd cc
unless_ok false cause r x h = (refl, h)

pub made_ok : {X Y : Type 0} → (f : X → Y) (r : Result X Cause) (y : Y) → then_make f r ≡ Ok y → (x : X) × (r ≡ Ok x) × (f x ≡ y)
made_ok f (Err e) y h = absurd cc
made_ok f (Ok x) y h = (x, refl, let e : f x ≡ y = cc in e)

pub then_ok : {X Y : Type 0} → (f : X → Result Y Cause) (r : Result X Cause) (y : Y) → and_then f r ≡ Ok y → (x : X) × (r ≡ Ok x) × (f x ≡ Ok y)
then_ok f (Err e) y h = absurd cc
then_ok f (Ok x) y h = (x, refl, h)

-- ---- truth values

pub not_false : (b : Bool) → not b ≡ false → b ≡ true
not_false true h = refl
not_false false h = absurd cc

pub not_true : (b : Bool) → not b ≡ true → b ≡ false
not_true true h = absurd cc
not_true false h = refl

pub or_true : (a b : Bool) → b ≡ true → (a || b) ≡ true
or_true true b h = refl
or_true false b h = h

pub not_both : (a b : Bool) → (a && not b) ≡ false → (not a || b) ≡ true
not_both true true h = refl
not_both true false h = absurd cc
not_both false b h = refl

pub neither : (a b : Bool) → (a || b) ≡ false → (a ≡ false) × (b ≡ false)
neither true b h = absurd cc
neither false b h = (refl, h)

pub less : (a b : ℕ) → a < b → nat_lt a b ≡ true
less a b h = grind (arith, nat_tests)

pub at_most : (a b : ℕ) → a ≤ b → nat_le a b ≡ true
at_most a b h = grind (arith, nat_tests)

pub not_at_most : (a b : ℕ) → nat_le a b ≡ false → b < a
not_at_most a b h = grind (arith, nat_tests)

pub not_less : (a b : ℕ) → nat_lt a b ≡ false → b ≤ a
not_less a b h = grind (arith, nat_tests)

pub is_less : (a b : ℕ) → nat_lt a b ≡ true → a < b
is_less a b h = grind (arith, nat_tests)

pub is_same : (a b : ℕ) → (a == b) ≡ true → a ≡ b
is_same a b h = grind (arith, nat_tests)

not_same : (a b : ℕ) → (a == b) ≡ false → (b == a) ≡ false
not_same a b h = grind (arith, nat_tests)

-- ---- lists

-- an element more that passes the test
pub all_more : {X : Type 0} → (p : X → Bool) (xs : List X) (x : X) → list_all p xs ≡ true → p x ≡ true → list_all p (xs ++ x ∷ []) ≡ true
all_more p xs x h k = list_all-append p xs (x ∷ []) ∙ and_from (list_all p xs) (p x && true) h (and_from (p x) true k refl)

-- the elements that pass a test, and the last
pub all_parts_pass : {X : Type 0} → (p : X → Bool) (xs : List X) (x : X) → list_all p (xs ++ x ∷ []) ≡ true → (list_all p xs ≡ true) × (p x ≡ true)
all_parts_pass p xs x h =
    let k = and_parts (list_all p xs) (p x && true) (sym (list_all-append p xs (x ∷ [])) ∙ h) in
    (k.0, (and_parts (p x) true k.1).0)

pub all_chosen : {X : Type 0} → (p q : X → Bool) (xs : List X) → list_all p xs ≡ true → list_all p (filter q xs) ≡ true
all_chosen p q [] h = refl
all_chosen {X} p q (x ∷ xs) h = let k = and_parts (p x) (list_all p xs) h in by (q x) k.0 (all_chosen p q xs k.1)
  where
    by : (b : Bool) → p x ≡ true → list_all p (filter q xs) ≡ true → list_all p (if b then x ∷ filter q xs else filter q xs) ≡ true
    by true k more = and_from (p x) (list_all p (filter q xs)) k more
    by false k more = more

pub all_set : {X : Type 0} → (p : X → Bool) (xs : List X) (i : ℕ) (x : X) → list_all p xs ≡ true → p x ≡ true → list_all p (set xs i x) ≡ true
all_set p xs i x h k = list_all-from_AllPass p (set xs i x) (All-set (λ y. p y ≡ true) xs i x k (AllPass-from_list_all p xs h))

-- a number more that is none of these
pub distinct_more : (ns : List ℕ) (n : ℕ) → are_distinct ns ≡ true → among ns n ≡ false → are_distinct (ns ++ n ∷ []) ≡ true
distinct_more [] n h g = refl
distinct_more (x ∷ xs) n h g =
    let k = and_parts (not (list_any (λ m. m == x) xs)) (are_distinct xs) h in
    let l = neither (x == n) (among xs n) g in
    and_from (not (list_any (λ m. m == x) (xs ++ n ∷ []))) (are_distinct (xs ++ n ∷ []))
    (ap not (list_any-append (λ m. m == x) xs (n ∷ []) ∙ none_of (list_any (λ m. m == x) xs) (n == x) k.0 (not_same x n l.0)))
    (distinct_more xs n k.1 l.1)
  where
    none_of : (a b : Bool) → not a ≡ true → b ≡ false → (a || (b || false)) ≡ false
    none_of true b h k = absurd cc
    none_of false true h k = absurd cc
    none_of false false h k = refl
