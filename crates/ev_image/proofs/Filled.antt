-- The bodies that `fill` adds are bodies, apart from the others.
use Rattle.std.proofs.Common.{◌≡◌, ℕ, ◌≤◌, Bool, true, false, not, ◌&&◌, List, [], ◌∷◌, ◌++◌, length, map, filter, refl, sym, ap, ◌∙◌}
use Rattle.std.specs.Prelude.{◌||◌, ◌==◌, is_none, if◌then◌else◌}
use Rattle.std.specs.List.{list_any, list_all}
use Rattle.std.proofs.lemmas.Bool.{and_parts, and_from}
use Rattle.std.proofs.lemmas.List.{append-nil}
use Rattle.std.proofs.lemmas.List.Folds.{list_all-append, list_all-map}
use Rattle.std.proofs.lemmas.Grind.{flat_map-append}
use Rattle.ev_body.specs.Bodies.{key_number, covers, first_body, filled_keys, fill}
use Rattle.ev_body.specs.WellFormed.{has_operands, is_ret, is_finish, ends_with, is_key, is_user_only, is_user_side, is_body, is_apart, are_apart, are_distinct, functions_of}
use Rattle.ev_body.specs.declared.key.Key.{Key}
use Rattle.ev_body.specs.declared.key.Side.TheVariants.{User, Kernel}
use Rattle.ev_body.specs.declared.body.Part.{Part}
use Rattle.ev_body.specs.declared.body.Body.{Body}
use Rattle.ev_image.specs.Head.{plain_body, runs_user}
use Rattle.ev_image.proofs.Filling.{first_lacks}
use Rattle.ev_image.proofs.Kept.{AreBodies}
use Rattle.ev_image.proofs.Lists.{not_true, neither, all_chosen}

abbrev lacks : List Body → Key → Bool
lacks bs key = is_none (first_body 0 bs (key_number key) User)

abbrev added : List Body → List Key
added bs = filter (lacks bs) filled_keys

-- ---- bodies of `ret` alone

plain_fit : (bytes : ℕ) → list_all (λ (key : Key). is_body bytes (plain_body key)) filled_keys ≡ true
unfolding has_operands is_ret is_finish ends_with is_key is_user_only is_user_side key_number
plain_fit bytes = refl

plain_apart : are_apart (map plain_body filled_keys) ≡ true
unfolding key_number covers
plain_apart = refl

no_functions : (keys : List Key) → functions_of (map plain_body keys) ≡ []
no_functions [] = refl
no_functions (key ∷ keys) = no_functions keys

chosen_apart : (q : Key → Bool) (keys : List Key) → are_apart (map plain_body keys) ≡ true → are_apart (map plain_body (filter q keys)) ≡ true
chosen_apart q [] h = refl
chosen_apart q (key ∷ keys) h =
    let k = and_parts (list_all (is_apart (plain_body key)) (map plain_body keys)) (are_apart (map plain_body keys)) h in
    by (q key) (sym (list_all-map (is_apart (plain_body key)) plain_body keys) ∙ k.0) (chosen_apart q keys k.1)
  where
    by : (b : Bool) → list_all (λ (other : Key). is_apart (plain_body key) (plain_body other)) keys ≡ true → are_apart (map plain_body (filter q keys)) ≡ true
        → are_apart (map plain_body (if b then key ∷ filter q keys else filter q keys)) ≡ true
    by true k more =
        and_from (list_all (is_apart (plain_body key)) (map plain_body (filter q keys))) (are_apart (map plain_body (filter q keys)))
        (list_all-map (is_apart (plain_body key)) plain_body (filter q keys)
        ∙ all_chosen (λ (other : Key). is_apart (plain_body key) (plain_body other)) q keys k) more
    by false k more = more

-- ---- apart from the bodies that stand

apart_by : (same user kernel : Bool) → (same && user) ≡ false → (not same || not ((user && true) || (kernel && false))) ≡ true
apart_by false user kernel h = refl
apart_by true true kernel h = absurd cc
apart_by true false true h = refl
apart_by true false false h = refl

plain_is_apart : (b : Body) (key : Key) → runs_user b key ≡ false → is_apart b (plain_body key) ≡ true
unfolding covers
plain_is_apart b key h = apart_by (key_number b.key == key_number key) (covers b.side User) (covers b.side Kernel) h

one_apart : (q : Key → Bool) (b : Body) (keys : List Key) → ((key : Key) → q key ≡ true → runs_user b key ≡ false)
    → list_all (is_apart b) (map plain_body (filter q keys)) ≡ true
one_apart q b [] h = refl
one_apart q b (key ∷ keys) h = by (q key) refl (one_apart q b keys h)
  where
    by : (t : Bool) → q key ≡ t → list_all (is_apart b) (map plain_body (filter q keys)) ≡ true
        → list_all (is_apart b) (map plain_body (if t then key ∷ filter q keys else filter q keys)) ≡ true
    by true e more = and_from (is_apart b (plain_body key)) (list_all (is_apart b) (map plain_body (filter q keys))) (plain_is_apart b key (h key e)) more
    by false e more = more

all_apart : (q : Key → Bool) (bs : List Body) (keys : List Key) → ((key : Key) → q key ≡ true → list_any (λ b. runs_user b key) bs ≡ false)
    → list_all (λ b. list_all (is_apart b) (map plain_body (filter q keys))) bs ≡ true
all_apart q [] keys h = refl
all_apart q (b ∷ bs) keys h =
    and_from (list_all (is_apart b) (map plain_body (filter q keys))) (list_all (λ c. list_all (is_apart c) (map plain_body (filter q keys))) bs)
    (one_apart q b keys (λ key e. (neither (runs_user b key) (list_any (λ c. runs_user c key) bs) (h key e)).0))
    (all_apart q bs keys (λ key e. (neither (runs_user b key) (list_any (λ c. runs_user c key) bs) (h key e)).1))

none_runs : (bs : List Body) (key : Key) → lacks bs key ≡ true → list_any (λ b. runs_user b key) bs ≡ false
none_runs bs key h = not_true (list_any (λ b. runs_user b key) bs) (first_lacks 0 bs key ∙ h)

both_apart : (xs ys : List Body) → are_apart xs ≡ true → are_apart ys ≡ true → list_all (λ x. list_all (is_apart x) ys) xs ≡ true
    → are_apart (xs ++ ys) ≡ true
both_apart [] ys g h k = h
both_apart (x ∷ xs) ys g h k =
    let p = and_parts (list_all (is_apart x) xs) (are_apart xs) g in
    let q = and_parts (list_all (is_apart x) ys) (list_all (λ y. list_all (is_apart y) ys) xs) k in
    and_from (list_all (is_apart x) (xs ++ ys)) (are_apart (xs ++ ys))
    (list_all-append (is_apart x) xs ys ∙ and_from (list_all (is_apart x) xs) (list_all (is_apart x) ys) p.0 q.0) (both_apart xs ys p.1 h q.1)

pub fill_kept : (bytes : ℕ) (bs : List Body) → AreBodies bytes bs → length (fill bs) ≤ 64 → AreBodies bytes (fill bs)
fill_kept bytes bs g l = record {
  few = l;
  fit = list_all-append (is_body bytes) bs (map plain_body (added bs))
      ∙ and_from (list_all (is_body bytes) bs) (list_all (is_body bytes) (map plain_body (added bs))) g.fit
      (list_all-map (is_body bytes) plain_body (added bs) ∙ all_chosen (λ (key : Key). is_body bytes (plain_body key)) (lacks bs) filled_keys
      (plain_fit bytes));
  apart = both_apart bs (map plain_body (added bs)) g.apart (chosen_apart (lacks bs) filled_keys plain_apart)
      (all_apart (lacks bs) bs filled_keys (none_runs bs));
  functions_once = ap are_distinct (flat_map-append (λ (b : Body). map (λ (part : Part). part.func) b.parts) bs (map plain_body (added bs))
      ∙ ap (λ (ns : List ℕ). functions_of bs ++ ns) (no_functions (added bs)) ∙ append-nil (functions_of bs)) ∙ g.functions_once;
}
