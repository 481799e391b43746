-- What `fill` adds, by the bodies that run on the user side of a key.
use Rattle.std.proofs.Common.{◌≡◌, ℕ, suc, Bool, true, false, not, List, [], ◌∷◌, ◌++◌, Some, filter, map, refl, ap, ◌∙◌}
use Rattle.std.specs.Prelude.{◌||◌, is_none, if◌then◌else◌}
use Rattle.std.specs.List.{list_any}
use Rattle.ev_body.specs.Bodies.{key_number, first_body, filled_keys, fill}
use Rattle.ev_body.specs.declared.key.Key.{Key}
use Rattle.ev_body.specs.declared.key.Side.TheVariants.{User}
use Rattle.ev_body.specs.declared.body.Body.{Body}
use Rattle.ev_image.specs.Head.{plain_body, runs_user}

pub first_lacks : (n : ℕ) (bs : List Body) (key : Key) → not (list_any (λ b. runs_user b key) bs) ≡ is_none (first_body n bs (key_number key) User)
first_lacks n [] key = refl
first_lacks n (b ∷ bs) key = by (runs_user b key) (first_lacks (suc n) bs key)
  where
    by : (t : Bool) → not (list_any (λ c. runs_user c key) bs) ≡ is_none (first_body (suc n) bs (key_number key) User)
        → not (t || list_any (λ c. runs_user c key) bs) ≡ is_none (if t then Some n else first_body (suc n) bs (key_number key) User)
    by true h = refl
    by false h = h

same_filter : (f g : Key → Bool) → ((k : Key) → f k ≡ g k) → (ks : List Key) → filter f ks ≡ filter g ks
same_filter f g h [] = refl
same_filter f g h (k ∷ ks) = ap (λ (b : Bool). if b then k ∷ filter f ks else filter f ks) (h k) ∙ ap (λ (l : List Key). if g k then k ∷ l else l)
    (same_filter f g h ks)

pub filled_so : (bs : List Body) → bs ++ map plain_body (filter (λ key. not (list_any (λ b. runs_user b key) bs)) filled_keys) ≡ fill bs
filled_so bs =
    ap (λ (ks : List Key). bs ++ map plain_body ks)
    (same_filter (λ key. not (list_any (λ b. runs_user b key) bs)) (λ key. is_none (first_body 0 bs (key_number key) User)) (first_lacks 0 bs) filled_keys)
