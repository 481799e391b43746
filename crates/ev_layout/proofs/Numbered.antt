-- Lists over numbers, one number further.
use Rattle.std.proofs.Common.{◌≡◌, ℕ, zero, suc, ◌+◌, List, [], ◌∷◌, ◌++◌, map, refl, sym, ap, ◌∙◌, arith, add-zero, zero-add, add-one, append_assoc}
use Rattle.std.proofs.lemmas.List.{append-nil}
use Rattle.std.specs.Prelude.{flat_map}
use Rattle.ev_isa.specs.Word.{numbers_from}

pub numbers_more : (n k : ℕ) → numbers_from n (suc k) ≡ numbers_from n k ++ (n + k) ∷ []
numbers_more n zero = ap (λ (m : ℕ). m ∷ []) (sym (add-zero n))
numbers_more n (suc k) = ap (λ (l : List ℕ). n ∷ l) (numbers_more (suc n) k ∙ ap (λ (m : ℕ). numbers_from (suc n) k ++ m ∷ []) (omega arith))

map_append : {A : Type 0} (f : ℕ → A) (xs ys : List ℕ) → map f (xs ++ ys) ≡ map f xs ++ map f ys
map_append f [] ys = refl
map_append f (x ∷ xs) ys = ap (λ l. f x ∷ l) (map_append f xs ys)

flat_append : {A : Type 0} (f : ℕ → List A) (xs : List ℕ) (y : ℕ) → flat_map f (xs ++ y ∷ []) ≡ flat_map f xs ++ f y
flat_append f [] y = append-nil (f y)
flat_append f (x ∷ xs) y = ap (λ l. f x ++ l) (flat_append f xs y) ∙ sym (append_assoc (f x) (flat_map f xs) (f y))

-- the numbers below k + 1
below_more : (k : ℕ) → numbers_from 0 k ++ k ∷ [] ≡ numbers_from 0 (k + 1)
below_more k = ap (λ (m : ℕ). numbers_from 0 k ++ m ∷ []) (sym (zero-add k)) ∙ sym (numbers_more 0 k) ∙ ap (numbers_from 0) (sym (add-one k))

pub map_more : {A : Type 0} (f : ℕ → A) (k : ℕ) (v : A) (us ws vs : List A) → ws ≡ us ++ map f (numbers_from 0 k) → v ≡ f k → vs ≡ ws ++ v ∷ []
    → vs ≡ us ++ map f (numbers_from 0 (k + 1))
map_more {A} f k v us ws vs e g h =
    h ∙ ap (λ (l : List A). l ++ v ∷ []) e ∙ append_assoc us (map f (numbers_from 0 k)) (v ∷ []) ∙ ap (λ (x : A). us ++ (map f (numbers_from 0 k) ++ x ∷ [])) g
    ∙ ap (λ (l : List A). us ++ l) (sym (map_append f (numbers_from 0 k) (k ∷ []))) ∙ ap (λ (l : List ℕ). us ++ map f l) (below_more k)

pub flat_more : {A : Type 0} (f : ℕ → List A) (k : ℕ) (ws vs : List A) → ws ≡ flat_map f (numbers_from 0 k) → vs ≡ ws ++ f k
    → vs ≡ flat_map f (numbers_from 0 (k + 1))
flat_more {A} f k ws vs e h = h ∙ ap (λ (l : List A). l ++ f k) e ∙ sym (flat_append f (numbers_from 0 k) k) ∙ ap (flat_map f) (below_more k)
