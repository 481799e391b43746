-- Walks over lines: the items of those that are passed, and the last line.
use Rattle.std.proofs.Common.{◌≡◌, ℕ, suc, zero, ◌+◌, ◌<◌, ◌≤◌, List, [], ◌∷◌, ◌++◌, length, get_or, drop, filter_map, Option, Some, None, refl, sym, ap, ◌∙◌, arith, add-one, drop-cons, append_assoc}
use Rattle.ev_part.specs.declared.line.BodyLine.{BodyLine}
use Rattle.ev_part.specs.PartItems.{ends_part, is_ended}

-- a line that gives something more
pub with_item : {X Y : Type 0} → (f : X → Option Y) (xs : List X) (i : ℕ) (x : X) (y : Y) (done more W : List Y) → i < length xs → x ≡ get_or xs i x
    → Some y ≡ f x → more ≡ done ++ y ∷ [] →
    done ++ filter_map f (drop i xs) ≡ W → more ++ filter_map f (drop (i + 1) xs) ≡ W
with_item {X} {Y} f xs i x y done more W l g h m w =
    rw (m, add-one i, append_assoc done (y ∷ []) (filter_map f (drop (suc i) xs)))
    (ap (λ (zs : List Y). done ++ zs)
    (first (f x) h ∙ ap (λ (zs : List X). filter_map f zs) (sym (drop-cons xs i x l ∙ ap (λ (z : X). z ∷ drop (suc i) xs) (sym g)))) ∙ w)
  where
    first : (o : Option Y) → Some y ≡ f x → y ∷ filter_map f (drop (suc i) xs) ≡ filter_map f (x ∷ drop (suc i) xs)
    first o e = rw (sym e) refl

-- a line that gives nothing
pub without_item : {X Y : Type 0} → (f : X → Option Y) (xs : List X) (i : ℕ) (x : X) (done W : List Y) → i < length xs → x ≡ get_or xs i x → None ≡ f x →
    done ++ filter_map f (drop i xs) ≡ W → done ++ filter_map f (drop (i + 1) xs) ≡ W
without_item {X} {Y} f xs i x done W l g h w =
    rw (add-one i)
    (ap (λ (zs : List Y). done ++ zs)
    (first h ∙ ap (λ (zs : List X). filter_map f zs) (sym (drop-cons xs i x l ∙ ap (λ (z : X). z ∷ drop (suc i) xs) (sym g)))) ∙ w)
  where
    first : None ≡ f x → filter_map f (drop (suc i) xs) ≡ filter_map f (x ∷ drop (suc i) xs)
    first e = rw (sym e) refl

-- the last line decides
pub last_line : (ls : List BodyLine) (n : ℕ) (l d : BodyLine) → suc n ≡ length ls → l ≡ get_or ls n d → ends_part l ≡ is_ended ls
last_line [] n l d k e = absurd (omega arith)
last_line (x ∷ []) zero l d k e = ap ends_part e
last_line (x ∷ []) (suc n) l d k e = absurd (omega arith)
last_line (x ∷ y ∷ ys) zero l d k e = absurd (omega arith)
last_line (x ∷ y ∷ ys) (suc n) l d k e = last_line (y ∷ ys) n l d (omega arith) e
