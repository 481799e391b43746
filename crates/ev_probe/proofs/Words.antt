-- The words of a frame, read one after another.
use Rattle.std.proofs.Common.{◌≡◌, ℕ, suc, ◌+◌, List, [], ◌∷◌, ◌++◌, map, append_assoc, ap, sym, ◌∙◌}
use Rattle.ev_isa.specs.Word.{wrap}
use Rattle.ev_effect.specs.Frame.{addresses}

pub one_more : (f : ℕ → ℕ) (a n m : ℕ) (xs ys all : List ℕ) → n ≡ suc m → ys ≡ xs ++ f a ∷ [] → xs ++ map f (addresses a n) ≡ all
    → ys ++ map f (addresses (wrap (a + 8)) m) ≡ all
one_more f a n m xs ys all k y e =
    ap (λ z. z ++ map f (addresses (wrap (a + 8)) m)) y ∙ append_assoc xs (f a ∷ []) (map f (addresses (wrap (a + 8)) m))
    ∙ ap (λ i. xs ++ map f (addresses a i)) (sym k) ∙ e
