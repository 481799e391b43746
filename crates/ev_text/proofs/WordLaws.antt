-- What each word of a table has, a word that is found has too.
use Rattle.std.proofs.Common.{◌≡◌, Bool, true, false, List, [], ◌∷◌, Option, Some, None, refl, subst}
use Rattle.std.specs.Prelude.{option_map}
use Rattle.std.specs.Str.{bytes_eq}
use Rattle.ev_io.specs.Tokens.{Token}
use Rattle.ev_text.specs.Words.{named_in, or_then}

abbrev pub AllFit : {X : Type 0} → (P : X → Type 0) → List (Token × X) → Type 0
AllFit P [] = Unit {0}
AllFit P (e ∷ es) = P e.1 × AllFit P es

pub named_fits : {X : Type 0} → (P : X → Type 0) (table : List (Token × X)) (t : Token) (x : X) → AllFit P table → named_in table t ≡ Some x → P x
named_fits P [] t x g h = absurd cc
named_fits {X} P (e ∷ es) t x g h = by (bytes_eq t e.0) h (named_fits P es t x g.1)
  where
    by : (b : Bool) → (let o : Option X = elim b [ true ↦ Some e.1 | false ↦ named_in es t ] in o) ≡ Some x → (named_in es t ≡ Some x → P x) → P x
    by true h go = let k : e.1 ≡ x = cc in subst P k g.0
    by false h go = go h

pub either_fits : {X : Type 0} → (P : X → Type 0) (o q : Option X) (x : X) → ((v : X) → o ≡ Some v → P v) → ((v : X) → q ≡ Some v → P v)
    → or_then o q ≡ Some x → P x
either_fits P None q x f g h = g x h
either_fits P (Some v) q x f g h = f x h

pub mapped_fits : {X Y : Type 0} → (P : Y → Type 0) (f : X → Y) (o : Option X) (y : Y) → ((x : X) → o ≡ Some x → P (f x)) → option_map f o ≡ Some y → P y
mapped_fits P f None y g h = absurd cc
mapped_fits P f (Some x) y g h = let k : f x ≡ y = cc in subst P k (g x refl)
