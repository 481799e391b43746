-- A label that is found has its place, and one that isn't has none.
use Rattle.std.proofs.Common.{◌≡◌, ℕ, Bool, true, false, List, [], ◌∷◌, Option, Some, None, Result, Ok, Err, refl, sym, ap, ◌∙◌, arith}
use Rattle.std.specs.Prelude.{◌||◌, if◌then◌else◌}
use Rattle.std.specs.List.{list_any}
use Rattle.ev_io.specs.declared.cause.Cause.{Cause}
use Rattle.ev_io.specs.declared.cause.Cause.TheVariants as Cause
use Rattle.ev_io.specs.Tokens.{Token}
use Rattle.ev_asm.specs.Assembly.{Places, Name, is_name, place}
use Rattle.ev_line.specs.Operands.{or_else, then_make, if_it, has_label, label, value, TextLabel}
use Rattle.ev_asm.specs.LabelTable.{found}

-- the place of a name that stands among the labels, else NoLabel
abbrev placed : Bool → ℕ → Result ℕ Cause
placed true k = Ok k
placed false k = Err Cause.NoLabel

found_place : (ls : Places) (name : Name) → or_else Cause.NoLabel (found ls name) ≡ placed (has_label ls name) (place ls name)
found_place [] name = refl
found_place (e ∷ es) name = by (is_name e.0 name) (found_place es name)
  where
    by : (b : Bool) → or_else Cause.NoLabel (found es name) ≡ placed (has_label es name) (place es name)
        → or_else Cause.NoLabel (let o : Option ℕ = elim b [ true ↦ Some e.1 | false ↦ found es name ] in o) ≡ placed (b || has_label es name)
        (if b then e.1 else place es name)
    by true h = refl
    by false h = h

made : (d : Bool) (f : Name → ℕ) (name : Name)
    → placed d (f name) ≡ then_make f (let r : Result Name Cause = elim d [ true ↦ Ok name | false ↦ Err Cause.NoLabel ] in r)
made true f name = refl
made false f name = refl

-- a token that is a name, and what the labels have of it
pub label_said : (ls : Places) (t name : Token) (o : Option ℕ) → Ok name ≡ label t → o ≡ found ls name → or_else Cause.NoLabel o ≡ value (TextLabel ls) t
unfolding value
label_said ls t name o e f = ap (or_else Cause.NoLabel) f ∙ found_place ls name ∙ made (has_label ls name) (place ls) name
    ∙ ap (λ (r : Result Token Cause). then_make (place ls) (if_it (has_label ls) Cause.NoLabel r)) e
