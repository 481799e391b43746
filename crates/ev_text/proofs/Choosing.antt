-- What proofs open to see which form of a word a line has.
use Rattle.std.proofs.Common.{◌≡◌, List, [], ◌∷◌, Err, refl}
use Rattle.ev_io.specs.declared.cause.Cause.{Cause}
use Rattle.ev_io.specs.Tokens.{Token}
use Rattle.ev_line.specs.Operands.{value}
use Rattle.ev_line.specs.Forms.{same_kind, kind_of, kind_among, takes, kind_here, is_shaped, fitting, read_places, read_form, read_fitting, read_forms}
use Rattle.ev_text.specs.TextForms.{text_forms}

unfoldable pub choosing : Unit {0}
unfolding value same_kind kind_of kind_among takes kind_here is_shaped fitting read_places read_form read_fitting read_forms text_forms
choosing = tt

-- where no form is left the line is out of place
pub no_forms : {X : Type 0} → (ts : List Token) → read_forms {X = X} [] ts ≡ Err Cause.Word
unfolding choosing
no_forms [] = refl
no_forms (t ∷ ts) = refl
