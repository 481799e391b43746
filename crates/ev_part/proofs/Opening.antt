-- What proofs open to see what an item's line says.
use Rattle.std.proofs.Common.{◌≡◌, Bool, true, false, List, [], ◌∷◌, Result, Err, refl, sym}
use Rattle.ev_io.specs.declared.cause.Cause.TheVariants as Cause
use Rattle.ev_io.specs.Tokens.{Token}
use Rattle.ev_line.specs.Operands.{value}
use Rattle.ev_line.specs.Forms.{same_kind, kind_of, kind_among, takes, kind_here, is_shaped, fitting, read_places, read_form, read_fitting, read_forms}
use Rattle.ev_asm.specs.Assembly.{Places}
use Rattle.ev_part.specs.declared.words.ItemWord.TheVariants as Word
use Rattle.ev_part.specs.ItemForms.{item_forms}

unfoldable pub opening : Unit {0}
unfolding value same_kind kind_of kind_among takes kind_here is_shaped fitting read_places read_form read_fitting read_forms item_forms
opening = tt

-- where no form is left the line is out of place
pub no_forms : {X : Type 0} → (ts : List Token) → read_forms {X = X} [] ts ≡ Err Cause.Word
unfolding opening
no_forms [] = refl
no_forms (t ∷ ts) = refl

-- an end of the other kind of part is out of place
pub ret_elsewhere : (text : Places) (m : Bool) (ts : List Token) → m ≡ false → Err Cause.Word ≡ read_forms (item_forms text m Word.Ret) ts
unfolding item_forms
ret_elsewhere text true ts e = absurd cc
ret_elsewhere text false ts e = sym (no_forms ts)

pub finish_elsewhere : (text : Places) (m : Bool) (ts : List Token) → m ≡ true → Err Cause.Word ≡ read_forms (item_forms text m Word.Finish) ts
unfolding item_forms
finish_elsewhere text true ts e = sym (no_forms ts)
finish_elsewhere text false ts e = absurd cc
