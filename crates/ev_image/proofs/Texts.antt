-- A text at its end: its bytes are few, and its labels lie in it.
use Rattle.std.proofs.Common.{◌≡◌, ℕ, ◌+◌, ◌≤◌, Bool, true, false, not, List, [], ◌∷◌, length, Option, Some, None, Result, Ok, Err, refl, sym, ap, ◌∙◌, subst, arith, length-append}
use Rattle.std.specs.Prelude.{◌||◌}
use Rattle.std.specs.List.{list_any}
use Rattle.std.proofs.lemmas.Bool.{and_from}
use Rattle.ev_isa.specs.Pages.{text_base}
use Rattle.ev_io.specs.declared.cause.Cause.{Cause}
use Rattle.ev_io.specs.Tokens.{Token}
use Rattle.ev_asm.specs.declared.statement.Stmt.{Stmt}
use Rattle.ev_asm.specs.declared.text.Text.{Text}
use Rattle.ev_asm.specs.declared.fault.AsmFault.{AsmFault}
use Rattle.ev_asm.specs.Assembly.{Places, is_name, size, total_size, places, place, stmt_bytes, code}
use Rattle.ev_asm.specs.Assembled.{stmt_labels, is_new_name, is_second_label, leads_nowhere, first_at, first_too_large, text_of, assembled}
use Rattle.ev_asm.proofs.Statements.{bytes_size, total_fits, place_bounds}
use Rattle.ev_line.specs.Operands.{has_label}
use Rattle.ev_text.specs.UserText.{most_text, text_ended, fault_cause}
use Rattle.ev_text.specs.declared.text.WholeText.{WholeText}
use Rattle.ev_image.proofs.Kept.{AllSmall, IsWhole}
use Rattle.ev_image.proofs.Lists.{at_most}
use Rattle.ev_image.proofs.TextBytes.{code_bytes}

code_length : (env : Places) (a : ℕ) (ss : List Stmt) → length (code env a ss) ≡ total_size ss
unfolding code
code_length env a [] = refl
code_length env a (s ∷ ss) = length-append (stmt_bytes env a s) (code env (a + size s) ss)
    ∙ (let p = bytes_size env a s in let q = code_length env (a + size s) ss in omega (arith, p, q))

-- where nothing stands in the way the statements fit, and the text is that of the statements
assembled_by : (ss : List Stmt) (a b c : Option ℕ) (text : Text)
    → (let r : Result Text AsmFault = elim a [
      | Some n ↦ Err (AsmFault.DoubleLabel n)
      | None ↦ elim b [ Some n ↦ Err (AsmFault.NoLabel n) | None ↦ elim c [ Some n ↦ Err (AsmFault.TooLarge n) | None ↦ Ok (text_of text_base ss) ] ]
    ] in r) ≡ Ok text
    → (c ≡ None) × (text_of text_base ss ≡ text)
assembled_by ss (Some n) b c text h = absurd cc
assembled_by ss None (Some n) c text h = absurd cc
assembled_by ss None None (Some n) text h = absurd cc
assembled_by ss None None None text h = (refl, is_same (text_of text_base ss) text h)
  where
    is_same : (x y : Text) → ◌≡◌ {A = Result Text AsmFault} (Ok x) (Ok y) → x ≡ y
    is_same x y e = cc

assembled_ok : (ss : List Stmt) (text : Text) → assembled ss text_base most_text ≡ Ok text → (total_size ss ≤ most_text) × (text_of text_base ss ≡ text)
unfolding assembled
assembled_ok ss text h =
    let k = assembled_by ss (first_at is_second_label 0 [] ss) (first_at (λ before s. leads_nowhere (stmt_labels ss) s) 0 [] ss)
    (first_too_large 0 most_text ss) text h in
    (total_fits ss 0 most_text k.0, k.1)

-- the text of these statements, assembled
abbrev whole_with : List Stmt → Text → WholeText
whole_with ss text = record { bytes = text.bytes; labels = places text_base ss }

ended_by : (ss : List Stmt) (r : Result Text AsmFault) (whole : WholeText)
    → (let w : Result WholeText Cause = elim r [ Ok text ↦ Ok (whole_with ss text) | Err fault ↦ Err (fault_cause fault) ] in w) ≡ Ok whole
    → (text : Text) × (r ≡ Ok text) × (whole_with ss text ≡ whole)
ended_by ss (Err fault) whole h = absurd cc
ended_by ss (Ok text) whole h = (text, refl, is_same (whole_with ss text) whole h)
  where
    is_same : (x y : WholeText) → ◌≡◌ {A = Result WholeText Cause} (Ok x) (Ok y) → x ≡ y
    is_same x y e = cc

-- the labels of a text are those that its statements give
labels_given : (ss : List Stmt) (a : ℕ) (name : Token) → has_label (places a ss) name ≡ list_any (λ n. is_name n name) (stmt_labels ss)
unfolding places
labels_given [] a name = refl
labels_given (Stmt.Label n ∷ ss) a name = ap (λ (b : Bool). is_name n name || b) (labels_given ss a name)
labels_given (Stmt.Plain i ∷ ss) a name = labels_given ss (a + size (Stmt.Plain i)) name
labels_given (Stmt.Jump c n ∷ ss) a name = labels_given ss (a + size (Stmt.Jump c n)) name

given_in_text : (ss : List Stmt) (a : ℕ) (name : Token) → has_label (places a ss) name ≡ true → is_new_name (stmt_labels ss) name ≡ false
given_in_text ss a name h = ap not (sym (labels_given ss a name) ∙ h)

whole_of : (ss : List Stmt) → AllSmall ss → total_size ss ≤ most_text
    → IsWhole (whole_with ss (text_of text_base ss))
whole_of ss g h =
    let long = code_length (places text_base ss) text_base ss in
    record {
      fits = omega (arith, long, h);
      small = code_bytes (places text_base ss) text_base ss g;
      labels_lie = λ name there.
          let k = place_bounds ss text_base name (given_in_text ss text_base name there) in
          and_from _ _ (at_most 0x400000 (place (places text_base ss) name) k.0)
          (at_most (place (places text_base ss) name) (0x400000 + length (code (places text_base ss) text_base ss)) (omega (arith, k.1, long)));
    }

pub text_kept : (ss : List Stmt) (whole : WholeText) → AllSmall ss → text_ended ss ≡ Ok whole → IsWhole whole
unfolding text_ended
text_kept ss whole g h =
    let e = ended_by ss (assembled ss text_base most_text) whole h in
    let k = assembled_ok ss e.0 e.1 in
    subst IsWhole (ap (whole_with ss) k.1 ∙ e.2) (whole_of ss g k.0)
