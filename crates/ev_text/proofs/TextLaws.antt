-- A text with a statement more: its labels, its size, and what is refused.
use Rattle.std.proofs.Common.{◌≡◌, ℕ, ◌+◌, ◌<◌, ◌≤◌, Bool, true, false, ◌&&◌, List, [], ◌∷◌, ◌++◌, Result, Ok, Err, refl, sym, ap, ◌∙◌, arith, nat_lt, ◌⊎◌, inl, inr}
use Rattle.ev_isa.specs.Pages.{text_base}
use Rattle.ev_io.specs.declared.cause.Cause.{Cause}
use Rattle.ev_asm.specs.declared.statement.Stmt.{Stmt}
use Rattle.ev_asm.specs.declared.statement.Stmt.TheVariants.{Label, Plain, Jump}
use Rattle.ev_asm.specs.Assembly.{Places, Name, size, total_size, places}
use Rattle.ev_asm.specs.Assembled.{stmt_labels, is_second_label, is_encoded, are_instructions, assembled}
use Rattle.ev_asm.specs.LabelTable.{names_of, gives_again, label_given}
use Rattle.ev_asm.proofs.LabelLaws.{again, total_more, places_more}
use Rattle.ev_text.specs.TextStands.{IsText, stop_of}
use Rattle.ev_text.specs.UserText.{text_grown, text_ended, fault_cause, Comes}
use Rattle.ev_asm.specs.declared.text.Text.{Text}
use Rattle.ev_asm.specs.declared.fault.AsmFault.{AsmFault}
use Rattle.ev_asm.specs.declared.fault.AsmFault.TheVariants.{DoubleLabel, NoLabel, TooLarge, NoMemory}

label_names : (ss : List Stmt) (a : ℕ) → names_of (places a ss) ≡ stmt_labels ss
unfolding places
label_names [] a = refl
label_names (Label n ∷ ss) a = ap (λ (l : List Name). n ∷ l) (label_names ss a)
label_names (Plain i ∷ ss) a = label_names ss (a + size (Plain i))
label_names (Jump cond n ∷ ss) a = label_names ss (a + size (Jump cond n))

-- a label is given again exactly where a statement of the text gives it
gives : (ss : List Stmt) (s : Stmt) → gives_again (places text_base ss) s ≡ is_second_label ss s
gives ss s = again (places text_base ss) ss s (label_names ss text_base)

encoded_more : (ss : List Stmt) (s : Stmt) → are_instructions ss ≡ true → is_encoded s ≡ true → are_instructions (ss ++ s ∷ []) ≡ true
encoded_more [] s h e = rw e refl
encoded_more (x ∷ xs) s h e = by (is_encoded x) refl (are_instructions xs) refl h (λ g. encoded_more xs s g e)
  where
    by : (p : Bool) → is_encoded x ≡ p → (q : Bool) → are_instructions xs ≡ q → (p && q) ≡ true
        → (are_instructions xs ≡ true → are_instructions (xs ++ s ∷ []) ≡ true)
        → (p && are_instructions (xs ++ s ∷ [])) ≡ true
    by true d true f h go = go f
    by true d false f h go = absurd cc
    by false d q f h go = absurd cc

pub nothing_is_text : IsText [] [] 0
unfolding places
nothing_is_text = record { encoded = refl; given = refl; sum = refl; few = omega arith }

pub twice : (ss : List Stmt) (labels : Places) (n : ℕ) (s : Stmt) → IsText ss labels n → true ≡ gives_again labels s → text_grown ss s ≡ Err Cause.Double
unfolding text_grown
twice ss labels n s t h =
    let e : is_second_label ss s ≡ true = sym (gives ss s) ∙ sym (h ∙ ap (λ (l : Places). gives_again l s) t.given) in
    rw e refl

fresh : (ss : List Stmt) (labels : Places) (n : ℕ) (s : Stmt) → IsText ss labels n → false ≡ gives_again labels s → is_second_label ss s ≡ false
fresh ss labels n s t h = sym (gives ss s) ∙ sym (h ∙ ap (λ (l : Places). gives_again l s) t.given)

pub too_large : (ss : List Stmt) (labels : Places) (n : ℕ) (s : Stmt) → IsText ss labels n → false ≡ gives_again labels s → 65520 < n + size s
    → text_grown ss s ≡ Err Cause.Limit
unfolding text_grown
too_large ss labels n s t h l =
    let e = fresh ss labels n s t h in
    let g : nat_lt 65520 (total_size (ss ++ s ∷ [])) ≡ true = let k : 65520 < total_size (ss ++ s ∷ []) = omega (arith, total_more ss s, t.sum) in
    grind arith in
    rw (e, g) refl

pub grown : (ss : List Stmt) (labels : Places) (n : ℕ) (s : Stmt) → IsText ss labels n → false ≡ gives_again labels s → n + size s ≤ 65520
    → text_grown ss s ≡ Ok (ss ++ s ∷ [])
unfolding text_grown
grown ss labels n s t h l =
    let e = fresh ss labels n s t h in
    let g : nat_lt 65520 (total_size (ss ++ s ∷ [])) ≡ false = let k : total_size (ss ++ s ∷ []) ≤ 65520 = omega (arith, total_more ss s, t.sum) in
    grind arith in
    rw (e, g) refl

pub stands : (ss : List Stmt) (labels : Places) (n : ℕ) (s : Stmt) → IsText ss labels n → is_encoded s ≡ true → n + size s ≤ 65520 →
    IsText (ss ++ s ∷ []) (labels ++ label_given (text_base + n) s) (n + size s)
stands ss labels n s t e l = record {
  encoded = encoded_more ss s t.encoded e;
  given = rw (t.given, t.sum) (sym (places_more ss text_base s));
  sum = omega (arith, total_more ss s, t.sum);
  few = l;
}

-- ---- the end of a text

at_good : (ss : List Stmt) (labels : Places) (text : Text) → assembled ss text_base 65520 ≡ Ok text → labels ≡ places text_base ss
    → text_ended ss ≡ Ok (record { bytes = text.bytes; labels = labels })
unfolding text_ended
at_good ss labels text k g = rw (text_ended, k, g) refl

pub ended_good : (ss : List Stmt) (labels : Places) (n : ℕ) (r : Result Text AsmFault) (text : Text) → IsText ss labels n → r ≡ Ok text
    → (r ≡ Err NoMemory) ⊎ (r ≡ assembled ss text_base 65520)
    → text_ended ss ≡ Ok (record { bytes = text.bytes; labels = labels })
ended_good ss labels n r text t e (inl h) = absurd cc
ended_good ss labels n r text t e (inr h) = at_good ss labels text (sym h ∙ e) t.given

at_bad : (ss : List Stmt) (f : AsmFault) → assembled ss text_base 65520 ≡ Err f → text_ended ss ≡ Err (fault_cause f)
unfolding text_ended
at_bad ss f k = rw (text_ended, k) refl

bad_by : (ss : List Stmt) (f : AsmFault) → text_ended ss ≡ Err (fault_cause f) → Comes (text_ended ss) (Err (stop_of f))
bad_by ss (DoubleLabel n) h = h
bad_by ss (NoLabel n) h = h
bad_by ss (TooLarge n) h = h
bad_by ss NoMemory h = tt

pub ended_bad : (ss : List Stmt) (r : Result Text AsmFault) (f : AsmFault) → r ≡ Err f → (r ≡ Err NoMemory) ⊎ (r ≡ assembled ss text_base 65520)
    → Comes (text_ended ss) (Err (stop_of f))
ended_bad ss r f e (inl h) = let g : f ≡ NoMemory = let k : Err f ≡ Err NoMemory = sym e ∙ h in cc in rw g tt
ended_bad ss r f e (inr h) = bad_by ss f (at_bad ss f (sym h ∙ e))
