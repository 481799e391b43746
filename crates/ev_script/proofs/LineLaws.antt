-- What the operands of a script line come to.
use Rattle.std.proofs.Common.{◌≡◌, ◌≢◌, ℕ, Bool, true, false, ◌&&◌, ◌||◌, nat_lt, ◌<◌, ◌≤◌, List, [], ◌∷◌, length, map, take, drop, ◌-◌, get_or, Option, Some, None, Result, Ok, Err, refl, ap, sym, ◌∙◌, arith}
use Rattle.std.specs.Prelude.{nat_le, ◌==◌}
use Rattle.std.specs.List.{list_any, list_all}
use Rattle.std.proofs.lemmas.Bool.Decides.{nat_tests}
use Rattle.std.proofs.lemmas.List.{length-map, take_rest}
use Rattle.ev_body.specs.declared.key.Key.{Key}
use Rattle.ev_body.specs.declared.body.Body.{Body}
use Rattle.ev_body.specs.Bodies.{key_number}
use Rattle.ev_body.specs.KernelImage.{KernelImage}
use Rattle.ev_abstract.specs.declared.script_line.Line.TheVariants as Line
use Rattle.ev_io.specs.declared.cause.Cause.{Cause}
use Rattle.ev_io.specs.Tokens.{Token}
use Rattle.ev_line.specs.Operands.{Place, Value, Processor, Within, KeyOfBody, value, then_make, if_it, among, sent_key, key_of_body}
use Rattle.ev_line.specs.Forms.{Form, form, is_plain, kind_here, fitting, read_fitting, read_forms, read_by, read_only}
use Rattle.ev_line.proofs.FormLaws.{one_form, one_place, make_both, two_places, other_count, is_within, first_six}
use Rattle.ev_script.specs.declared.line.Word.{Word}
use Rattle.ev_script.specs.ScriptLine.{word_of, forms_of_word, script_forms, keys_with_bodies, line_of_tokens}

-- another number of operands
pub count_differs : {A X : Type 0} → (f : Form X) (now : A → Token) (xs : List A) → length f.places ≢ length xs → Err Cause.Count ≡ read_only f (map now xs)
count_differs f now xs h = sym (other_count f (map now xs) (λ e. h (e ∙ length-map xs now)))

just_one : {A : Type 0} → (now : A → Token) (d : A) (xs : List A) → 1 ≤ length xs → length xs < 2 → map now xs ≡ now (get_or xs 0 d) ∷ []
just_one now d [] h k = absurd (omega (arith, h))
just_one now d (x ∷ []) h k = refl
just_one now d (x ∷ y ∷ ys) h k = absurd (omega (arith, k))

just_two : {A : Type 0} → (now : A → Token) (d : A) (xs : List A) → 2 ≤ length xs → length xs < 3 → map now xs ≡ now (get_or xs 0 d) ∷ now (get_or xs 1 d) ∷ []
just_two now d [] h k = absurd (omega (arith, h))
just_two now d (x ∷ []) h k = absurd (omega (arith, h))
just_two now d (x ∷ y ∷ []) h k = refl
just_two now d (x ∷ y ∷ z ∷ zs) h k = absurd (omega (arith, k))

-- one operand
pub read_one : {A X : Type 0} → (p : Place) (f : Value p → X) (now : A → Token) (d : A) (xs : List A) (r : Result (Value p) Cause) → 1 ≤ length xs
    → length xs < 2
    → r ≡ value p (now (get_or xs 0 d)) → then_make f r ≡ read_only (form (p ∷ []) f) (map now xs)
read_one p f now d xs r h k e = ap (then_make f) e ∙ sym (one_place p f (now (get_or xs 0 d))) ∙ ap (read_only (form (p ∷ []) f)) (sym (just_one now d xs h k))

-- two operands
pub read_two : {A X : Type 0} → (p q : Place) (f : Value p → Value q → X) (now : A → Token) (d : A) (xs : List A) (r : Result (Value p) Cause)
    (s : Result (Value q) Cause) → 2 ≤ length xs → length xs < 3
    → r ≡ value p (now (get_or xs 0 d)) → s ≡ value q (now (get_or xs 1 d)) → make_both f r s ≡ read_only (form (p ∷ q ∷ []) f) (map now xs)
read_two p q f now d xs r s h k e g =
    ap (λ x. make_both f x s) e ∙ ap (make_both f (value p (now (get_or xs 0 d)))) g ∙ sym (two_places p q f (now (get_or xs 0 d)) (now (get_or xs 1 d)))
    ∙ ap (read_only (form (p ∷ q ∷ []) f)) (sym (just_two now d xs h k))

-- ---- lines that are well formed

pub edge_formed : (count p n : ℕ) → p < count → 1 ≤ n → n ≤ 4096 → (nat_lt p count && nat_le 1 n && nat_le n 4096) ≡ true
edge_formed count p n h k l = grind (arith, nat_tests)

pub arrive_formed : (count p : ℕ) (sent has : Bool) → p < count → sent ≡ true → has ≡ true → (nat_lt p count && sent && has) ≡ true
arrive_formed count p sent has h k l = rw (k, l, less) refl
  where
    less : nat_lt p count ≡ true
    less = grind (arith, nat_tests)

pub processor_formed : (count p : ℕ) → p < count → nat_lt p count ≡ true
processor_formed count p h = grind (arith, nat_tests)

-- ---- keys that have bodies

-- the two ways to say that a key has a body
pub bodies_among : (bodies : List Body) (n : ℕ) → among (map (λ (b : Body). key_number b.key) bodies) n ≡ list_any (λ (b : Body). key_number b.key == n) bodies
bodies_among [] n = refl
bodies_among (b ∷ bs) n = ap (λ v. (key_number b.key == n) || v) (bodies_among bs n)

-- a key that can be sent, by whether it has a body
abbrev has_key : List ℕ → Key → Bool
has_key keys k = among keys (key_number k)

chosen : (b : Bool) (k : Key) (cause : Cause) → b ≡ true → ◌≡◌ {A = Result Key Cause} (Ok k) (elim b [ true ↦ Ok k | false ↦ Err cause ])
chosen true k cause h = refl
chosen false k cause h = absurd cc

refused : (b : Bool) (k : Key) (cause : Cause) → b ≡ false → ◌≡◌ {A = Result Key Cause} (Err cause) (elim b [ true ↦ Ok k | false ↦ Err cause ])
refused true k cause h = absurd cc
refused false k cause h = refl

pub with_body : (keys : List ℕ) (t : Token) (k : Key) → sent_key t ≡ Ok k → among keys (key_number k) ≡ true → Ok k ≡ key_of_body keys t
unfolding key_of_body
with_body keys t k e h = chosen (has_key keys k) k Cause.NoBody h ∙ sym (ap (if_it (has_key keys) Cause.NoBody) e)

pub without_body : (keys : List ℕ) (t : Token) (k : Key) → sent_key t ≡ Ok k → among keys (key_number k) ≡ false → Err Cause.NoBody ≡ key_of_body keys t
unfolding key_of_body
without_body keys t k e h = refused (has_key keys k) k Cause.NoBody h ∙ sym (ap (if_it (has_key keys) Cause.NoBody) e)

pub no_key : (keys : List ℕ) (t : Token) (cause : Cause) → sent_key t ≡ Err cause → Err cause ≡ key_of_body keys t
unfolding key_of_body
no_key keys t cause e = sym (ap (if_it (has_key keys) Cause.NoBody) e)

-- ---- words

-- what is made of one place
pub made_of_one : {X : Type 0} → (p : Place) (f : Value p → X) (ts : List Token)
    → read_only (form (p ∷ []) f) ts ≡ then_make f (read_only (form (p ∷ []) (λ v. v)) ts)
made_of_one p f [] = other_count (form (p ∷ []) f) [] (λ e. absurd (omega (arith, e)))
    ∙ sym (ap (then_make f) (other_count (form (p ∷ []) (λ v. v)) [] (λ e. absurd (omega (arith, e)))))
made_of_one {X} p f (t ∷ []) = one_place p f t ∙ by (value p t) ∙ sym (ap (then_make f) (one_place p (λ v. v) t))
  where
    by : (r : Result (Value p) Cause) → then_make f r ≡ then_make f (then_make (λ v. v) r)
    by (Err cause) = refl
    by (Ok v) = refl
made_of_one p f (t ∷ u ∷ us) =
    other_count (form (p ∷ []) f) (t ∷ u ∷ us) (λ e. absurd (omega (arith, e)))
    ∙ sym (ap (then_make f) (other_count (form (p ∷ []) (λ v. v)) (t ∷ u ∷ us) (λ e. absurd (omega (arith, e)))))

-- the forms of each word, as one form
pub turn_forms : (count : ℕ) (keys : List ℕ) (ts : List Token) → read_forms (forms_of_word count keys (Some Word.Turn)) ts ≡ then_make Line.Turn
    (read_only (form (Processor count ∷ []) (λ p. p)) ts)
unfolding forms_of_word is_plain
turn_forms count keys ts = one_form (form (Processor count ∷ []) (λ p. Line.Turn p)) ts refl ∙ made_of_one (Processor count) Line.Turn ts

pub accept_forms : (count : ℕ) (keys : List ℕ) (ts : List Token) → read_forms (forms_of_word count keys (Some Word.Accept)) ts ≡ then_make Line.Accept
    (read_only (form (Processor count ∷ []) (λ p. p)) ts)
unfolding forms_of_word is_plain
accept_forms count keys ts = one_form (form (Processor count ∷ []) (λ p. Line.Accept p)) ts refl ∙ made_of_one (Processor count) Line.Accept ts

pub edge_forms : (count : ℕ) (keys : List ℕ) (ts : List Token) → read_forms (forms_of_word count keys (Some Word.Edge)) ts ≡ read_only
    (form (Processor count ∷ Within 1 4096 ∷ []) (λ p n. Line.Edge p n)) ts
unfolding forms_of_word is_plain
edge_forms count keys ts = one_form (form (Processor count ∷ Within 1 4096 ∷ []) (λ p n. Line.Edge p n)) ts refl

pub arrive_forms : (count : ℕ) (keys : List ℕ) (ts : List Token) → read_forms (forms_of_word count keys (Some Word.Arrive)) ts ≡ read_only
    (form (Processor count ∷ KeyOfBody keys ∷ []) (λ p key. Line.Arrive p key)) ts
unfolding forms_of_word is_plain
arrive_forms count keys ts = one_form (form (Processor count ∷ KeyOfBody keys ∷ []) (λ p key. Line.Arrive p key)) ts refl

-- no form has more than two places
pub few_places : (count : ℕ) (keys : List ℕ) (w : Option Word) → list_all (is_within 4) (forms_of_word count keys w) ≡ true
unfolding forms_of_word
few_places count keys None = refl
few_places count keys (Some Word.Turn) = refl
few_places count keys (Some Word.Edge) = refl
few_places count keys (Some Word.Arrive) = refl
few_places count keys (Some Word.Accept) = refl

pub first_tokens_tell : (image : KernelImage) (ts : List Token) → line_of_tokens image (take 6 ts) ≡ line_of_tokens image ts
unfolding line_of_tokens
first_tokens_tell image ts = first_six (script_forms image.processors (keys_with_bodies image)) ts
    (λ w. few_places image.processors (keys_with_bodies image) (word_of w))

-- ---- a line's first token

none_fit : {X : Type 0} → (n : ℕ) (ts : List Token) → fitting {X = X} n ts [] ≡ []
unfolding fitting kind_here
none_fit n [] = refl
none_fit n (t ∷ ts) = refl

none_read : {X : Type 0} → (ts : List Token) → read_forms {X = X} [] ts ≡ Err Cause.Word
unfolding read_forms read_fitting
none_read {X} ts = ap (read_fitting {X = X} ts) (none_fit 0 ts)

pub no_tokens : {A : Type 0} → (image : KernelImage) (now : A → Token) (xs : List A) → length xs < 1 → Err Cause.Word ≡ line_of_tokens image (map now xs)
unfolding line_of_tokens read_by
no_tokens image now [] h = refl
no_tokens image now (x ∷ xs) h = absurd (omega (arith, h))

pub unknown_word : {A : Type 0} → (image : KernelImage) (now : A → Token) (d : A) (xs : List A) → 1 ≤ length xs → word_of (now (get_or xs 0 d)) ≡ None
    → Err Cause.Word ≡ line_of_tokens image (map now xs)
unfolding line_of_tokens read_by forms_of_word
unknown_word image now d [] h e = absurd (omega (arith, h))
unknown_word image now d (x ∷ xs) h e =
    sym (ap (λ (w : Option Word). read_forms (forms_of_word image.processors (keys_with_bodies image) w) (map now xs)) e ∙ none_read (map now xs))

pub known_word : {A : Type 0} → (image : KernelImage) (now : A → Token) (d : A) (xs : List A) (w : Word) → 1 ≤ length xs
    → word_of (now (get_or xs 0 d)) ≡ Some w
    → read_forms (forms_of_word image.processors (keys_with_bodies image) (Some w)) (map now (take (length xs - 1) (drop 1 xs))) ≡ line_of_tokens image
    (map now xs)
unfolding line_of_tokens read_by
known_word image now d [] w h e = absurd (omega (arith, h))
known_word image now d (x ∷ xs) w h e =
    ap (λ ys. read_forms (forms_of_word image.processors (keys_with_bodies image) (Some w)) (map now ys)) (take_rest (x ∷ xs) 1)
    ∙ ap (λ (o : Option Word). read_forms (forms_of_word image.processors (keys_with_bodies image) o) (map now xs)) (sym e)
