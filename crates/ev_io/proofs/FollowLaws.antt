-- Reading lines in turn goes from one line that is said to the next.
use Rattle.std.proofs.Common.{◌≡◌, ℕ, ◌+◌, Bool, true, false, List, [], ◌∷◌, length, Option, Some, None, Result, Ok, Err, refl, ap, sym, ◌∙◌, arith}
use Rattle.ev_io.specs.declared.cause.Cause.{Cause}
use Rattle.ev_io.specs.Tokens.{Token, tokens_of, is_passed_over}
use Rattle.ev_io.specs.InputLines.{ByteFault, text_of, line_fault, Next, Says, Ends, Faulty, next_said}
use Rattle.ev_io.specs.Follow.{cause_of, tokens_follow, line_follows, read}
use Rattle.ev_io.proofs.NextLaws.{over_first, said_first, fault_first}

-- what stands after the next line that is said and those behind it
abbrev pub read_on : {S : Type 0} → (S → List Token → Result S Cause) → S → Next → Result S (ℕ × Cause)
read_on rule s (Ends n gone) = Ok s
read_on rule s (Faulty n fault) = Err (n, cause_of fault)
read_on rule s (Says n gone text behind) = elim (rule s (tokens_of text)) [ Err cause ↦ Err (n, cause) | Ok s' ↦ read rule n gone s' behind ]

-- a first line that has a fault, or is passed over, or said
fault_read : {S : Type 0} → (rule : S → List Token → Result S Cause) (n before : ℕ) (s : S) (line : List ℕ) (lines : List (List ℕ)) (f : ByteFault)
    → line_fault before line ≡ Some f
    → read rule n before s (line ∷ lines) ≡ Err (n + 1, cause_of f)
unfolding read line_follows
fault_read rule n before s line lines f h = rw (read, line_follows, h) refl

over_read : {S : Type 0} → (rule : S → List Token → Result S Cause) (n before : ℕ) (s : S) (line : List ℕ) (lines : List (List ℕ))
    → line_fault before line ≡ None
    → is_passed_over (tokens_of (text_of line)) ≡ true → read rule n before s (line ∷ lines) ≡ read rule (n + 1) (before + length line) s lines
unfolding read line_follows tokens_follow
over_read rule n before s line lines h k = rw (read, line_follows, h, tokens_follow, k) refl

said_read : {S : Type 0} → (rule : S → List Token → Result S Cause) (n before : ℕ) (s : S) (line : List ℕ) (lines : List (List ℕ))
    → line_fault before line ≡ None
    → is_passed_over (tokens_of (text_of line)) ≡ false
    → read rule n before s (line ∷ lines) ≡ read_on rule s (Says (n + 1) (before + length line) (text_of line) lines)
unfolding read line_follows tokens_follow
said_read rule n before s line lines h k = rw (read, line_follows, h, tokens_follow, k) refl

pub read_next : {S : Type 0} → (rule : S → List Token → Result S Cause) (n before : ℕ) (s : S) (lines : List (List ℕ))
    → read rule n before s lines ≡ read_on rule s (next_said n before lines)
unfolding read next_said
read_next rule n before s [] = refl
read_next {S} rule n before s (line ∷ lines) = by (line_fault before line) refl (is_passed_over (tokens_of (text_of line))) refl
    (read_next rule (n + 1) (before + length line) s lines)
  where
    by : (f : Option ByteFault) → line_fault before line ≡ f → (p : Bool) → is_passed_over (tokens_of (text_of line)) ≡ p
        → read rule (n + 1) (before + length line) s lines ≡ read_on rule s (next_said (n + 1) (before + length line) lines)
        → read rule n before s (line ∷ lines) ≡ read_on rule s (next_said n before (line ∷ lines))
    by (Some f) h p k more = fault_read rule n before s line lines f h ∙ ap (read_on rule s) (sym (fault_first n before line lines f h))
    by None h true k more = over_read rule n before s line lines h k ∙ more ∙ ap (read_on rule s) (sym (over_first n before line lines h k))
    by None h false k more = said_read rule n before s line lines h k ∙ ap (read_on rule s) (sym (said_first n before line lines h k))

-- how many lines there are, behind the next one that is said
abbrev pub count_on : ℕ → Next → ℕ
count_on all (Ends n gone) = n
count_on all (Faulty n fault) = all
count_on all (Says n gone text behind) = n + length behind

pub count_next : (n before : ℕ) (lines : List (List ℕ)) → count_on (n + length lines) (next_said n before lines) ≡ n + length lines
unfolding next_said
count_next n before [] = omega arith
count_next n before (line ∷ lines) = by (line_fault before line) refl (is_passed_over (tokens_of (text_of line))) refl
    (count_next (n + 1) (before + length line) lines)
  where
    counted : n + 1 + length lines ≡ n + length (line ∷ lines)
    counted = omega arith

    by : (f : Option ByteFault) → line_fault before line ≡ f → (p : Bool) → is_passed_over (tokens_of (text_of line)) ≡ p
        → count_on (n + 1 + length lines) (next_said (n + 1) (before + length line) lines) ≡ n + 1 + length lines
        → count_on (n + length (line ∷ lines)) (next_said n before (line ∷ lines)) ≡ n + length (line ∷ lines)
    by (Some f) h p k more = ap (count_on (n + length (line ∷ lines))) (fault_first n before line lines f h)
    by None h true k more = ap (count_on (n + length (line ∷ lines))) (over_first n before line lines h k)
        ∙ ap (λ m. count_on m (next_said (n + 1) (before + length line) lines)) (sym counted) ∙ more ∙ counted
    by None h false k more = ap (count_on (n + length (line ∷ lines))) (said_first n before line lines h k) ∙ counted
