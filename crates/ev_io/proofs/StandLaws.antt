-- A reader behind lines that follow each other: what stands there, and what comes of the next answer.
use Rattle.std.proofs.Common.{◌≡◌, ℕ, suc, ◌+◌, Bool, true, false, List, [], ◌∷◌, ◌++◌, length, Option, Some, None, Result, Ok, Err, refl, ap, sym, ◌∙◌, append-nil, append_assoc, length-append, arith}
use Rattle.ev_io.specs.declared.cause.Cause.{Cause}
use Rattle.ev_io.specs.Lines.{Reading}
use Rattle.ev_io.specs.Tokens.{Token, tokens_of, is_passed_over}
use Rattle.ev_io.specs.InputLines.{ByteFault, lines_of, text_of, line_fault, joined, Says, Ends, Faulty, next_said, DrawsPart, Skips}
use Rattle.ev_io.specs.Follow.{cause_of, line_follows, read, Stands, FollowsPart}
use Rattle.ev_io.proofs.NextLaws.{over_first, said_first, fault_first}
use Rattle.ev_io.proofs.FollowLaws.{read_on, read_next, count_on, count_next}

joined-append : (xs ys : List (List ℕ)) → joined (xs ++ ys) ≡ joined xs ++ joined ys
joined-append [] ys = refl
joined-append (x ∷ xs) ys = ap (λ zs. x ++ zs) (joined-append xs ys) ∙ sym (append_assoc x (joined xs) (joined ys))

-- ---- reading goes on

-- what comes of the lines behind those that gave r
abbrev pub gone_on : {S : Type 0} → (S → List Token → Result S Cause) → (n before : ℕ) → List (List ℕ) → Result S (ℕ × Cause) → Result S (ℕ × Cause)
gone_on rule n before lines (Ok s) = read rule n before s lines
gone_on rule n before lines (Err refusal) = Err refusal

pub read_more : {S : Type 0} → (rule : S → List Token → Result S Cause) (n before : ℕ) (s : S) (xs ys : List (List ℕ))
    → read rule n before s (xs ++ ys) ≡ gone_on rule (n + length xs) (before + length (joined xs)) ys (read rule n before s xs)
unfolding read
read_more rule n before s [] ys = ap (λ k. read rule k before s ys) (none_more n) ∙ ap (λ k. read rule (n + 0) k s ys) (none_more before)
  where
    none_more : (n : ℕ) → n ≡ n + 0
    none_more n = omega arith
read_more {S} rule n before s (x ∷ xs) ys = by (line_follows rule before s x) (λ s'. read_more rule (n + 1) (before + length x) s' xs ys)
  where
    counted : n + suc (length xs) ≡ n + 1 + length xs
    counted = omega arith

    summed : before + length (x ++ joined xs) ≡ before + length x + length (joined xs)
    summed = omega (arith, length-append x (joined xs))

    by : (r : Result S Cause)
        → ((s' : S) → read rule (n + 1) (before + length x) s' (xs ++ ys) ≡ gone_on rule (n + 1 + length xs) (before + length x + length (joined xs)) ys
        (read rule (n + 1) (before + length x) s' xs))
        → elim r [ Err cause ↦ Err (n + 1, cause) | Ok s' ↦ read rule (n + 1) (before + length x) s' (xs ++ ys) ]
        ≡ gone_on rule (n + length (x ∷ xs)) (before + length (joined (x ∷ xs))) ys
        (elim r [ Err cause ↦ Err (n + 1, cause) | Ok s' ↦ read rule (n + 1) (before + length x) s' xs ])
    by (Err cause) go = refl
    by (Ok s') go = rw (counted, summed) (go s')

-- ---- the lines through the next one that is said

pub record Through (n before : ℕ) (lines : List (List ℕ)) (m gone : ℕ) (text : List ℕ) (behind : List (List ℕ)) : Type 0 where
  pub passed : List (List ℕ)
  pub lies : lines ≡ passed ++ behind
  pub said : next_said n before passed ≡ Says m gone text []
  pub number : m ≡ n + length passed
  pub counted : gone ≡ before + length (joined passed)

pub through : (n before : ℕ) (lines : List (List ℕ)) (m gone : ℕ) (text : List ℕ) (behind : List (List ℕ))
    → next_said n before lines ≡ Says m gone text behind → Through n before lines m gone text behind
unfolding next_said
through n before [] m gone text behind e = absurd cc
through n before (line ∷ lines) m gone text behind e =
    by (line_fault before line) refl (is_passed_over (tokens_of (text_of line))) refl (through (n + 1) (before + length line) lines m gone text behind)
  where
    by : (f : Option ByteFault) → line_fault before line ≡ f → (p : Bool) → is_passed_over (tokens_of (text_of line)) ≡ p
        → (next_said (n + 1) (before + length line) lines ≡ Says m gone text behind → Through (n + 1) (before + length line) lines m gone text behind)
        → Through n before (line ∷ lines) m gone text behind
    by (Some f) h p k more = absurd (let z : Faulty (n + 1) f ≡ Says m gone text behind = sym (fault_first n before line lines f h) ∙ e in cc)
    by None h true k more =
        let t : Through (n + 1) (before + length line) lines m gone text behind = more (sym (over_first n before line lines h k) ∙ e) in
        record {
          passed = line ∷ t.passed;
          lies = ap (λ (ls : List (List ℕ)). line ∷ ls) t.lies;
          said = over_first n before line t.passed h k ∙ t.said;
          number = omega (arith, t.number);
          counted = omega (arith, t.counted, length-append line (joined t.passed));
        }
    by None h false k more =
        let z : Says (n + 1) (before + length line) (text_of line) lines ≡ Says m gone text behind = sym (said_first n before line lines h k) ∙ e in
        let number : n + 1 ≡ m = cc in
        let bytes : before + length line ≡ gone = cc in
        let same : text_of line ≡ text = cc in
        let rest : lines ≡ behind = cc in
        record {
          passed = line ∷ [];
          lies = ap (λ (ls : List (List ℕ)). line ∷ ls) rest;
          said = said_first n before line [] h k ∙ ap (λ j. Says j (before + length line) (text_of line) []) number
              ∙ ap (λ j. Says m j (text_of line) []) bytes ∙ ap (λ t. Says m gone t []) same;
          number = omega (arith, number);
          counted = omega (arith, bytes, ap length (append-nil line));
        }

-- ---- a reader behind lines that follow each other

pub stands_first : {S : Type 0} → (rule : S → List Token → Result S Cause) (old : Reading) (first : S) (bytes : List ℕ) (rest : Option (List ℕ))
    → rest ≡ Some bytes → Stands rule old first bytes old rest first
unfolding read
stands_first rule old first bytes rest e = record {
  passed = [];
  left = bytes;
  to_come = e;
  lines = refl;
  follow = refl;
  number = omega arith;
  gone =
      omega arith;
}

-- what comes of all lines is what comes of those behind it
pub stands_on : {S : Type 0} → (rule : S → List Token → Result S Cause) (old : Reading) (first : S) (bytes : List ℕ) (now : Reading)
    (rest : Option (List ℕ)) (s : S) → (p : Stands rule old first bytes now rest s)
    → read rule old.number old.gone first (lines_of bytes) ≡ read_on rule s (next_said now.number now.gone (lines_of p.left))
stands_on rule old first bytes now rest s p =
    ap (read rule old.number old.gone first) p.lines ∙ read_more rule old.number old.gone first p.passed (lines_of p.left)
    ∙ ap (gone_on rule (old.number + length p.passed) (old.gone + length (joined p.passed)) (lines_of p.left)) p.follow
    ∙ ap (λ k. read rule k (old.gone + length (joined p.passed)) s (lines_of p.left)) (sym p.number) ∙ ap (λ k. read rule now.number k s (lines_of p.left))
    (sym p.gone)
    ∙ read_next rule now.number now.gone s (lines_of p.left)

-- ---- the next answer

-- a line that is said and follows
pub stands_more : {S : Type 0} → (rule : S → List Token → Result S Cause) (old : Reading) (first : S) (bytes : List ℕ) (now : Reading)
    (rest : Option (List ℕ)) (s : S) (new : Reading) (rest' : Option (List ℕ)) (n : ℕ) (s' : S)
    → (p : Stands rule old first bytes now rest s) → Skips now p.left new rest' (Ok (Some n)) → rule s (tokens_of new.text) ≡ Ok s'
    → Stands rule old first bytes new rest' s'
unfolding read
stands_more rule old first bytes now rest s new rest' n s' p k e =
    let t : Through now.number now.gone (lines_of p.left) n new.gone new.text (lines_of k.0) =
    through now.number now.gone (lines_of p.left) n new.gone new.text (lines_of k.0) k.3 in
    record {
      passed = p.passed ++ t.passed;
      left = k.0;
      to_come = k.1;
      lines = p.lines ∙ ap (λ (ls : List (List ℕ)). p.passed ++ ls) t.lies ∙ sym (append_assoc p.passed t.passed (lines_of k.0));
      follow =
          read_more rule old.number old.gone first p.passed t.passed
          ∙ ap (gone_on rule (old.number + length p.passed) (old.gone + length (joined p.passed)) t.passed) p.follow
          ∙ ap (λ k. read rule k (old.gone + length (joined p.passed)) s t.passed) (sym p.number) ∙ ap (λ k. read rule now.number k s t.passed) (sym p.gone)
          ∙ read_next rule now.number now.gone s t.passed ∙ ap (read_on rule s) t.said ∙ rw (read_on, e) refl;
      number = omega (arith, k.2, t.number, p.number, length-append p.passed t.passed);
      gone = omega (arith, t.counted, p.gone, ap length (joined-append p.passed t.passed), length-append (joined p.passed) (joined t.passed));
    }

-- a line that is said and has a cause
pub stands_refused : {S : Type 0} → (rule : S → List Token → Result S Cause) (old : Reading) (first : S) (bytes : List ℕ) (now : Reading)
    (rest : Option (List ℕ)) (s : S) (new : Reading) (rest' : Option (List ℕ)) (n : ℕ) (cause : Cause)
    → (p : Stands rule old first bytes now rest s) → Skips now p.left new rest' (Ok (Some n)) → rule s (tokens_of new.text) ≡ Err cause
    → read rule old.number old.gone first (lines_of bytes) ≡ Err (n, cause)
unfolding read
stands_refused rule old first bytes now rest s new rest' n cause p k e = stands_on rule old first bytes now rest s p ∙ ap (read_on rule s) k.3
    ∙ rw (read_on, e) refl

-- a line whose bytes have a fault
pub stands_faulty : {S : Type 0} → (rule : S → List Token → Result S Cause) (old : Reading) (first : S) (bytes : List ℕ) (now : Reading)
    (rest : Option (List ℕ)) (s : S) (n : ℕ) (fault : ByteFault)
    → (p : Stands rule old first bytes now rest s) → next_said now.number now.gone (lines_of p.left) ≡ Faulty n fault
    → read rule old.number old.gone first (lines_of bytes) ≡ Err (n, cause_of fault)
stands_faulty rule old first bytes now rest s n fault p k = stands_on rule old first bytes now rest s p ∙ ap (read_on rule s) k

-- no line is left
pub stands_last : {S : Type 0} → (rule : S → List Token → Result S Cause) (old : Reading) (first : S) (bytes : List ℕ) (now : Reading)
    (rest : Option (List ℕ)) (s : S) (new : Reading)
    → (p : Stands rule old first bytes now rest s) → next_said now.number now.gone (lines_of p.left) ≡ Ends new.number new.gone
    → (read rule old.number old.gone first (lines_of bytes) ≡ Ok s) × (new.number ≡ old.number + length (lines_of bytes))
stands_last rule old first bytes now rest s new p k = (
  stands_on rule old first bytes now rest s p ∙ ap (read_on rule s) k,
  (let all = count_next now.number now.gone (lines_of p.left) in
      let here : new.number ≡ now.number + length (lines_of p.left) = ap (count_on (now.number + length (lines_of p.left))) (sym k) ∙ all in
      omega (arith, here, p.number, ap length p.lines, length-append p.passed (lines_of p.left))),
)

-- the source failed
pub stands_part : {S : Type 0} → (rule : S → List Token → Result S Cause) (old : Reading) (first : S) (bytes : List ℕ) (now : Reading)
    (rest : Option (List ℕ)) (s : S) (new : Reading) (rest' : Option (List ℕ))
    → (p : Stands rule old first bytes now rest s) → DrawsPart now p.left new rest' → FollowsPart rule old first bytes new rest'
unfolding read
stands_part rule old first bytes now rest s new rest' p d = record {
  passed = p.passed ++ d.passed;
  left = d.left;
  to_come = d.to_come;
  lines = p.lines ∙ ap (λ (ls : List (List ℕ)). p.passed ++ ls) d.lines ∙ sym (append_assoc p.passed d.passed (lines_of (new.text ++ d.left)));
  stands = s;
  follow =
      read_more rule old.number old.gone first p.passed d.passed
      ∙ ap (gone_on rule (old.number + length p.passed) (old.gone + length (joined p.passed)) d.passed) p.follow
      ∙ ap (λ k. read rule k (old.gone + length (joined p.passed)) s d.passed) (sym p.number) ∙ ap (λ k. read rule now.number k s d.passed) (sym p.gone)
      ∙ read_next rule now.number now.gone s d.passed ∙ ap (read_on rule s) d.over;
  part = record {
    printable = d.part.printable;
    short = d.part.short;
    within = omega (arith, d.part.within, p.gone, ap length (joined-append p.passed d.passed), length-append (joined p.passed) (joined d.passed));
  };
}
