-- The next line that is said, behind lines that are passed over.
use Rattle.std.proofs.Common.{◌≡◌, ℕ, ◌+◌, ◌≤◌, Bool, true, false, List, [], ◌∷◌, ◌++◌, length, Option, Some, None, IfSome, Ok, Err, refl, ap, sym, ◌∙◌, append-nil, append_assoc, length-append, arith}
use Rattle.std.specs.Option.{option_map}
use Rattle.std.specs.Io.KnownBytes.{prepend_known}
use Rattle.ev_io.specs.declared.lines.LineFault.{LineFault}
use Rattle.ev_io.specs.Lines.{Outcome, Line, End, Bad, Reading, outcome, outcomes, Stops, Gives}
use Rattle.ev_io.specs.Tokens.{tokens_of, is_passed_over}
use Rattle.ev_io.specs.InputLines.{ByteFault, TooLarge, TooLong, NotAscii, lines_of, text_of, line_fault, fault_of, joined, Says, Ends, Faulty, next_said, DrawsPart, Skips}
use Rattle.ev_io.proofs.InputLineLaws.{Met, Nothing, Whole, Refused, met}

-- ---- one line

-- a first line that is passed over, or said, or has a fault
pub over_first : (n before : ℕ) (line : List ℕ) (lines : List (List ℕ)) → line_fault before line ≡ None → is_passed_over (tokens_of (text_of line)) ≡ true
    → next_said n before (line ∷ lines) ≡ next_said (n + 1) (before + length line) lines
unfolding next_said
over_first n before line lines f p = rw (next_said, f, next_said, p) refl

pub said_first : (n before : ℕ) (line : List ℕ) (lines : List (List ℕ)) → line_fault before line ≡ None → is_passed_over (tokens_of (text_of line)) ≡ false
    → next_said n before (line ∷ lines) ≡ Says (n + 1) (before + length line) (text_of line) lines
unfolding next_said
said_first n before line lines f p = rw (next_said, f, next_said, p) refl

pub fault_first : (n before : ℕ) (line : List ℕ) (lines : List (List ℕ)) (f : ByteFault) → line_fault before line ≡ Some f
    → next_said n before (line ∷ lines) ≡ Faulty (n + 1) f
unfolding next_said
fault_first n before line lines f h = rw (next_said, h) refl

-- lines behind lines that are passed over
pub over_behind : (n before m gone : ℕ) (xs ys : List (List ℕ)) → next_said n before xs ≡ Ends m gone → next_said n before (xs ++ ys) ≡ next_said m gone ys
unfolding next_said
over_behind n before m gone [] ys e = let a : n ≡ m = cc in let b : before ≡ gone = cc in ap (λ k. next_said k before ys) a ∙ ap (λ k. next_said m k ys) b
over_behind n before m gone (x ∷ xs) ys e = by (line_fault before x) refl (is_passed_over (tokens_of (text_of x))) refl
    (over_behind (n + 1) (before + length x) m gone xs ys)
  where
    by : (f : Option ByteFault) → line_fault before x ≡ f → (p : Bool) → is_passed_over (tokens_of (text_of x)) ≡ p
        → (next_said (n + 1) (before + length x) xs ≡ Ends m gone → next_said (n + 1) (before + length x) (xs ++ ys) ≡ next_said m gone ys)
        → next_said n before (x ∷ (xs ++ ys)) ≡ next_said m gone ys
    by (Some f) h p k more = absurd (let z : Faulty (n + 1) f ≡ Ends m gone = sym (fault_first n before x xs f h) ∙ e in cc)
    by None h true k more = over_first n before x (xs ++ ys) h k ∙ more (sym (over_first n before x xs h k) ∙ e)
    by None h false k more = absurd (let z : Says (n + 1) (before + length x) (text_of x) xs ≡ Ends m gone = sym (said_first n before x xs h k) ∙ e in cc)

-- lines that are passed over, and one more
pub over_more : (n before m gone : ℕ) (xs : List (List ℕ)) (line : List ℕ) → next_said n before xs ≡ Ends m gone → line_fault gone line ≡ None
    → is_passed_over (tokens_of (text_of line)) ≡ true
    → next_said n before (xs ++ line ∷ []) ≡ Ends (m + 1) (gone + length line)
unfolding next_said
over_more n before m gone xs line e f p = over_behind n before m gone xs (line ∷ []) e ∙ over_first m gone line [] f p

joined_more : (xs : List (List ℕ)) (line : List ℕ) → joined (xs ++ line ∷ []) ≡ joined xs ++ line
joined_more [] line = append-nil line
joined_more (x ∷ xs) line = ap (λ ys. x ++ ys) (joined_more xs line) ∙ sym (append_assoc x (joined xs) line)

-- ---- a reader behind lines that it passed over

pub record Passes (old : Reading) (bytes : List ℕ) (now : Reading) (rest : Option (List ℕ)) : Type 0 where
  pub passed : List (List ℕ)
  pub left : List ℕ
  pub to_come : rest ≡ Some left
  pub whole : bytes ≡ joined passed ++ left
  pub lines : lines_of bytes ≡ passed ++ lines_of left
  pub over : next_said old.number old.gone passed ≡ Ends now.number now.gone
  pub gone : now.gone ≡ old.gone + length (joined passed)

pub passes_none : (old : Reading) (bytes : List ℕ) (rest : Option (List ℕ)) → rest ≡ Some bytes → Passes old bytes old rest
unfolding next_said
passes_none old bytes rest e = record { passed = []; left = bytes; to_come = e; whole = refl; lines = refl; over = refl; gone = omega arith }

-- what comes of the lines behind them
pub goes : (old : Reading) (bytes : List ℕ) (now : Reading) (rest : Option (List ℕ)) → (p : Passes old bytes now rest)
    → next_said old.number old.gone (lines_of bytes) ≡ next_said now.number now.gone (lines_of p.left)
goes old bytes now rest p = ap (next_said old.number old.gone) p.lines ∙ over_behind old.number old.gone now.number now.gone p.passed (lines_of p.left) p.over

-- a line that was given: the first one of the bytes to come, without a fault
pub record Given (now : Reading) (left : List ℕ) (new : Reading) (rest : Option (List ℕ)) : Type 0 where
  pub line : List ℕ
  pub left' : List ℕ
  pub to_come : rest ≡ Some left'
  pub whole : left ≡ line ++ left'
  pub lines : lines_of left ≡ line ∷ lines_of left'
  pub fine : line_fault now.gone line ≡ None
  pub text : text_of line ≡ new.text
  pub gone : new.gone ≡ now.gone + length line

given_by : (now : Reading) (left : List ℕ) (new : Reading) (rest : Option (List ℕ)) → Met (now.number + 1) now.gone left
    → Some (outcome (now.number + 1) now.gone left) ≡ option_map (λ ys. Line new.text ys new.gone) rest → Given now left new rest
given_by now left new None m e = absurd cc
given_by now left new (Some ys) (Nothing b o) e = absurd cc
given_by now left new (Some ys) (Refused line lines f b k o) e = absurd cc
given_by now left new (Some ys) (Whole line l w b k o) e =
    let same : Line (text_of line) l (now.gone + length line) ≡ Line new.text ys new.gone = cc in
    let behind : l ≡ ys = cc in
    record {
      line = line;
      left' = l;
      to_come = ap Some (sym behind);
      whole = w;
      lines = b;
      fine = k;
      text = cc;
      gone = cc;
    }

pub given : (now : Reading) (left : List ℕ) (new : Reading) (old_rest rest : Option (List ℕ)) → now.gone ≤ 8388608 → old_rest ≡ Some left
    → outcomes (now.number + 1) now.gone old_rest ≡ option_map (λ ys. Line new.text ys new.gone) rest → Given now left new rest
given now left new old_rest rest h k e = given_by now left new rest (met (now.number + 1) now.gone left h) (ap (outcomes (now.number + 1) now.gone) (sym k) ∙ e)

pub passes_more : (old : Reading) (bytes : List ℕ) (now : Reading) (rest : Option (List ℕ)) (new : Reading) (rest' : Option (List ℕ))
    → (p : Passes old bytes now rest) → Given now p.left new rest' → new.number ≡ now.number + 1
    → is_passed_over (tokens_of new.text) ≡ true → Passes old bytes new rest'
passes_more old bytes now rest new rest' p g n o = record {
  passed = p.passed ++ g.line ∷ [];
  left = g.left';
  to_come = g.to_come;
  whole = p.whole ∙ ap (λ xs. joined p.passed ++ xs) g.whole ∙ sym (append_assoc (joined p.passed) g.line g.left')
      ∙ ap (λ xs. xs ++ g.left') (sym (joined_more p.passed g.line));
  lines = p.lines ∙ ap (λ (xs : List (List ℕ)). p.passed ++ xs) g.lines ∙ sym (append_assoc p.passed (g.line ∷ []) (lines_of g.left'));
  over = over_more old.number old.gone now.number now.gone p.passed g.line p.over g.fine (ap (λ t. is_passed_over (tokens_of t)) g.text ∙ o)
      ∙ ap (λ k. Ends k (now.gone + length g.line)) (sym n) ∙ ap (Ends new.number) (sym g.gone);
  gone = omega (arith, g.gone, p.gone, ap length (joined_more p.passed g.line), length-append (joined p.passed) g.line);
}

-- ---- the answers

pub says_it : (old : Reading) (bytes : List ℕ) (now : Reading) (rest : Option (List ℕ)) (new : Reading) (rest' : Option (List ℕ)) (n : ℕ)
    → (p : Passes old bytes now rest) → Given now p.left new rest' → new.number ≡ now.number + 1
    → n ≡ now.number + 1 → is_passed_over (tokens_of new.text) ≡ false → Skips old bytes new rest' (Ok (Some n))
says_it old bytes now rest new rest' n p g e f o = (
  g.left',
  g.to_come,
  e ∙ sym f,
  goes old bytes now rest p ∙ ap (next_said now.number now.gone) g.lines ∙ said_first now.number now.gone g.line (lines_of g.left') g.fine
      (ap (λ t. is_passed_over (tokens_of t)) g.text ∙ o)
      ∙ ap (λ k. Says k (now.gone + length g.line) (text_of g.line) (lines_of g.left')) (sym f) ∙ ap (λ k. Says n k (text_of g.line) (lines_of g.left'))
      (sym g.gone)
      ∙ ap (λ t. Says n new.gone t (lines_of g.left')) g.text,
)

ends_by : (old : Reading) (bytes : List ℕ) (now : Reading) (rest : Option (List ℕ)) (new : Reading) → (p : Passes old bytes now rest)
    → Met (now.number + 1) now.gone p.left
    → outcome (now.number + 1) now.gone p.left ≡ End → new.number ≡ now.number → new.gone ≡ now.gone
    → next_said old.number old.gone (lines_of bytes) ≡ Ends new.number new.gone
unfolding next_said lines_of
ends_by old bytes now rest new p (Nothing b o) e n k =
    goes old bytes now rest p ∙ ap (λ xs. next_said now.number now.gone (lines_of xs)) b ∙ ap (λ m. Ends m now.gone) (sym n) ∙ ap (Ends new.number) (sym k)
ends_by old bytes now rest new p (Whole line l w b k o) e n g = absurd cc
ends_by old bytes now rest new p (Refused line lines f b k o) e n g = absurd cc

known : (o : Option (List ℕ)) (xs : List ℕ) (n before : ℕ) (x : Outcome) → o ≡ Some xs → IfSome (outcomes n before o) (λ y. y ≡ x) → outcome n before xs ≡ x
known None xs n before x e h = absurd cc
known (Some ys) xs n before x e h = ap (outcome n before) (cc) ∙ h

pub ends_it : (old : Reading) (bytes : List ℕ) (now : Reading) (rest : Option (List ℕ)) (new : Reading) → now.gone ≤ 8388608 → (p : Passes old bytes now rest)
    → IfSome (outcomes (now.number + 1) now.gone rest) (λ x. x ≡ End) → new.number ≡ now.number → new.gone ≡ now.gone
    → next_said old.number old.gone (lines_of bytes) ≡ Ends new.number new.gone
ends_it old bytes now rest new h p e n g = ends_by old bytes now rest new p (met (now.number + 1) now.gone p.left h)
    (known rest p.left (now.number + 1) now.gone End p.to_come e) n g

-- a line that has a fault
faulty_by : (old : Reading) (bytes : List ℕ) (now : Reading) (rest : Option (List ℕ)) (x : LineFault) → (p : Passes old bytes now rest)
    → Met (now.number + 1) now.gone p.left
    → outcome (now.number + 1) now.gone p.left ≡ Bad x → (f : ByteFault) × (fault_of (now.number + 1) f ≡ x)
    × (next_said old.number old.gone (lines_of bytes) ≡ Faulty (now.number + 1) f)
faulty_by old bytes now rest x p (Nothing b o) e = absurd cc
faulty_by old bytes now rest x p (Whole line l w b k o) e = absurd cc
faulty_by old bytes now rest x p (Refused line lines f b k o) e =
    (f, cc, goes old bytes now rest p ∙ ap (next_said now.number now.gone) b ∙ fault_first now.number now.gone line lines f k)

pub is_faulty : (old : Reading) (bytes : List ℕ) (now : Reading) (rest : Option (List ℕ)) (x : LineFault) → now.gone ≤ 8388608 → (p : Passes old bytes now rest)
    → IfSome (outcomes (now.number + 1) now.gone rest) (λ y. y ≡ Bad x) → (f : ByteFault) × (fault_of (now.number + 1) f ≡ x)
    × (next_said old.number old.gone (lines_of bytes) ≡ Faulty (now.number + 1) f)
is_faulty old bytes now rest x h p e = faulty_by old bytes now rest x p (met (now.number + 1) now.gone p.left h)
    (known rest p.left (now.number + 1) now.gone (Bad x) p.to_come e)

is_large : (number n : ℕ) (f : ByteFault) → fault_of number f ≡ LineFault.TooLarge n → Faulty number f ≡ Faulty n TooLarge
is_large number n TooLarge e = let same : number ≡ n = cc in ap (λ k. Faulty k TooLarge) same
is_large number n TooLong e = absurd cc
is_large number n (NotAscii k) e = absurd cc

is_long : (number n : ℕ) (f : ByteFault) → fault_of number f ≡ LineFault.TooLong n → Faulty number f ≡ Faulty n TooLong
is_long number n TooLarge e = absurd cc
is_long number n TooLong e = let same : number ≡ n = cc in ap (λ k. Faulty k TooLong) same
is_long number n (NotAscii k) e = absurd cc

is_not_ascii : (number n m : ℕ) (f : ByteFault) → fault_of number f ≡ LineFault.NotAscii n m → Faulty number f ≡ Faulty n (NotAscii m)
is_not_ascii number n m TooLarge e = absurd cc
is_not_ascii number n m TooLong e = absurd cc
is_not_ascii number n m (NotAscii k) e = let same : number ≡ n = cc in let at : k ≡ m = cc in ap (λ j. Faulty j (NotAscii k)) same
    ∙ ap (λ j. Faulty n (NotAscii j)) at

drawn_left : (xs ys : List ℕ) (rest rest' : Option (List ℕ)) → rest ≡ Some xs → rest ≡ prepend_known (ys ++ []) rest'
    → (left : List ℕ) × (rest' ≡ Some left) × (xs ≡ ys ++ left)
drawn_left xs ys rest None e q = absurd cc
drawn_left xs ys rest (Some left) e q = (left, refl, (let same : xs ≡ (ys ++ []) ++ left = cc in same ∙ ap (λ zs. zs ++ left) (append-nil ys)))

pub draws_it : (old : Reading) (bytes : List ℕ) (now : Reading) (rest : Option (List ℕ)) (new : Reading) (rest' : Option (List ℕ))
    → (p : Passes old bytes now rest)
    → Stops {T = Option ℕ} (Err LineFault.ReadFault) now.gone rest new.text new.gone rest' → new.number ≡ now.number → DrawsPart old bytes new rest'
draws_it old bytes now rest new rest' p s n =
    let d : (left : List ℕ) × (rest' ≡ Some left) × (p.left ≡ new.text ++ left) = drawn_left p.left new.text rest rest' p.to_come s.drawn in
    record {
      passed = p.passed;
      left = d.0;
      to_come = d.1;
      whole = p.whole ∙ ap (λ xs. joined p.passed ++ xs) d.2;
      lines = p.lines ∙ ap (λ (xs : List ℕ). p.passed ++ lines_of xs) d.2;
      over = p.over ∙ ap (λ m. Ends m now.gone) (sym n) ∙ ap (Ends new.number) p.gone;
      part = record { printable = s.clean.printable; short = s.clean.short; within = omega (arith, s.clean.within, p.gone) };
      gone = omega (arith, s.counted, p.gone);
    }

-- no byte is given back
stood_within : (x : LineFault) (before : ℕ) (old : Option (List ℕ)) (part : List ℕ) (gone : ℕ) (rest : Option (List ℕ))
    → Stops {T = Option ℕ} (Err x) before old part gone rest → gone ≤ 8388608 → before ≤ 8388608
stood_within LineFault.ReadFault before old part gone rest s h = omega (arith, s.counted, h)
stood_within (LineFault.TooLarge m) before old part gone rest s h = omega (arith, s.counted, h)
stood_within (LineFault.TooLong m) before old part gone rest s h = omega (arith, s.1.counted, h)
stood_within (LineFault.NotAscii m k) before old part gone rest s h = omega (arith, s.1.counted, h)

-- each fault of a line, behind lines that are passed over
fault_within : (old : Reading) (bytes : List ℕ) (now : Reading) (rest : Option (List ℕ)) (new : Reading) (rest' : Option (List ℕ)) (x : LineFault)
    → now.gone ≤ 8388608 → (p : Passes old bytes now rest)
    → Gives (outcomes (now.number + 1) now.gone rest) new rest' (Err x) → Stops {T = Option ℕ} (Err x) now.gone rest new.text new.gone rest'
    → new.number ≡ now.number → Skips old bytes new rest' (Err x)
fault_within old bytes now rest new rest' LineFault.ReadFault h p o s n = draws_it old bytes now rest new rest' p s n
fault_within old bytes now rest new rest' (LineFault.TooLarge m) h p o s n = let f = is_faulty old bytes now rest (LineFault.TooLarge m) h p o in
    f.2 ∙ is_large (now.number + 1) m f.0 f.1
fault_within old bytes now rest new rest' (LineFault.TooLong m) h p o s n = let f = is_faulty old bytes now rest (LineFault.TooLong m) h p o in
    f.2 ∙ is_long (now.number + 1) m f.0 f.1
fault_within old bytes now rest new rest' (LineFault.NotAscii m k) h p o s n = let f = is_faulty old bytes now rest (LineFault.NotAscii m k) h p o in
    f.2 ∙ is_not_ascii (now.number + 1) m k f.0 f.1

pub skips_fault : (old : Reading) (bytes : List ℕ) (now : Reading) (rest : Option (List ℕ)) (new : Reading) (rest' : Option (List ℕ)) (x : LineFault)
    → new.gone ≤ 8388608 → (p : Passes old bytes now rest)
    → Gives (outcomes (now.number + 1) now.gone rest) new rest' (Err x) → Stops {T = Option ℕ} (Err x) now.gone rest new.text new.gone rest'
    → new.number ≡ now.number → Skips old bytes new rest' (Err x)
skips_fault old bytes now rest new rest' x h p o s n =
    fault_within old bytes now rest new rest' x (stood_within x now.gone rest new.text new.gone rest' s h) p o s n
