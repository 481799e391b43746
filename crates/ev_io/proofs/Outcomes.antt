-- What comes of the bytes of a line.
use Rattle.std.proofs.Common.{◌≡◌, ◌≢◌, ℕ, ◌+◌, ◌<◌, ◌≤◌, ◌⊎◌, inl, inr, false, cond, List, [], ◌∷◌, ◌++◌, length, take, drop, Option, Some, None, IfSome, All, refl, ap, sym, ◌∙◌, append-nil, rules, tests, arith}
use Rattle.std.proofs.Math.Seq.{take-append_seam, drop-append_seam}
use Rattle.std.proofs.lemmas.Bool.Decides.{nat_tests}
use Rattle.std.proofs.lemmas.List.Elements.{All-head, All-tail}
use Rattle.std.specs.List.{prefix_len}
use Rattle.std.specs.Option.{option_map}
use Rattle.std.specs.Io.KnownBytes.{prepend_known, IsAtEnd}
use Rattle.ev_io.specs.declared.lines.LineFault.TheVariants.{TooLong, TooLarge, NotAscii}
use Rattle.ev_io.specs.Lines.{Outcome, Line, End, Bad, is_printable, IsPrintable, stop_of, last_line, outcome_at, outcome, outcomes, TakesLine, IsPart, StopsBehind}
use Rattle.ev_io.proofs.Bytes.{prepend_prepend}

pub is_strange : (b : ℕ) → (b < 32) ⊎ (126 < b) → is_printable b ≡ false
is_strange b (inl h) = grind (arith, nat_tests)
is_strange b (inr h) = grind (arith, nat_tests)

pub is_fine : (b : ℕ) → 32 ≤ b → b ≤ 126 → IsPrintable b
is_fine b h k = grind (arith, nat_tests)

prefix_append : (t rest : List ℕ) → All IsPrintable t → prefix_len is_printable (t ++ rest) ≡ length t + prefix_len is_printable rest
prefix_append [] rest h = omega arith
prefix_append (x ∷ xs) rest h =
    let more = prefix_append xs rest (All-tail IsPrintable x xs h) in
    let here : cond (is_printable x) (1 + prefix_len is_printable (xs ++ rest)) 0 ≡ 1 + prefix_len is_printable (xs ++ rest) =
    ap (λ v. cond v (1 + prefix_len is_printable (xs ++ rest)) 0) (All-head IsPrintable x xs h) in
    here ∙ omega (arith, more)

-- a line ends or is refused behind a text
abbrev pub EndsBehind : ℕ → List ℕ → List ℕ → Type 0
EndsBehind gone t rest = (prefix_len is_printable rest ≡ 0) ⊎ ((4096 ≤ length t) ⊎ (8388608 ≤ gone + length t))

stop_append : (gone : ℕ) (t rest : List ℕ) → IsPart gone t → EndsBehind gone t rest → stop_of gone (t ++ rest) ≡ length t
stop_append gone t rest h (inl p) = omega (arith, prefix_append t rest h.printable, h.short, h.within, p)
stop_append gone t rest h (inr (inl p)) = omega (arith, prefix_append t rest h.printable, h.short, h.within, p)
stop_append gone t rest h (inr (inr p)) = omega (arith, prefix_append t rest h.printable, h.short, h.within, p)

pub outcome_append : (n gone : ℕ) (t rest : List ℕ) → IsPart gone t → EndsBehind gone t rest → outcome n gone (t ++ rest) ≡ outcome_at n gone t rest
unfolding outcome
outcome_append n gone t rest h s =
    ap (λ k. outcome_at n gone (take k (t ++ rest)) (drop k (t ++ rest))) (stop_append gone t rest h s)
    ∙ ap (λ x. outcome_at n gone x (drop (length t) (t ++ rest))) (take-append_seam t rest)
    ∙ ap (outcome_at n gone t) (drop-append_seam t rest)

-- a line stops at a byte behind a text
abbrev StopsAt : ℕ → List ℕ → ℕ → Type 0
StopsAt gone t b = (is_printable b ≡ false) ⊎ ((4096 ≤ length t) ⊎ (8388608 ≤ gone + length t))

stops_at : (gone : ℕ) (t : List ℕ) (b : ℕ) (rest : List ℕ) → StopsAt gone t b → EndsBehind gone t (b ∷ rest)
stops_at gone t b rest (inl p) = inl (ap (λ v. cond v (1 + prefix_len is_printable rest) 0) p)
stops_at gone t b rest (inr p) = inr p

at_byte : (n gone : ℕ) (t : List ℕ) (b : ℕ) (o : Option (List ℕ)) → IsPart gone t → StopsAt gone t b
    → outcomes n gone (prepend_known t (prepend_known (b ∷ []) o)) ≡ option_map (λ ys. outcome_at n gone t (b ∷ ys)) o
at_byte n gone t b None h s = refl
at_byte n gone t b (Some ys) h s = ap Some (outcome_append n gone t (b ∷ ys) h (stops_at gone t b ys s))

pub is_large : (n gone : ℕ) (t : List ℕ) (b : ℕ) (ys : List ℕ) → 8388608 ≤ gone + length t → outcome_at n gone t (b ∷ ys) ≡ Bad (TooLarge n)
is_large n gone t b ys h = search (rules, tests)

pub is_line : (n gone : ℕ) (t ys : List ℕ) → gone + length t < 8388608 → outcome_at n gone t (10 ∷ ys) ≡ Line t ys (gone + length t + 1)
is_line n gone t ys h = search (rules, tests)

pub is_long : (n gone : ℕ) (t : List ℕ) (b : ℕ) (ys : List ℕ) → gone + length t < 8388608 → b ≢ 10 → 4096 ≤ length t
    → outcome_at n gone t (b ∷ ys) ≡ Bad (TooLong n)
is_long n gone t b ys h d l = search (rules, tests)

pub is_not_ascii : (n gone : ℕ) (t : List ℕ) (b : ℕ) (ys : List ℕ) → gone + length t < 8388608 → b ≢ 10 → length t < 4096
    → outcome_at n gone t (b ∷ ys) ≡ Bad (NotAscii n (length t))
is_not_ascii n gone t b ys h d l = search (rules, tests)

each : (f g : List ℕ → Outcome) → ((ys : List ℕ) → f ys ≡ g ys) → (o : Option (List ℕ)) → option_map f o ≡ option_map g o
each f g h None = refl
each f g h (Some ys) = ap Some (h ys)

one : (f : List ℕ → Outcome) (x : Outcome) → ((ys : List ℕ) → f ys ≡ x) → (o : Option (List ℕ)) (s : Option Outcome) → s ≡ option_map f o
    → IfSome s (λ y. y ≡ x)
one f x h o None e = tt
one f x h None (Some s) e = cc
one f x h (Some ys) (Some s) e = let same = h ys in cc

-- each exit of a line, where all that was to come is a text and a byte and what is to come

pub at_large : (n gone k : ℕ) (t chunk : List ℕ) (all o : Option (List ℕ)) → IsPart gone t → k ≡ gone + length t → 8388608 ≤ k → 0 < length chunk
    → all ≡ prepend_known t (prepend_known chunk o) → IfSome (outcomes n gone all) (λ x. x ≡ Bad (TooLarge n))
at_large n gone k t [] all o h e l p q = absurd (omega (arith, p))
at_large n gone k t (b ∷ bs) all o h e l p q =
    let large : 8388608 ≤ gone + length t = omega arith in
    let first : prepend_known (b ∷ bs) o ≡ prepend_known (b ∷ []) (prepend_known bs o) =
    elim o as (λ v. prepend_known (b ∷ bs) v ≡ prepend_known (b ∷ []) (prepend_known bs v)) [ None ↦ refl | Some ys ↦ refl ] in
    one _ (Bad (TooLarge n)) (λ ys. is_large n gone t b ys large) (prepend_known bs o) _
    (ap (outcomes n gone) (q ∙ ap (prepend_known t) first) ∙ at_byte n gone t b (prepend_known bs o) h (inr (inr large)))

pub at_line : (n gone k b : ℕ) (t : List ℕ) (all o : Option (List ℕ)) → IsPart gone t → k ≡ gone + length t → k < 8388608 → b ≡ 10
    → all ≡ prepend_known t (prepend_known (b ∷ []) o) → outcomes n gone all ≡ option_map (λ ys. Line t ys (k + 1)) o
at_line n gone k b t all o h e l f q =
    let small : gone + length t < 8388608 = omega arith in
    let strange : is_printable b ≡ false = is_strange b (inl (omega (arith, f))) in
    ap (outcomes n gone) q ∙ at_byte n gone t b o h (inl strange)
    ∙ each _ _ (λ ys. ap (λ x. outcome_at n gone t (x ∷ ys)) f ∙ is_line n gone t ys small ∙ ap (λ x. Line t ys (x + 1)) (sym e)) o

pub at_long : (n gone k b : ℕ) (t : List ℕ) (all o : Option (List ℕ)) → IsPart gone t → k ≡ gone + length t → k < 8388608 → b ≢ 10 → 4096 ≤ length t
    → all ≡ prepend_known t (prepend_known (b ∷ []) o) → IfSome (outcomes n gone all) (λ x. x ≡ Bad (TooLong n))
at_long n gone k b t all o h e l d m q =
    let small : gone + length t < 8388608 = omega arith in
    one _ (Bad (TooLong n)) (λ ys. is_long n gone t b ys small d m) o _ (ap (outcomes n gone) q ∙ at_byte n gone t b o h (inr (inl m)))

pub at_not_ascii : (n gone k b m : ℕ) (t : List ℕ) (all o : Option (List ℕ)) → IsPart gone t → k ≡ gone + length t → k < 8388608 → b ≢ 10 → length t < 4096
    → (b < 32) ⊎ (126 < b) → m ≡ length t → all ≡ prepend_known t (prepend_known (b ∷ []) o) → IfSome (outcomes n gone all) (λ x. x ≡ Bad (NotAscii n m))
at_not_ascii n gone k b m t all o h e l d s p i q =
    let small : gone + length t < 8388608 = omega arith in
    one _ (Bad (NotAscii n m)) (λ ys. is_not_ascii n gone t b ys small d s ∙ ap (λ x. Bad (NotAscii n x)) (sym i)) o _
    (ap (outcomes n gone) q ∙ at_byte n gone t b o h (inl (is_strange b p)))

at_last_byte : (n gone : ℕ) (t : List ℕ) (all o : Option (List ℕ)) → IsPart gone t → IsAtEnd o → all ≡ prepend_known t o
    → outcomes n gone all ≡ option_map (λ ys. last_line gone t) o
at_last_byte n gone t all None h e q = ap (outcomes n gone) q
at_last_byte n gone t all (Some ys) h e q =
    ap (outcomes n gone) (q ∙ ap (λ x. Some (t ++ x)) e) ∙ ap Some (outcome_append n gone t [] h (inl refl))

pub at_end : (n gone : ℕ) (t : List ℕ) (all o : Option (List ℕ)) → IsPart gone t → IsAtEnd o → length t ≡ 0 → all ≡ prepend_known t o
    → IfSome (outcomes n gone all) (λ x. x ≡ End)
at_end n gone [] all o h e l q = one _ End (λ ys. refl) o _ (at_last_byte n gone [] all o h e q)
at_end n gone (c ∷ cs) all o h e l q = absurd (omega (arith, l))

pub at_last : (n gone k : ℕ) (t : List ℕ) (all o : Option (List ℕ)) → IsPart gone t → k ≡ gone + length t → IsAtEnd o → length t ≢ 0 → all ≡ prepend_known t o
    → outcomes n gone all ≡ option_map (λ ys. Line t ys k) o
at_last n gone k [] all o h m e l q = absurd (l refl)
at_last n gone k (c ∷ cs) all None h m e l q = at_last_byte n gone (c ∷ cs) all None h e q
at_last n gone k (c ∷ cs) all (Some ys) h m e l q =
    at_last_byte n gone (c ∷ cs) all (Some ys) h e q ∙ ap Some (ap (Line (c ∷ cs) []) (sym m) ∙ ap (λ x. Line (c ∷ cs) x k) (sym e))

-- a text before a line feed, or before the end, is the first line

pub takes_line : (gone b : ℕ) (t : List ℕ) (all o : Option (List ℕ)) → IsPart gone t → b ≡ 10 → all ≡ prepend_known t (prepend_known (b ∷ []) o)
    → TakesLine t all o
takes_line gone b t all None h f q bytes e = cc
takes_line gone b t all (Some ys) h f q bytes e =
    let same : bytes ≡ t ++ b ∷ ys = cc in
    (ys, refl, record { printable = h.printable; short = h.short; whole = inl (same ∙ ap (λ x. t ++ x ∷ ys) f) })

pub takes_last : (gone : ℕ) (t : List ℕ) (all o : Option (List ℕ)) → IsPart gone t → length t ≢ 0 → IsAtEnd o → all ≡ prepend_known t o → TakesLine t all o
takes_last gone t all None h l n q bytes e = cc
takes_last gone t all (Some ys) h l n q bytes e =
    let same : bytes ≡ t ++ ys = cc in
    (ys, refl, record { printable = h.printable; short = h.short; whole = inr (same ∙ ap (λ x. t ++ x) n ∙ append-nil t, n, omega (arith, l)) })

pub takes_none : (t : List ℕ) (all o : Option (List ℕ)) → length t ≡ 0 → IsAtEnd o → all ≡ prepend_known t o → IsAtEnd all
takes_none t None o l e q = tt
takes_none t (Some xs) None l e q = cc
takes_none [] (Some xs) (Some ys) l e q = let same : xs ≡ ys = cc in same ∙ e
takes_none (c ∷ cs) (Some xs) (Some ys) l e q = absurd (omega (arith, l))

pub text_is : (gone k : ℕ) (t : List ℕ) → All IsPrintable t → length t ≤ 4096 → k ≡ gone + length t → k ≤ 8388608 → IsPart gone t
text_is gone k t p s e w = record { printable = p; short = s; within = omega arith }

pub end_here : (chunk : List ℕ) (o : Option (List ℕ)) → (chunk ≡ []) × IsAtEnd o → IsAtEnd (prepend_known chunk o)
end_here chunk None e = tt
end_here chunk (Some ys) e = ap (λ x. x ++ ys) e.0 ∙ e.1

-- what is gone at a fault

pub stops_here : (gone k : ℕ) (t : List ℕ) (all o : Option (List ℕ)) → IsPart gone t → k ≡ gone + length t → all ≡ prepend_known t o
    → StopsBehind [] gone all t k o
stops_here gone k t all o h e q = record { clean = h; drawn = q ∙ ap (λ x. prepend_known x o) (sym (append-nil t)); counted = omega arith }

pub stops_behind : (gone k b : ℕ) (t : List ℕ) (all o : Option (List ℕ)) → IsPart gone t → k ≡ gone + length t
    → all ≡ prepend_known t (prepend_known (b ∷ []) o)
    → (c : ℕ) × StopsBehind (c ∷ []) gone all t (k + 1) o
stops_behind gone k b t all o h e q = (b, record { clean = h; drawn = q ∙ prepend_prepend t (b ∷ []) o; counted = omega arith })
