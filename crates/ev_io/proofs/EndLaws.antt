-- A reader that finds no line left has drawn every byte.
use Rattle.std.proofs.Common.{◌≡◌, ℕ, ◌+◌, Bool, true, false, List, [], ◌∷◌, ◌++◌, length, Option, Some, None, refl, ap, sym, ◌∙◌, length-append, arith}
use Rattle.std.specs.Prelude.{◌==◌, suc}
use Rattle.std.specs.Io.KnownBytes.{prepend_known}
use Rattle.ev_io.specs.Transfer.{Draws}
use Rattle.ev_io.specs.Lines.{Reading, coming, drawn}
use Rattle.ev_io.specs.Tokens.{onto_first, tokens_of, is_passed_over}
use Rattle.ev_io.specs.InputLines.{ByteFault, lines_of, text_of, line_fault, joined, Says, Ends, Faulty, next_said}
use Rattle.ev_io.proofs.NextLaws.{over_first, said_first, fault_first}

all_gone : (n before m gone : ℕ) (lines : List (List ℕ)) → next_said n before lines ≡ Ends m gone → gone ≡ before + length (joined lines)
unfolding next_said
all_gone n before m gone [] e = let b : before ≡ gone = cc in omega (arith, b)
all_gone n before m gone (x ∷ xs) e =
    by (line_fault before x) refl (is_passed_over (tokens_of (text_of x))) refl (all_gone (n + 1) (before + length x) m gone xs)
  where
    by : (f : Option ByteFault) → line_fault before x ≡ f → (p : Bool) → is_passed_over (tokens_of (text_of x)) ≡ p
        → (next_said (n + 1) (before + length x) xs ≡ Ends m gone → gone ≡ before + length x + length (joined xs))
        → gone ≡ before + length (joined (x ∷ xs))
    by (Some f) h p k more = absurd (let z : Faulty (n + 1) f ≡ Ends m gone = sym (fault_first n before x xs f h) ∙ e in cc)
    by None h true k more = omega (arith, more (sym (over_first n before x xs h k) ∙ e), length-append x (joined xs))
    by None h false k more = absurd (let z : Says (n + 1) (before + length x) (text_of x) xs ≡ Ends m gone = sym (said_first n before x xs h k) ∙ e in cc)

onto_grows : (b : ℕ) (ls : List (List ℕ)) → length (joined (onto_first b ls)) ≡ 1 + length (joined ls)
onto_grows b [] = refl
onto_grows b (l ∷ ls) = omega (arith, length-append (b ∷ l) (joined ls), length-append l (joined ls))

lines_keep : (bytes : List ℕ) → length (joined (lines_of bytes)) ≡ length bytes
unfolding lines_of
lines_keep [] = refl
lines_keep (b ∷ bs) = by (b == 10) refl (lines_keep bs)
  where
    by : (feed : Bool) → (b == 10) ≡ feed → length (joined (lines_of bs)) ≡ length bs → length (joined (lines_of (b ∷ bs))) ≡ suc (length bs)
    by true h k =
        let e : length (joined (lines_of (b ∷ bs))) ≡ length ((b ∷ []) ++ joined (lines_of bs)) = rw (lines_of, h) refl in
        omega (arith, e, k)
    by false h k =
        let e : length (joined (lines_of (b ∷ bs))) ≡ length (joined (onto_first b (lines_of bs))) = rw (lines_of, h) refl in
        omega (arith, e, onto_grows b (lines_of bs), k)

left_by : (now new : Reading) (left drawn_now r : List ℕ) → Some (now.chunk ++ (drawn_now ++ r)) ≡ Some left
    → drawn new ≡ drawn now + length drawn_now → new.gone ≡ now.gone + length left → r ≡ []
left_by now new left drawn_now [] e d g = refl
left_by now new left drawn_now (x ∷ r) e d g =
    let same : now.chunk ++ (drawn_now ++ x ∷ r) ≡ left = cc in
    absurd (omega (arith, d, g, ap length same, length-append now.chunk (drawn_now ++ x ∷ r), length-append drawn_now (x ∷ r)))

-- where no line is left of what is to come, nothing is left in the source
pub nothing_left : (now new : Reading) (left : List ℕ) (before after : Option (List ℕ)) → coming now.chunk before ≡ Some left
    → Draws (drawn now) (drawn new) before after → next_said now.number now.gone (lines_of left) ≡ Ends new.number new.gone → after ≡ Some []
nothing_left now new left before None c (e, d, k) s = absurd (let z : coming now.chunk before ≡ None = ap (coming now.chunk) k in cc)
nothing_left now new left before (Some r) c (e, d, k) s =
    ap Some (left_by now new left e r (sym (ap (coming now.chunk) k) ∙ c) d (omega (arith, all_gone _ _ _ _ _ s, lines_keep left)))
