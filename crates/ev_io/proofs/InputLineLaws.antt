-- The first of an input's lines, by what stands at its end.
use Rattle.std.proofs.Common.{◌≡◌, ◌≢◌, ℕ, zero, suc, ◌+◌, ◌-◌, ◌<◌, ◌≤◌, ◌⊎◌, inl, inr, min, Bool, true, false, cond, List, [], ◌∷◌, ◌++◌, length, Some, None, All, refl, ap, sym, subst, ◌∙◌, append-nil, append_assoc, length-append, arith}
use Rattle.std.specs.Prelude.{◌==◌, nat_le}
use Rattle.std.proofs.lemmas.Bool.Decides.{nat_tests}
use Rattle.std.proofs.lemmas.List.Elements.{All-nil, All-cons, All-head, All-tail}
use Rattle.std.specs.List.{prefix_len}
use Rattle.ev_io.specs.Lines.{Line, End, Bad, is_printable, IsPrintable, outcome_at, outcome, IsPart}
use Rattle.ev_io.specs.InputLines.{ByteFault, TooLarge, TooLong, NotAscii, lines_of, text_of, byte_fault, fault_from, line_fault, fault_of}
use Rattle.ev_io.proofs.Outcomes.{EndsBehind, outcome_append, is_large, is_line, is_long, is_not_ascii}

-- ---- bytes as a part of a line and what stands behind it

pub record Cut (room : ℕ) (bytes : List ℕ) : Type 0 where
  pub text : List ℕ
  pub rest : List ℕ
  pub same : bytes ≡ text ++ rest
  pub printable : All IsPrintable text
  pub short : length text ≤ room
  pub ends : (prefix_len is_printable rest ≡ 0) ⊎ (length text ≡ room)

cut : (room : ℕ) (bytes : List ℕ) → Cut room bytes
cut zero bytes = record { text = []; rest = bytes; same = refl; printable = All-nil IsPrintable; short = omega arith; ends = inr refl }
cut (suc r) [] = record { text = []; rest = []; same = refl; printable = All-nil IsPrintable; short = omega arith; ends = inl refl }
cut (suc r) (b ∷ bs) = by (is_printable b) refl (cut r bs)
  where
    by : (e : Bool) → is_printable b ≡ e → Cut r bs → Cut (suc r) (b ∷ bs)
    by true e c = record {
      text = b ∷ c.text;
      rest = c.rest;
      same = ap (λ xs. b ∷ xs) c.same;
      printable = All-cons IsPrintable b c.text e c.printable;
      short = omega (arith, c.short);
      ends = elim c.ends [ inl p ↦ inl p | inr p ↦ inr (ap suc p) ];
    }
    by false e c = record {
      text = [];
      rest = b ∷ bs;
      same = refl;
      printable = All-nil IsPrintable;
      short = omega arith;
      ends =
          inl (ap (λ v. cond v (1 + prefix_len is_printable bs) 0) e);
    }

-- bytes that a line may still have, where so many are gone
part_of : (before : ℕ) (bytes : List ℕ) → before ≤ 8388608 → (c : Cut (min 4096 (8388608 - before)) bytes)
    → IsPart before c.text × EndsBehind before c.text c.rest
part_of before bytes h c = (
  record { printable = c.printable; short = omega (arith, c.short); within = omega (arith, c.short) },
  elim c.ends [ inl p ↦ inl p | inr p ↦ room before (length c.text) h p ],
)
  where
    room : (before n : ℕ) → before ≤ 8388608 → n ≡ min 4096 (8388608 - before) → {P : Type 0} → P ⊎ ((4096 ≤ n) ⊎ (8388608 ≤ before + n))
    room before n h e = inr (one (nat_le 4096 n) refl)
      where
        one : (t : Bool) → nat_le 4096 n ≡ t → (4096 ≤ n) ⊎ (8388608 ≤ before + n)
        one true f = inl (grind (arith, nat_tests))
        one false f = let small : n < 4096 = grind (arith, nat_tests) in inr (omega arith)

-- ---- lines behind a part that has no LF

no_feed : (b : ℕ) → IsPrintable b → b == 10 ≡ false
no_feed b h = grind (arith, nat_tests)

pub feed_behind : (t rest : List ℕ) → All IsPrintable t → lines_of (t ++ 10 ∷ rest) ≡ (t ++ 10 ∷ []) ∷ lines_of rest
unfolding lines_of
feed_behind [] rest h = refl
feed_behind (b ∷ bs) rest h = rw (no_feed b (All-head IsPrintable b bs h), feed_behind bs rest (All-tail IsPrintable b bs h)) refl

pub end_behind : (b : ℕ) (bs : List ℕ) → All IsPrintable (b ∷ bs) → lines_of (b ∷ bs) ≡ (b ∷ bs) ∷ []
unfolding lines_of
end_behind b [] h = rw (no_feed b (All-head IsPrintable b [] h)) refl
end_behind b (c ∷ cs) h = rw (no_feed b (All-head IsPrintable b (c ∷ cs) h), end_behind c cs (All-tail IsPrintable b (c ∷ cs) h)) refl

pub text_feed : (t : List ℕ) → All IsPrintable t → text_of (t ++ 10 ∷ []) ≡ t
unfolding text_of
text_feed [] h = refl
text_feed (b ∷ bs) h = rw (no_feed b (All-head IsPrintable b bs h), text_feed bs (All-tail IsPrintable b bs h)) refl

pub text_end : (t : List ℕ) → All IsPrintable t → text_of t ≡ t
unfolding text_of
text_end [] h = refl
text_end (b ∷ bs) h = rw (no_feed b (All-head IsPrintable b bs h), text_end bs (All-tail IsPrintable b bs h)) refl

-- the first line goes on behind the part with this byte
pub record Begins (t : List ℕ) (b : ℕ) (bytes : List ℕ) : Type 0 where
  pub more : List ℕ
  pub lines : List (List ℕ)
  pub are : lines_of bytes ≡ (t ++ b ∷ more) ∷ lines

begins : (b : ℕ) (rest : List ℕ) → Begins [] b (b ∷ rest)
unfolding lines_of
begins b rest = by (b == 10) refl (lines_of rest) refl
  where
    by : (e : Bool) → b == 10 ≡ e → (ls : List (List ℕ)) → lines_of rest ≡ ls → Begins [] b (b ∷ rest)
    by true h ls k = record { more = []; lines = ls; are = rw (h, k) refl }
    by false h [] k = record { more = []; lines = []; are = rw (h, k) refl }
    by false h (l ∷ ls) k = record { more = l; lines = ls; are = rw (h, k) refl }

pub begins_behind : (t : List ℕ) (b : ℕ) (rest : List ℕ) → All IsPrintable t → Begins t b (t ++ b ∷ rest)
unfolding lines_of
begins_behind [] b rest h = begins b rest
begins_behind (c ∷ cs) b rest h =
    let e : Begins cs b (cs ++ b ∷ rest) = begins_behind cs b rest (All-tail IsPrintable c cs h) in
    record { more = e.more; lines = e.lines; are = rw (no_feed c (All-head IsPrintable c cs h), e.are) refl }

-- ---- faults behind a part that has none

clean_byte : (before k b : ℕ) → before + k < 8388608 → k < 4096 → IsPrintable b → byte_fault before k b ≡ None
unfolding byte_fault
clean_byte before k b h l p = rw (byte_fault, no 8388608 (before + k) h, byte_fault, no_feed b p, byte_fault, no 4096 k l, byte_fault, p) refl
  where
    no : (m n : ℕ) → n < m → nat_le m n ≡ false
    no m n h = grind (arith, nat_tests)

pub fault_behind : (before k : ℕ) (t rest : List ℕ) → All IsPrintable t → k + length t ≤ 4096 → before + (k + length t) ≤ 8388608
    → fault_from before k (t ++ rest) ≡ fault_from before (k + length t) rest
unfolding fault_from
fault_behind before k [] rest h s w = ap (λ n. fault_from before n rest) (zero_more k)
  where
    zero_more : (n : ℕ) → n ≡ n + 0
    zero_more n = omega arith
fault_behind before k (b ∷ bs) rest h s w =
    rw (fault_from, clean_byte before k b (omega (arith, w)) (omega (arith, s)) (All-head IsPrintable b bs h))
    (fault_behind before (k + 1) bs rest (All-tail IsPrintable b bs h) (omega (arith, s)) (omega (arith, w)) ∙ ap (λ n. fault_from before n rest)
    (counted k (length bs)))
  where
    counted : (k n : ℕ) → k + 1 + n ≡ k + suc n
    counted k n = omega arith

-- the fault of a line that goes on behind a part with this byte
at_fault : (before : ℕ) (t : List ℕ) (b : ℕ) (more : List ℕ) (f : ByteFault) → IsPart before t → byte_fault before (length t) b ≡ Some f
    → line_fault before (t ++ b ∷ more) ≡ Some f
unfolding fault_from
at_fault before t b more f h e =
    fault_behind before 0 t (b ∷ more) h.printable (omega (arith, h.short)) (omega (arith, h.within)) ∙ ap (λ n. fault_from before n (b ∷ more))
    (none_more (length t)) ∙ rw (fault_from, e) refl
  where
    none_more : (n : ℕ) → 0 + n ≡ n
    none_more n = omega arith

no_fault_end : (before : ℕ) (t : List ℕ) → IsPart before t → line_fault before t ≡ None
unfolding fault_from
no_fault_end before t h =
    ap (fault_from before 0) (sym (append-nil t)) ∙ fault_behind before 0 t [] h.printable (omega (arith, h.short)) (omega (arith, h.within))

no_fault_feed : (before : ℕ) (t : List ℕ) → IsPart before t → before + length t < 8388608 → line_fault before (t ++ 10 ∷ []) ≡ None
unfolding fault_from byte_fault
no_fault_feed before t h w =
    fault_behind before 0 t (10 ∷ []) h.printable (omega (arith, h.short)) (omega (arith, h.within)) ∙ rw (fault_from, byte_fault, small) refl
  where
    small : nat_le 8388608 (before + (0 + length t)) ≡ false
    small = grind (arith, nat_tests)

-- ---- what comes of bytes, by their lines

-- no line; or a line without a fault and the bytes behind it; or a line with a fault
pub data Met (number before : ℕ) (bytes : List ℕ) : Type 0 where
  Nothing : bytes ≡ [] → outcome number before bytes ≡ End → Met number before bytes
  Whole : (line left : List ℕ) → bytes ≡ line ++ left → lines_of bytes ≡ line ∷ lines_of left → line_fault before line ≡ None
      → outcome number before bytes ≡ Line (text_of line) left (before + length line) → Met number before bytes
  Refused : (line : List ℕ) (lines : List (List ℕ)) (f : ByteFault) → lines_of bytes ≡ line ∷ lines → line_fault before line ≡ Some f
      → outcome number before bytes ≡ Bad (fault_of number f) → Met number before bytes

-- a byte that a part is refused at
refused : (number before : ℕ) (t : List ℕ) (b : ℕ) (rest : List ℕ) (f : ByteFault) → IsPart before t → EndsBehind before t (b ∷ rest)
    → byte_fault before (length t) b ≡ Some f
    → outcome_at number before t (b ∷ rest) ≡ Bad (fault_of number f) → Met number before (t ++ b ∷ rest)
refused number before t b rest f h s e o =
    let begins : Begins t b (t ++ b ∷ rest) = begins_behind t b rest h.printable in
    Refused (t ++ b ∷ begins.more) begins.lines f begins.are (at_fault before t b begins.more f h e) (outcome_append number before t (b ∷ rest) h s ∙ o)

large_byte : (before k b : ℕ) → nat_le 8388608 (before + k) ≡ true → byte_fault before k b ≡ Some TooLarge
unfolding byte_fault
large_byte before k b h = rw (byte_fault, h) refl

long_byte : (before k b : ℕ) → nat_le 8388608 (before + k) ≡ false → b == 10 ≡ false → nat_le 4096 k ≡ true → byte_fault before k b ≡ Some TooLong
unfolding byte_fault
long_byte before k b h i j = rw (byte_fault, h, byte_fault, i, byte_fault, j) refl

strange_byte : (before k b : ℕ) → nat_le 8388608 (before + k) ≡ false → b == 10 ≡ false → nat_le 4096 k ≡ false → is_printable b ≡ false
    → byte_fault before k b ≡ Some (NotAscii k)
unfolding byte_fault
strange_byte before k b h i j p = rw (byte_fault, h, byte_fault, i, byte_fault, j, byte_fault, p) refl

le_true : (m n : ℕ) → nat_le m n ≡ true → m ≤ n
le_true m n h = grind (arith, nat_tests)

le_false : (m n : ℕ) → nat_le m n ≡ false → n < m
le_false m n h = grind (arith, nat_tests)

eq_true : (m n : ℕ) → m == n ≡ true → m ≡ n
eq_true m n h = grind (arith, nat_tests)

eq_false : (m n : ℕ) → m == n ≡ false → m ≢ n
eq_false m n h = grind (arith, nat_tests)

-- a byte behind which no printable byte stands first
strange_first : (b : ℕ) (rest : List ℕ) → prefix_len is_printable (b ∷ rest) ≡ 0 → is_printable b ≡ false
strange_first b rest h = by (is_printable b) refl h
  where
    by : (e : Bool) → is_printable b ≡ e → cond e (1 + prefix_len is_printable rest) 0 ≡ 0 → is_printable b ≡ false
    by true k z = absurd (omega (arith, z))
    by false k z = k

-- a byte at which neither of the two limits is reached
is_strange_at : (before : ℕ) (t : List ℕ) (b : ℕ) (rest : List ℕ) → EndsBehind before t (b ∷ rest) → before + length t < 8388608 → length t < 4096
    → is_printable b ≡ false
is_strange_at before t b rest (inl p) w s = strange_first b rest p
is_strange_at before t b rest (inr (inl p)) w s = absurd (omega (arith, p))
is_strange_at before t b rest (inr (inr p)) w s = absurd (omega (arith, p))

last_met : (number before : ℕ) (t : List ℕ) → IsPart before t → EndsBehind before t [] → Met number before (t ++ [])
unfolding lines_of
last_met number before [] h s = Nothing refl (outcome_append number before [] [] h s)
last_met number before (c ∷ cs) h s = Whole (c ∷ cs) [] refl
    (ap lines_of (append-nil (c ∷ cs)) ∙ end_behind c cs h.printable)
    (no_fault_end before (c ∷ cs) h)
    (outcome_append number before (c ∷ cs) [] h s ∙ ap (λ x. Line x [] (before + length (c ∷ cs))) (sym (text_end (c ∷ cs) h.printable)))

feed_met : (number before : ℕ) (t rest : List ℕ) → IsPart before t → EndsBehind before t (10 ∷ rest) → before + length t < 8388608
    → Met number before (t ++ 10 ∷ rest)
feed_met number before t rest h s w = Whole (t ++ 10 ∷ []) rest (sym (append_assoc t (10 ∷ []) rest))
    (feed_behind t rest h.printable)
    (no_fault_feed before t h w)
    (outcome_append number before t (10 ∷ rest) h s ∙ is_line number before t rest w
    ∙ ap (λ x. Line x rest (before + length t + 1)) (sym (text_feed t h.printable)) ∙ ap (Line (text_of (t ++ 10 ∷ [])) rest) counted)
  where
    counted : before + length t + 1 ≡ before + length (t ++ 10 ∷ [])
    counted = omega (arith, length-append t (10 ∷ []))

byte_met : (number before : ℕ) (t : List ℕ) (b : ℕ) (rest : List ℕ) → IsPart before t → EndsBehind before t (b ∷ rest)
    → (e : Bool) → nat_le 8388608 (before + length t) ≡ e → (u : Bool) → b == 10 ≡ u → (v : Bool) → nat_le 4096 (length t) ≡ v
    → Met number before (t ++ b ∷ rest)
byte_met number before t b rest h s true p u q v r =
    refused number before t b rest TooLarge h s (large_byte before (length t) b p) (is_large number before t b rest (le_true _ _ p))
byte_met number before t b rest h s false p true q v r =
    let feed : b ≡ 10 = eq_true b 10 q in
    subst (λ (c : ℕ). Met number before (t ++ c ∷ rest)) (sym feed)
    (feed_met number before t rest h (subst (λ (c : ℕ). EndsBehind before t (c ∷ rest)) feed s) (le_false _ _ p))
byte_met number before t b rest h s false p false q true r =
    refused number before t b rest TooLong h s (long_byte before (length t) b p q r)
    (is_long number before t b rest (le_false _ _ p) (eq_false b 10 q) (le_true _ _ r))
byte_met number before t b rest h s false p false q false r =
    refused number before t b rest (NotAscii (length t)) h s
    (strange_byte before (length t) b p q r (is_strange_at before t b rest s (le_false _ _ p) (le_false _ _ r)))
    (is_not_ascii number before t b rest (le_false _ _ p) (eq_false b 10 q) (le_false _ _ r))

pub met : (number before : ℕ) (bytes : List ℕ) → before ≤ 8388608 → Met number before bytes
met number before bytes h = subst (Met number before) (sym c.same) (by c.text c.rest both.0 both.1)
  where
    c : Cut (min 4096 (8388608 - before)) bytes
    c = cut (min 4096 (8388608 - before)) bytes

    both : IsPart before c.text × EndsBehind before c.text c.rest
    both = part_of before bytes h c

    by : (t rest : List ℕ) → IsPart before t → EndsBehind before t rest → Met number before (t ++ rest)
    by t [] p s = last_met number before t p s
    by t (b ∷ rest) p s = byte_met number before t b rest p s _ refl _ refl _ refl
