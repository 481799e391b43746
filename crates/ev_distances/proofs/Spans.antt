-- Intervals of the address map lie apart, for every processor: by numbers, once.
use Rattle.std.proofs.Common.{◌≡◌, ◌≢◌, ℕ, ◌+◌, ◌-◌, ◌%◌, ◌<◌, ◌≤◌, Bool, true, false, List, [], ◌∷◌, refl, sym, ap, ◌∙◌, subst, arith, ◌⊎◌, inl, inr, ⊎_elim}
use Rattle.std.specs.Prelude.{◌||◌, nat_le, if◌then◌else◌}
use Rattle.std.proofs.lemmas.Bool.{leb-true, leb-false}
use Rattle.std.proofs.lemmas.Bool.Decides.{eqb_tells}
use Rattle.std.proofs.Math.Numerals.{lt_of_le_of_ne}
use Rattle.ev_symbolic.specs.Value.{M}
use Rattle.ev_symbolic.specs.State.{Loc, Win, in_win}
use Rattle.ev_symbolic.specs.Agrees.{Env, addr, Far}
use Rattle.ev_distances.specs.Span.{Part, Areas, Tables, Tasks, Stacks, Codes, Span, processors, numbers, bytes, origin, start, IsSpan, InSpan, part_eq, Differ, OtherProcessor, OtherNumber, Before, Behind, plainly_apart, DifferUnless, Apart, ApartFrom, AllApart, Located, AllLocated}
use Rattle.ev_distances.proofs.Places.{In, InWord, cases, spot}

-- ---- the bounds of parts

abbrev low : Part → ℕ
low Areas = 0xffff888000000000
low Tables = 0xffff888000800000
low Tasks = 0xffff888000840000
low Stacks = 0xffffc90000000000
low Codes = 0xffffffff81000000

abbrev high : Part → ℕ
high Areas = 0xffff888000200000
high Tables = 0xffff888000840000
high Tasks = 0xffff888000842000
high Stacks = 0xffffc90002000000
high Codes = 0x10000000000000000

low_ok : (f : Part) (p n lo : ℕ) → low f ≤ origin f p n + lo
low_ok Areas p n lo = omega arith
low_ok Tables p n lo = omega arith
low_ok Tasks p n lo = omega arith
low_ok Stacks p n lo = omega arith
low_ok Codes p n lo = omega arith

high_ok : (f : Part) (p n lo len : ℕ) → p < processors f → n < numbers f → lo + len ≤ bytes f → (origin f p n + lo) + len ≤ high f
high_ok Areas p n lo len hp hn hb = omega arith
high_ok Tables p n lo len hp hn hb = omega arith
high_ok Tasks p n lo len hp hn hb = omega arith
high_ok Stacks p n lo len hp hn hb = omega arith
high_ok Codes p n lo len hp hn hb = omega arith

parts_apart : (f g : Part) → part_eq f g ≡ false → (high f ≤ low g) ⊎ (high g ≤ low f)
parts_apart Areas Areas h = absurd (cc)
parts_apart Areas Tables h = inl (omega arith)
parts_apart Areas Tasks h = inl (omega arith)
parts_apart Areas Stacks h = inl (omega arith)
parts_apart Areas Codes h = inl (omega arith)
parts_apart Tables Areas h = inr (omega arith)
parts_apart Tables Tables h = absurd (cc)
parts_apart Tables Tasks h = inl (omega arith)
parts_apart Tables Stacks h = inl (omega arith)
parts_apart Tables Codes h = inl (omega arith)
parts_apart Tasks Areas h = inr (omega arith)
parts_apart Tasks Tables h = inr (omega arith)
parts_apart Tasks Tasks h = absurd (cc)
parts_apart Tasks Stacks h = inl (omega arith)
parts_apart Tasks Codes h = inl (omega arith)
parts_apart Stacks Areas h = inr (omega arith)
parts_apart Stacks Tables h = inr (omega arith)
parts_apart Stacks Tasks h = inr (omega arith)
parts_apart Stacks Stacks h = absurd (cc)
parts_apart Stacks Codes h = inl (omega arith)
parts_apart Codes Areas h = inr (omega arith)
parts_apart Codes Tables h = inr (omega arith)
parts_apart Codes Tasks h = inr (omega arith)
parts_apart Codes Stacks h = inr (omega arith)
parts_apart Codes Codes h = absurd (cc)

part_same : (f g : Part) → part_eq f g ≡ true → f ≡ g
part_same Areas Areas h = refl
part_same Tables Tables h = refl
part_same Tasks Tasks h = refl
part_same Stacks Stacks h = refl
part_same Codes Codes h = refl
part_same _ _ h = absurd (cc)

-- ---- within one part

either_way : (a b : ℕ) → a ≢ b → (a < b) ⊎ (b < a)
either_way a b h = pick (nat_le a b) refl
  where
    pick : (t : Bool) → nat_le a b ≡ t → (a < b) ⊎ (b < a)
    pick true q = inl (lt_of_le_of_ne (leb-true a b q) h)
    pick false q = inr (leb-false a b q)

-- another processor's lies a whole stride away, since what is one processor's fits into a stride
by_processor : (f : Part) (p q n m lo lo' len len' : ℕ) → p < q → q < processors f → n < numbers f → m < numbers f → lo + len ≤ bytes f
    → lo' + len' ≤ bytes f → (origin f p n + lo) + len ≤ origin f q m + lo'
by_processor Areas p q n m lo lo' len len' h hq hn hm hb hc = omega arith
by_processor Tables p q n m lo lo' len len' h hq hn hm hb hc = absurd (omega arith)
by_processor Tasks p q n m lo lo' len len' h hq hn hm hb hc = omega arith
by_processor Stacks p q n m lo lo' len len' h hq hn hm hb hc = omega arith
by_processor Codes p q n m lo lo' len len' h hq hn hm hb hc = absurd (omega arith)

by_number : (f : Part) (p n m lo lo' len len' : ℕ) → n < m → m < numbers f → lo + len ≤ bytes f → (origin f p n + lo) + len ≤ origin f p m + lo'
by_number Areas p n m lo lo' len len' h hm hb = absurd (omega arith)
by_number Tables p n m lo lo' len len' h hm hb = absurd (omega arith)
by_number Tasks p n m lo lo' len len' h hm hb = omega arith
by_number Stacks p n m lo lo' len len' h hm hb = omega arith
by_number Codes p n m lo lo' len len' h hm hb = absurd (omega arith)

-- one before the other
abbrev Ordered : (a len b len' : ℕ) → Type 0
Ordered a len b len' = (a + len ≤ b) ⊎ (b + len' ≤ a)

after_lo : (o lo len lo' : ℕ) → lo + len ≤ lo' → (o + lo) + len ≤ o + lo'
after_lo o lo len lo' h = omega arith

swap : (a len b len' : ℕ) → Ordered a len b len' → Ordered b len' a len
swap a len b len' h = ⊎_elim (λ x. inr x) (λ x. inl x) h

processors_apart : (f : Part) (s t : Span) → s.part ≡ f → t.part ≡ f → IsSpan s → IsSpan t → s.p ≢ t.p → Ordered (start s) s.len (start t) t.len
processors_apart f s t hs ht i j ne =
    let a : s.p < processors f = subst (λ g. s.p < processors g) hs i.processor in
    let b : t.p < processors f = subst (λ g. t.p < processors g) ht j.processor in
    let c : s.n < numbers f = subst (λ g. s.n < numbers g) hs i.number in
    let d : t.n < numbers f = subst (λ g. t.n < numbers g) ht j.number in
    let x : s.lo + s.len ≤ bytes f = subst (λ g. s.lo + s.len ≤ bytes g) hs i.fits in
    let y : t.lo + t.len ≤ bytes f = subst (λ g. t.lo + t.len ≤ bytes g) ht j.fits in
    let r : Ordered (origin f s.p s.n + s.lo) s.len (origin f t.p t.n + t.lo) t.len =
    ⊎_elim (λ lt. inl (by_processor f s.p t.p s.n t.n s.lo t.lo s.len t.len lt b c d x y))
    (λ lt. inr (by_processor f t.p s.p t.n s.n t.lo s.lo t.len s.len lt a d c y x)) (either_way s.p t.p ne) in
    subst (λ g. Ordered (origin g s.p s.n + s.lo) s.len (start t) t.len) (sym hs)
    (subst (λ g. Ordered (origin f s.p s.n + s.lo) s.len (origin g t.p t.n + t.lo) t.len) (sym ht) r)

numbers_apart : (f : Part) (s t : Span) → s.part ≡ f → t.part ≡ f → s.p ≡ t.p → IsSpan s → IsSpan t → s.n ≢ t.n → Ordered (start s) s.len (start t) t.len
numbers_apart f s t hs ht hp i j ne =
    let c : s.n < numbers f = subst (λ g. s.n < numbers g) hs i.number in
    let d : t.n < numbers f = subst (λ g. t.n < numbers g) ht j.number in
    let x : s.lo + s.len ≤ bytes f = subst (λ g. s.lo + s.len ≤ bytes g) hs i.fits in
    let y : t.lo + t.len ≤ bytes f = subst (λ g. t.lo + t.len ≤ bytes g) ht j.fits in
    let r : Ordered (origin f s.p s.n + s.lo) s.len (origin f s.p t.n + t.lo) t.len =
    ⊎_elim (λ lt. inl (by_number f s.p s.n t.n s.lo t.lo s.len t.len lt d x)) (λ lt. inr (by_number f s.p t.n s.n t.lo s.lo t.len s.len lt c y))
    (either_way s.n t.n ne) in
    subst (λ g. Ordered (origin g s.p s.n + s.lo) s.len (start t) t.len) (sym hs)
    (subst (λ g. Ordered (origin f s.p s.n + s.lo) s.len (origin g t.p t.n + t.lo) t.len) (sym ht)
    (subst (λ q. Ordered (origin f s.p s.n + s.lo) s.len (origin f q t.n + t.lo) t.len) hp r))

-- where processors and numbers are the same, the offsets decide
offsets_apart : (s t : Span) → s.part ≡ t.part → s.p ≡ t.p → s.n ≡ t.n → Ordered s.lo s.len t.lo t.len → Ordered (start s) s.len (start t) t.len
offsets_apart s t hf hp hn h =
    let r : Ordered (start s) s.len (start s - s.lo + t.lo) t.len = ⊎_elim (λ x. inl (omega arith)) (λ x. inr (omega arith)) h in
    let same : start s - s.lo ≡ origin t.part t.p t.n = less (origin s.part s.p s.n) s.lo ∙ ap (λ f. origin f s.p s.n) hf ∙ ap (λ p. origin t.part p s.n) hp
    ∙ ap (λ n. origin t.part t.p n) hn in
    subst (λ o. Ordered (start s) s.len (o + t.lo) t.len) same r
  where
    less : (o lo : ℕ) → o + lo - lo ≡ o
    less o lo = omega arith

ordered : (s t : Span) → s.part ≡ t.part → IsSpan s → IsSpan t → (s.n ≡ t.n → s.p ≡ t.p → Ordered s.lo s.len t.lo t.len)
    → Ordered (start s) s.len (start t) t.len
ordered s t hf i j h =
    ⊎_elim (λ p. ⊎_elim (λ n. offsets_apart s t hf p.1 n.1 (h n.1 p.1)) (λ n. numbers_apart t.part s t hf refl p.1 i j n.1) (eqb_tells s.n t.n))
    (λ p. processors_apart t.part s t hf refl i j p.1) (eqb_tells s.p t.p)

by_reason : (s t : Span) → s.part ≡ t.part → IsSpan s → IsSpan t → Differ s t → Ordered (start s) s.len (start t) t.len
by_reason s t hf i j (OtherProcessor ne) = ordered s t hf i j (λ n p. absurd (ne p))
by_reason s t hf i j (OtherNumber ne) = ordered s t hf i j (λ n p. absurd (ne n))
by_reason s t hf i j (Before h) = ordered s t hf i j (λ n p. inl h)
by_reason s t hf i j (Behind h) = ordered s t hf i j (λ n p. inr h)

-- ---- any two intervals

or_true : (a b : Bool) → (a || b) ≡ true → (a ≡ true) ⊎ (b ≡ true)
or_true true b h = inl refl
or_true false b h = inr h

parts_ordered : (s t : Span) → IsSpan s → IsSpan t → part_eq s.part t.part ≡ false → Ordered (start s) s.len (start t) t.len
parts_ordered s t i j h =
    let a = low_ok s.part s.p s.n s.lo in
    let b = low_ok t.part t.p t.n t.lo in
    let c = high_ok s.part s.p s.n s.lo s.len i.processor i.number i.fits in
    let d = high_ok t.part t.p t.n t.lo t.len j.processor j.number j.fits in
    ⊎_elim (λ x. inl (below_all (start s) s.len (start t) (high s.part) (low t.part) c x b))
    (λ x. inr (below_all (start t) t.len (start s) (high t.part) (low s.part) d x a)) (parts_apart s.part t.part h)
  where
    below_all : (x len y hi lo : ℕ) → x + len ≤ hi → hi ≤ lo → lo ≤ y → x + len ≤ y
    below_all x len y hi lo h k l = omega arith

pub apart_ok : (s t : Span) → IsSpan s → IsSpan t → Apart s t → Ordered (start s) s.len (start t) t.len
apart_ok s t i j h = pick (part_eq s.part t.part) refl h
  where
    in_part : s.part ≡ t.part → (b : Bool) → (nat_le (s.lo + s.len) t.lo || nat_le (t.lo + t.len) s.lo) ≡ b → DifferUnless b s t
        → Ordered (start s) s.len (start t) t.len
    in_part hf true q d = ⊎_elim (λ x. by_reason s t hf i j (Before (leb-true _ _ x))) (λ x. by_reason s t hf i j (Behind (leb-true _ _ x))) (or_true _ _ q)
    in_part hf false q d = by_reason s t hf i j d

    pick : (b : Bool) → part_eq s.part t.part ≡ b → DifferUnless (if b then (nat_le (s.lo + s.len) t.lo || nat_le (t.lo + t.len) s.lo) else true) s t
        → Ordered (start s) s.len (start t) t.len
    pick true q d = in_part (part_same s.part t.part q) (nat_le (s.lo + s.len) t.lo || nat_le (t.lo + t.len) s.lo) refl d
    pick false q d = parts_ordered s t i j q

-- a reason serves whether or not the test computes
pub differ : (s t : Span) → Differ s t → Apart s t
differ s t d = pick (plainly_apart s t)
  where
    pick : (b : Bool) → DifferUnless b s t
    pick true = tt
    pick false = d

-- ---- windows

above_low : (f : Part) → 0xffff800000000000 ≤ low f
above_low Areas = omega arith
above_low Tables = omega arith
above_low Tasks = omega arith
above_low Stacks = omega arith
above_low Codes = omega arith

below_end : (f : Part) → high f ≤ M
below_end Areas = omega arith
below_end Tables = omega arith
below_end Tasks = omega arith
below_end Stacks = omega arith
below_end Codes = omega arith

fits_M : (s : Span) → IsSpan s → start s + s.len ≤ M
fits_M s i = le_both (start s + s.len) (high s.part) M (high_ok s.part s.p s.n s.lo s.len i.processor i.number i.fits) (below_end s.part)
  where
    le_both : (a b c : ℕ) → a ≤ b → b ≤ c → a ≤ c
    le_both a b c h k = omega arith

-- the address of a place in a located window
pub address : (e : Env) (w : Win) (s : Span) (l : Loc) → Located e w s → In w l → addr e l ≡ start s + (l.off + (M - w.lo)) % M
address e w s l g h = ap (λ t. (e.base t + l.off) % M) h.tag ∙ spot (e.base w.tag) l.off w.lo w.len (start s) h.small g.small g.starts
    (shorter (start s) w.len s.len g.len (fits_M s g.is)) h.near
  where
    shorter : (x a b : ℕ) → a ≤ b → x + b ≤ M → x + a ≤ M
    shorter x a b h k = omega arith

pub located_in : (e : Env) (w : Win) (s : Span) (l : Loc) → Located e w s → In w l → InSpan s (addr e l)
located_in e w s l g h = subst (InSpan s) (sym (address e w s l g h)) (record { from = from (start s) _; to = to (start s) _ w.len s.len h.near g.len })
  where
    from : (x d : ℕ) → x ≤ x + d
    from x d = omega arith

    to : (x d a b : ℕ) → d < a → a ≤ b → x + d < x + b
    to x d a b h k = omega arith

-- the addresses of an interval are canonical ones of the upper half
pub from_low : (s : Span) (a : ℕ) → InSpan s a → 0xffff800000000000 ≤ a
from_low s a h = through 0xffff800000000000 (low s.part) (start s) a (above_low s.part) (low_ok s.part s.p s.n s.lo) h.from
  where
    through : (x y z w : ℕ) → x ≤ y → y ≤ z → z ≤ w → x ≤ w
    through x y z w h k l = omega arith

pub to_end : (s : Span) (a : ℕ) → IsSpan s → InSpan s a → a < M
to_end s a i h = through a (start s + s.len) M h.to (fits_M s i)
  where
    through : (x y z : ℕ) → x < y → y ≤ z → x < z
    through x y z h k = omega arith

pub never_both : (s t : Span) (x y : ℕ) → Ordered (start s) s.len (start t) t.len → InSpan s x → InSpan t y → x ≡ y → ⊥
never_both s t x y o i j q = ⊎_elim (λ h. over (start s) s.len (start t) x y h i.to j.from q) (λ h. over (start t) t.len (start s) y x h j.to i.from (sym q)) o
  where
    over : (a len b x y : ℕ) → a + len ≤ b → x < a + len → b ≤ y → x ≡ y → ⊥
    over a len b x y h k l q = absurd (omega arith)

far_from : (e f : Env) (w : Win) (s : Span) (k : Loc) → Located e w s → InWord w k → (O : List Win) (ts : List Span) → AllLocated f O ts → ApartFrom s ts
    → (l : Loc) → in_win O l ≡ true → addr e k ≡ addr f l → ⊥
far_from e f w s k g i [] [] ho ha l j q = absurd (cc)
far_from e f w s k g i [] (t ∷ ts) ho ha l j q = ho
far_from e f w s k g i (x ∷ xs) [] ho ha l j q = ho
far_from e f w s k g i (x ∷ xs) (t ∷ ts) ho ha l j q =
    ⊎_elim (λ y. never_both s t (addr e k) (addr f l) (apart_ok s t g.is ho.0.is ha.0) (located_in e w s k g i.place) (located_in f x t l ho.0 y.place) q)
    (λ y. far_from e f w s k g i xs ts ho.1 ha.1 l y q) (cases x xs l j)

pub far : (e f : Env) (W O : List Win) (ss ts : List Span) → AllLocated e W ss → AllLocated f O ts → AllApart ss ts → Far e W f O
far e f [] O [] ts hw ho ha k l i j q = absurd (cc)
far e f [] O (s ∷ ss) ts hw ho ha k l i j q = hw
far e f (w ∷ W) O [] ts hw ho ha k l i j q = hw
far e f (w ∷ W) O (s ∷ ss) ts hw ho ha k l i j q =
    ⊎_elim (λ y. far_from e f w s k hw.0 y O ts ho ha.0 l j q) (λ y. far e f W O ss ts hw.1 ho ha.1 k l y j q) (cases w W k i)
