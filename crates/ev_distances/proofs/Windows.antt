-- What located windows give a block: no two of them meet, words of the kernel, and canonical addresses of code. And the windows of each base.
use Rattle.std.proofs.Common.{◌≡◌, ℕ, ◌+◌, ◌-◌, ◌*◌, ◌/◌, ◌%◌, ◌^◌, ◌<◌, ◌≤◌, Bool, true, false, List, [], ◌∷◌, refl, sym, ap, ◌∙◌, arith, ⊎_elim}
use Rattle.std.specs.Prelude.{◌==◌, ◌||◌, if◌then◌else◌}
use Rattle.std.proofs.lemmas.Bool.{eqb-true, eq-eqb}
use Rattle.ev_isa.specs.Word.{is_canonical}
use Rattle.ev_mem.specs.declared.region.Region.{Region}
use Rattle.ev_listing.specs.AddressMap.{pcpu, task_words, stack_top}
use Rattle.ev_symbolic.specs.Value.{M}
use Rattle.ev_symbolic.specs.State.{Loc, Win, is_within, in_win, in_text, loc_eq}
use Rattle.ev_symbolic.specs.Agrees.{Env, addr, IsOpen, Open}
use Rattle.ev_symbolic.specs.Agrees as agrees
use Rattle.ev_symbolic.specs.Openings.{win_below, win_at}
use Rattle.ev_symbolic.proofs.Values.{and_left, and_right}
use Rattle.ev_distances.specs.Span.{Part, Areas, Tables, Tasks, Stacks, Codes, Span, origin, ApartUnless, OthersFrom, OthersApart, Located, AllLocated, AllCovered, all_aligned}
use Rattle.ev_distances.proofs.Places.{in_ok, InWord, cases, one_base}
use Rattle.ev_distances.proofs.Spans.{apart_ok, never_both, located_in, address, from_low, to_end}

-- ---- one activation's own windows

others_from : (e : Env) (w : Win) (s : Span) (k : Loc) → Located e w s → InWord w k → (O : List Win) (ts : List Span) → AllLocated e O ts
    → OthersFrom w s O ts → (l : Loc) → in_win O l ≡ true → loc_eq k l ≡ false → addr e k ≡ addr e l → ⊥
others_from e w s k g i [] [] ho ha l j ne q = absurd (cc)
others_from e w s k g i [] (t ∷ ts) ho ha l j ne q = ho
others_from e w s k g i (x ∷ xs) [] ho ha l j ne q = ho
others_from e w s k g i (x ∷ xs) (t ∷ ts) ho ha l j ne q =
    ⊎_elim (λ y. here y (w.tag == x.tag) refl ha.0) (λ y. others_from e w s k g i xs ts ho.1 ha.1 l y ne q) (cases x xs l j)
  where
    here : InWord x l → (b : Bool) → (w.tag == x.tag) ≡ b → ApartUnless b s t → ⊥
    here y true r d = one_base e k l (i.place.tag ∙ eqb-true w.tag x.tag r ∙ sym y.place.tag) i.place.small y.place.small ne q
    here y false r d = never_both s t (addr e k) (addr e l) (apart_ok s t g.is ho.0.is d) (located_in e w s k g i.place) (located_in e x t l ho.0 y.place) q

pub sep : (e : Env) (W O : List Win) (ss ts : List Span) → AllLocated e W ss → AllLocated e O ts → OthersApart W ss O ts → agrees.Apart e W O
sep e [] O [] ts hw ho ha k l i j ne q = absurd (cc)
sep e [] O (s ∷ ss) ts hw ho ha k l i j ne q = hw
sep e (w ∷ W) O [] ts hw ho ha k l i j ne q = hw
sep e (w ∷ W) O (s ∷ ss) ts hw ho ha k l i j ne q =
    ⊎_elim (λ y. others_from e w s k hw.0 y O ts ho ha.0 l j ne q) (λ y. sep e W O ss ts hw.1 ho ha.1 k l y j ne q) (cases w W k i)

-- ---- words of the kernel

canonical : (a : ℕ) → 0xffff800000000000 ≤ a → a < M → is_canonical a ≡ true
canonical a h k = ap (λ b. (a / 2 ^ 47 == 0) || b) (eq-eqb (a / 2 ^ 47) (2 ^ 17 - 1) (let e : a / 140737488355328 ≡ 131071 = omega arith in e))
    ∙ or_one (a / 2 ^ 47 == 0)
  where
    or_one : (b : Bool) → (b || true) ≡ true
    or_one true = refl
    or_one false = refl

origin_multiple : (f : Part) (p n : ℕ) → origin f p n % 8 ≡ 0
origin_multiple Areas p n = omega arith
origin_multiple Tables p n = refl
origin_multiple Tasks p n = omega arith
origin_multiple Stacks p n = omega arith
origin_multiple Codes p n = refl

multiple : (o lo off w : ℕ) → o % 8 ≡ 0 → lo % 8 ≡ 0 → off % 8 ≡ 0 → w % 8 ≡ 0 → w < M → ((o + lo) + (off + (M - w)) % M) % 8 ≡ 0
multiple o lo off w h1 h2 h3 h4 h5 = omega arith

pub open_ok : (e : Env) (regions : List Region) (W : List Win) (ss : List Span) → AllLocated e W ss → all_aligned W ss ≡ true → AllCovered regions ss
    → Open e W regions
open_ok e regions [] [] hw ha hc l i = absurd (cc)
open_ok e regions [] (s ∷ ss) hw ha hc l i = absurd hw
open_ok e regions (w ∷ W) [] hw ha hc l i = absurd hw
open_ok e regions (w ∷ W) (s ∷ ss) hw ha hc l i =
    let rest = and_right (w.lo % 8 == 0) _ ha in
    ⊎_elim
    (λ y. let inside = located_in e w s l hw.0 y.place in record {
      kernel = hc.0 (addr e l) inside;
      canonical = canonical (addr e l) (from_low s (addr e l) inside) (to_end s (addr e l) hw.0.is inside);
      aligned = eq-eqb (addr e l % 8) 0 (ap (λ a. a % 8) (address e w s l hw.0 y.place) ∙ multiple (origin s.part s.p s.n) s.lo l.off w.lo
          (origin_multiple s.part s.p s.n) (eqb-true (s.lo % 8) 0 (and_left (s.lo % 8 == 0) _ rest)) y.multiple
          (eqb-true (w.lo % 8) 0 (and_left (w.lo % 8 == 0) _ ha)) hw.0.small);
    })
    (λ y. open_ok e regions W ss hw.1 (and_right (s.lo % 8 == 0) _ rest) hc.1 l y) (cases w W l i)

-- ---- code

pub text_ok : (e : Env) (W : List Win) (ss : List Span) → AllLocated e W ss → (l : Loc) → in_text W l ≡ true → is_canonical (addr e l) ≡ true
text_ok e [] [] hw l i = absurd (cc)
text_ok e [] (s ∷ ss) hw l i = absurd hw
text_ok e (w ∷ W) [] hw l i = absurd hw
text_ok e (w ∷ W) (s ∷ ss) hw l i = pick (is_within w l) refl i (text_ok e W ss hw.1 l)
  where
    pick : (b : Bool) → is_within w l ≡ b → (if b then true else in_text W l) ≡ true → (in_text W l ≡ true → is_canonical (addr e l) ≡ true)
        → is_canonical (addr e l) ≡ true
    pick true q r k = let inside = located_in e w s l hw.0 (in_ok w l q) in
        canonical (addr e l) (from_low s (addr e l) inside) (to_end s (addr e l) hw.0.is inside)
    pick false q r k = k r

-- ---- the windows of each base

-- the area of a processor
pub in_area : (e : Env) (t p lo len : ℕ) → e.base t ≡ pcpu p → p < 32 → lo + len ≤ 0x10000
    → Located e (win_at t lo len) (record { part = Areas; p = p; n = 0; lo = lo; len = len })
in_area e t p lo len h hp hl =
    record {
      small = omega arith;
      starts = (let x : (e.base t + lo) % M ≡ (0xffff888000000000 + 0x10000 * p) + lo = omega arith in x);
      len =
          omega arith;
      is = record { processor = hp; number = omega arith; fits = hl };
    }

-- the words of task i
pub on_task : (e : Env) (t p i lo len : ℕ) → e.base t ≡ task_words p i → p < 32 → i < 4 → lo + len ≤ 0x40
    → Located e (win_at t lo len) (record { part = Tasks; p = p; n = i; lo = lo; len = len })
on_task e t p i lo len h hp hi hl =
    record {
      small = omega arith;
      starts = (let x : (e.base t + lo) % M ≡ (0xffff888000840000 + 0x40 * (4 * p + i)) + lo = omega arith in x);
      len =
          omega arith;
      is = record { processor = hp; number = hi; fits = hl };
    }

-- stack n, of which `used` bytes stand above the activation's top
pub on_stack : (e : Env) (t p n used len : ℕ) → e.base t + used ≡ stack_top p n → p < 32 → n < 7 → 0 < len → used + len ≤ 0x4000
    → Located e (win_below t len) (record { part = Stacks; p = p; n = n; lo = 0x4000 - used - len; len = len })
on_stack e t p n used len h hp hn h0 hl = record {
  small = omega arith;
  starts = (let x : (e.base t + (M - len)) % M ≡ (0xffffc90000000000 + 0x100000 * p + 0x4000 * n) + (0x4000 - used - len) = omega arith in x);
  len = omega arith;
  is = record { processor = hp; number = hn; fits = omega arith };
}

-- absolute addresses: tables, and code
pub in_tables : (e : Env) (a len : ℕ) → e.base 1000 ≡ 0 → 0xffff888000800000 ≤ a → a + len ≤ 0xffff888000840000
    → Located e (win_at 1000 a len) (record { part = Tables; p = 0; n = 0; lo = a - 0xffff888000800000; len = len })
in_tables e a len h k hl = record {
  small = omega arith;
  starts = (let x : (e.base 1000 + a) % M ≡ 0xffff888000800000 + (a - 0xffff888000800000) = omega arith in x);
  len = omega arith;
  is = record { processor = omega arith; number = omega arith; fits = omega arith };
}

pub in_code : (e : Env) (t lo len a : ℕ) → e.base t + lo ≡ a → lo < M → 0xffffffff81000000 ≤ a → a + len ≤ M → a < M
    → Located e (win_at t lo len) (record { part = Codes; p = 0; n = 0; lo = a - 0xffffffff81000000; len = len })
in_code e t lo len a h hlo k hl lt = record {
  small = hlo;
  starts = (let x : (e.base t + lo) % M ≡ 0xffffffff81000000 + (a - 0xffffffff81000000) = omega arith in x);
  len = omega arith;
  is = record { processor = omega arith; number = omega arith; fits = omega arith };
}
