-- The spans by which an address is searched. Own.
use Rattle.std.proofs.Common.{◌≡◌, ◌<◌, ◌≤◌, ◌⊎◌, inl, inr, ℕ, suc, ◌+◌, ◌-◌, ◌*◌, ◌/◌, ◌%◌, Bool, true, false, nat_lt, if◌then◌else◌, List, [], ◌∷◌, Option, Some, None, length, get_or, All, Contains, refl, sym, ◌∙◌, ap, subst, arith, zero-add, add_assoc, eqb-true, eq-eqb}
use Rattle.std.proofs.lemmas.Bool.{cases_lt, cases_order}
use Rattle.std.proofs.lemmas.Bool.Decides.{nat_tests}
use Rattle.std.proofs.lemmas.List.{get_or_default}
use Rattle.std.proofs.lemmas.List.Elements.{All-nil, All-cons, All-head, All-tail, All-contains, All-weaker}
use Rattle.std.proofs.lemmas.List.Sorted.{All-permutation, Contains-permutation}
use Rattle.std.specs.List.Sorted.{IsPermutation, IsNonDecreasingBy}
use Rattle.std.specs.Option.{option_map}
use Rattle.ev_isa.specs.Word.{is_aligned}
use Rattle.ev_isa.specs.Pages.{Access, fault_at}
use Rattle.ev_mem.specs.declared.region.RegionKind.{RegionKind}
use Rattle.ev_mem.specs.declared.region.Region.{Region}
use Rattle.ev_mem.specs.declared.lookup.Span.{Span}
use Rattle.ev_mem.specs.Memory.{place_in, place_by, present_in, page_fault}
use Rattle.ev_mem.specs.Access.{place_by_kind}
use Rattle.ev_mem.specs.Mapped.{is_within, slot_in, memory, MappedWords, AreMapped}
use Rattle.ev_mem.specs.Conditions.{AreApart, AllApart}
use Rattle.ev_mem.specs.Spans.{spans_from, first_span, span_in, IsHolder, AreAscending, AreSearched, IsKept}
use Rattle.ev_mem.proofs.Slots.{within, within_is, not_within, slot_below}

-- ---- what the first span that holds an address says

-- the place of an address in a span
abbrev slot_by : ℕ → Option Span → Option ℕ
slot_by a None = None
slot_by a (Some s) = Some (s.start + (a - s.region.base) / 8)

-- the kind of a span's region
abbrev kind_by : Option Span → Option RegionKind
kind_by None = None
kind_by (Some s) = Some s.region.kind

-- an address in a region that has no words
none_within : (r : Region) (a : ℕ) → nat_lt 0 r.words ≡ false → is_within r a ≡ false
none_within r a h = grind (arith, nat_tests)

-- the spans of regions, by whether the first one has words
abbrev spans_by : Bool → ℕ → Region → List Region → List Span
spans_by x n r rs = if x then record { region = r; start = n } ∷ spans_from (n + r.words) rs else spans_from (n + r.words) rs

one_slot : (n : ℕ) (r : Region) (rs : List Region) (a : ℕ)
    → option_map (λ (i : ℕ). (n + r.words) + i) (slot_in rs a) ≡ slot_by a (first_span (spans_from (n + r.words) rs) a) → (x y : Bool)
    → nat_lt 0 r.words ≡ x → is_within r a ≡ y → (o : Option ℕ) → slot_in rs a ≡ o
    → option_map (λ (i : ℕ). n + i) (if y then Some ((a - r.base) / 8) else option_map (λ (i : ℕ). r.words + i) o)
    ≡ slot_by a (first_span (spans_by x n r rs) a)
one_slot n r rs a more true true w e o f = rw e refl
one_slot n r rs a more true false w e None f = rw e (cc (ap (option_map (λ (i : ℕ). (n + r.words) + i)) f))
one_slot n r rs a more true false w e (Some i) f =
    rw (e, sym (add_assoc n r.words i)) (ap (option_map (λ (i : ℕ). (n + r.words) + i)) (sym f) ∙ more)
one_slot n r rs a more false true w e o f = cc (none_within r a w)
one_slot n r rs a more false false w e None f = ap (option_map (λ (i : ℕ). (n + r.words) + i)) (sym f) ∙ more
one_slot n r rs a more false false w e (Some i) f =
    rw (sym (add_assoc n r.words i)) (ap (option_map (λ (i : ℕ). (n + r.words) + i)) (sym f) ∙ more)

slot_from : (n : ℕ) (rs : List Region) (a : ℕ) → option_map (λ (i : ℕ). n + i) (slot_in rs a) ≡ slot_by a (first_span (spans_from n rs) a)
slot_from n [] a = refl
slot_from n (r ∷ rs) a = one_slot n r rs a (slot_from (n + r.words) rs a) (nat_lt 0 r.words) (is_within r a) refl refl (slot_in rs a) refl

zero_more : (o : Option ℕ) → option_map (λ (i : ℕ). 0 + i) o ≡ o
zero_more None = refl
zero_more (Some i) = ap Some (zero-add i)

-- the place of an address is that in its span
pub slot_is : (rs : List Region) (a : ℕ) (o : Option Span) → o ≡ span_in rs a → slot_in rs a ≡ slot_by a o
slot_is rs a o e = sym (zero_more (slot_in rs a)) ∙ slot_from 0 rs a ∙ ap (slot_by a) (sym e)

one_place : (n : ℕ) (r : Region) (rs : List Region) (a : ℕ)
    → place_in rs a ≡ place_by_kind a (kind_by (first_span (spans_from (n + r.words) rs) a)) → (x y : Bool)
    → nat_lt 0 r.words ≡ x → is_within r a ≡ y
    → (if y then place_by r.kind else place_in rs a)
    ≡ place_by_kind a (kind_by (first_span (spans_by x n r rs) a))
one_place n r rs a more true true w e = rw e refl
one_place n r rs a more true false w e = rw e more
one_place n r rs a more false true w e = cc (none_within r a w)
one_place n r rs a more false false w e = more

place_from : (n : ℕ) (rs : List Region) (a : ℕ) → place_in rs a ≡ place_by_kind a (kind_by (first_span (spans_from n rs) a))
place_from n [] a = refl
place_from n (r ∷ rs) a = one_place n r rs a (place_from (n + r.words) rs a) (nat_lt 0 r.words) (is_within r a) refl refl

-- the place of an address is that of its span's kind
pub place_is : (rs : List Region) (a : ℕ) (o : Option Span) → o ≡ span_in rs a → place_in rs a ≡ place_by_kind a (kind_by o)
place_is rs a o e = place_from 0 rs a ∙ ap (λ (p : Option Span). place_by_kind a (kind_by p)) (sym e)

-- ---- any span that holds an address is the first one

one_holder : (s : Span) (ss : List Span) (a : ℕ) → IsHolder ss a (first_span ss a) → (x : Bool) → is_within s.region a ≡ x → (o : Option Span)
    → first_span ss a ≡ o
    → IsHolder (s ∷ ss) a (if x then Some s else o)
one_holder s ss a more true e o f = ((0, omega arith, refl), e)
one_holder s ss a more false e None f =
    All-cons (λ (t : Span). is_within t.region a ≡ false) s ss e (let P : Option Span → Type 0 = IsHolder ss a in subst P f more)
one_holder s ss a more false e (Some t) f =
    let P : Option Span → Type 0 = IsHolder ss a in let h : IsHolder ss a (Some t) = subst P f more in ((suc h.0.0, omega (arith, h.0.1), h.0.2), h.1)

first_holds : (ss : List Span) (a : ℕ) → IsHolder ss a (first_span ss a)
first_holds [] a = All-nil (λ (t : Span). is_within t.region a ≡ false)
first_holds (s ∷ ss) a = one_holder s ss a (first_holds ss a) (is_within s.region a) refl (first_span ss a) refl

moved : (xs ys : List Span) (a : ℕ) (o : Option Span) → IsPermutation xs ys → IsHolder xs a o → IsHolder ys a o
moved xs ys a None p h = All-permutation (λ (t : Span). is_within t.region a ≡ false) xs ys p h
moved xs ys a (Some s) p h = (Contains-permutation xs ys s p h.0, h.1)

-- of two spans that hold an address, neither stands before the other
later : (ss : List Span) (a i j : ℕ) (s t : Span) → AreAscending ss → i ≤ j → j < length ss → get_or ss i s ≡ s → get_or ss j t ≡ t
    → is_within s.region a ≡ true → is_within t.region a ≡ true → s ≡ t
later ss a i j s t up le l es et hs ht =
    let l' : i < length ss = omega arith in let ei : get_or ss i t ≡ s = get_or_default ss i t s l' ∙ es in
    elim (up i j t le l) [
      | inl e ↦ sym ei ∙ e ∙ et
      | inr h ↦ (let P : Span → Type 0 = λ x. x.region.base + 8 * x.region.words ≤ (get_or ss j t).region.base in
          let Q : Span → Type 0 = λ x. s.region.base + 8 * s.region.words ≤ x.region.base in
          let h' : s.region.base + 8 * s.region.words ≤ t.region.base = subst Q et (subst P ei h) in
          absurd (omega (arith, within s.region a hs, within t.region a ht, h')))
    ]

one_held : (ss : List Span) (a : ℕ) (s t : Span) → AreAscending ss → Contains ss s → is_within s.region a ≡ true → Contains ss t → is_within t.region a ≡ true
    → (i j : ℕ) → i < length ss → j < length ss → get_or ss i s ≡ s → get_or ss j t ≡ t → (i ≤ j) ⊎ (j ≤ i) → s ≡ t
one_held ss a s t up cs hs ct ht i j li lj es et (inl h) = later ss a i j s t up h lj es et hs ht
one_held ss a s t up cs hs ct ht i j li lj es et (inr h) = sym (later ss a j i t s up h li et es ht hs)

either : (i j : ℕ) → (i ≤ j) ⊎ (j ≤ i)
either i j = elim (cases_lt i j) [ inl h ↦ inl (omega arith) | inr h ↦ inr h ]

same_holder : (ss : List Span) (a : ℕ) (o p : Option Span) → AreAscending ss → IsHolder ss a o → IsHolder ss a p → o ≡ p
same_holder ss a None None up h k = refl
same_holder ss a None (Some t) up h k =
    let e : is_within t.region a ≡ false = All-contains (λ (x : Span). is_within x.region a ≡ false) ss t h k.0 in cc (k.1, e)
same_holder ss a (Some s) None up h k =
    let e : is_within s.region a ≡ false = All-contains (λ (x : Span). is_within x.region a ≡ false) ss s k h.0 in cc (h.1, e)
same_holder ss a (Some s) (Some t) up h k =
    ap Some (one_held ss a s t up h.0 h.1 k.0 k.1 h.0.0 k.0.0 h.0.1 k.0.1 h.0.2 k.0.2 (either h.0.0 k.0.0))

-- a span that holds an address is the one of its regions that does
pub found : (rs : List Region) (ss : List Span) (a : ℕ) (o : Option Span) → AreSearched rs ss → IsHolder ss a o → o ≡ span_in rs a
found rs ss a o m h = same_holder ss a o (span_in rs a) m.ascending h (moved (spans_from 0 rs) ss a (span_in rs a) m.same (first_holds (spans_from 0 rs) a))

-- it holds other addresses too
pub also : (rs : List Region) (ss : List Span) (a b : ℕ) (s : Span) → AreSearched rs ss → Some s ≡ span_in rs a → is_within s.region b ≡ true
    → Some s ≡ span_in rs b
also rs ss a b s m e h =
    let P : Option Span → Type 0 = IsHolder (spans_from 0 rs) a in
    let k : IsHolder (spans_from 0 rs) a (Some s) = subst P (sym e) (first_holds (spans_from 0 rs) a) in
    found rs ss b (Some s) m (moved (spans_from 0 rs) ss b (Some s) m.same (k.0, h))

-- ---- spans that are sorted ascend

-- two spans are one, or don't overlap
abbrev IsClear : Span → Span → Type 0
IsClear s t = (s ≡ t) ⊎ AreApart s.region t.region

clear_back : (s t : Span) → IsClear s t → IsClear t s
clear_back s t (inl e) = inl (sym e)
clear_back s t (inr (inl h)) = inr (inr h)
clear_back s t (inr (inr h)) = inr (inl h)

abbrev IsClearOf : Region → Span → Type 0
IsClearOf r s = AreApart r s.region

one_apart : (n : ℕ) (r q : Region) (rs : List Region) → AreApart r q → All (IsClearOf r) (spans_from (n + q.words) rs) → (x : Bool)
    → All (IsClearOf r) (spans_by x n q rs)
one_apart n r q rs h more true = All-cons (IsClearOf r) (record { region = q; start = n }) (spans_from (n + q.words) rs) h more
one_apart n r q rs h more false = more

apart_from : (n : ℕ) (r : Region) (rs : List Region) → All (AreApart r) rs → All (IsClearOf r) (spans_from n rs)
apart_from n r [] h = All-nil (IsClearOf r)
apart_from n r (q ∷ rs) h =
    one_apart n r q rs (All-head (AreApart r) q rs h) (apart_from (n + q.words) r rs (All-tail (AreApart r) q rs h)) (nat_lt 0 q.words)

abbrev AreClear : List Span → List Span → Type 0
AreClear ss ts = All (λ (s : Span). All (IsClear s) ts) ss

clear_cons : (s : Span) (ss : List Span) → All (IsClearOf s.region) ss → AreClear ss ss → AreClear (s ∷ ss) (s ∷ ss)
clear_cons s ss h k =
    All-cons (λ (t : Span). All (IsClear t) (s ∷ ss)) s ss
    (All-cons (IsClear s) s ss (inl refl) (All-weaker (IsClearOf s.region) (IsClear s) (λ t a. inr a) ss h))
    (λ i d l. All-cons (IsClear (get_or ss i d)) s ss (clear_back s (get_or ss i d) (inr (h i d l))) (k i d l))

one_clear : (n : ℕ) (r : Region) (rs : List Region) → All (IsClearOf r) (spans_from (n + r.words) rs)
    → AreClear (spans_from (n + r.words) rs) (spans_from (n + r.words) rs) → (x : Bool)
    → AreClear (spans_by x n r rs)
    (spans_by x n r rs)
one_clear n r rs h more true = clear_cons (record { region = r; start = n }) (spans_from (n + r.words) rs) h more
one_clear n r rs h more false = more

clear_from : (n : ℕ) (rs : List Region) → AllApart rs → AreClear (spans_from n rs) (spans_from n rs)
clear_from n [] h = All-nil (λ (s : Span). All (IsClear s) [])
clear_from n (r ∷ rs) h = one_clear n r rs (apart_from (n + r.words) r rs h.0) (clear_from (n + r.words) rs h.1) (nat_lt 0 r.words)

abbrev IsFilled : Span → Type 0
IsFilled s = 0 < s.region.words

one_filled : (n : ℕ) (r : Region) (rs : List Region) → All IsFilled (spans_from (n + r.words) rs) → (x : Bool) → nat_lt 0 r.words ≡ x
    → All IsFilled (spans_by x n r rs)
one_filled n r rs more true e = All-cons IsFilled (record { region = r; start = n }) (spans_from (n + r.words) rs) (grind (arith, nat_tests)) more
one_filled n r rs more false e = more

filled_from : (n : ℕ) (rs : List Region) → All IsFilled (spans_from n rs)
filled_from n [] = All-nil IsFilled
filled_from n (r ∷ rs) = one_filled n r rs (filled_from (n + r.words) rs) (nat_lt 0 r.words) refl

before : (s t : Span) → IsClear s t → s.region.base ≤ t.region.base → IsFilled t → (s ≡ t) ⊎ (s.region.base + 8 * s.region.words ≤ t.region.base)
before s t (inl e) l f = inl e
before s t (inr (inl h)) l f = inr h
before s t (inr (inr h)) l f = absurd (omega arith)

pub searched : (rs : List Region) (ss : List Span) → AllApart rs → IsPermutation (spans_from 0 rs) ss → IsNonDecreasingBy (λ (s : Span). s.region.base) ss
    → AreSearched rs ss
searched rs ss h p up =
    let clear : AreClear ss (spans_from 0 rs) = All-permutation (λ (s : Span). All (IsClear s) (spans_from 0 rs)) (spans_from 0 rs) ss p (clear_from 0 rs h) in
    let filled : All IsFilled ss = All-permutation IsFilled (spans_from 0 rs) ss p (filled_from 0 rs) in
    record {
      same = p;
      ascending = λ i j d le l. before (get_or ss i d) (get_or ss j d)
          (All-permutation (IsClear (get_or ss i d)) (spans_from 0 rs) ss p (clear i d (omega arith)) j d l) (up i j d le l) (filled j d l);
    }

-- a span that begins above an address: so do those behind it
pub above_more : (ss : List Span) (a i j : ℕ) (d : Span) → AreAscending ss → i ≤ j → j < length ss → a < (get_or ss i d).region.base
    → a < (get_or ss j d).region.base
above_more ss a i j d up le l h = elim (up i j d le l) [
  | inl e ↦ (let P : Span → Type 0 = λ x. a < x.region.base in subst P e h)
  | inr k ↦ omega (arith, k)
]

-- what is known of a span's base, at any default
pub base_at : (ss : List Span) (a i j : ℕ) (d e : Span) → i < length ss → (get_or ss i e).region.base ≤ a → j ≡ i → (get_or ss j d).region.base ≤ a
base_at ss a i j d e l h q =
    let P : Span → Type 0 = λ x. x.region.base ≤ a in let Q : ℕ → Type 0 = λ k. (get_or ss k d).region.base ≤ a in
    subst Q (sym q) (subst P (get_or_default ss i e d l) h)

pub above_at : (ss : List Span) (a i : ℕ) (d e : Span) → i < length ss → a < (get_or ss i e).region.base → a < (get_or ss i d).region.base
above_at ss a i d e l h = let P : Span → Type 0 = λ x. a < x.region.base in subst P (get_or_default ss i e d l) h

-- where the last span that begins at or below an address doesn't hold it, none does
pub none_holds : (ss : List Span) (a i : ℕ) (e : Span) → AreAscending ss → i < length ss → is_within (get_or ss i e).region a ≡ false
    → (0 < i → (d : Span) → (get_or ss i d).region.base ≤ a) → ((k : ℕ) (d : Span) → i < k → k < length ss → a < (get_or ss k d).region.base)
    → All (λ (s : Span). is_within s.region a ≡ false) ss
none_holds ss a i e up l n low high k d b = elim (cases_order k i) [
  | inl q ↦ (let P : Span → Type 0 = λ x. is_within x.region a ≡ false in let Q : ℕ → Type 0 = λ j. is_within (get_or ss j d).region a ≡ false in
      subst Q (sym q) (subst P (get_or_default ss i e d l) n))
  | inr (inl h) ↦ elim (up k i d (omega arith) l) [
    | inl q ↦ (let P : Span → Type 0 = λ x. is_within x.region a ≡ false in subst P (sym q) (subst P (get_or_default ss i e d l) n))
    | inr m ↦ not_within (get_or ss k d).region a (inr (omega (arith, m, low (omega arith) d)))
  ]
  | inr (inr h) ↦ not_within (get_or ss k d).region a (inl (high k d h b))
]

-- ---- places among the words

holder : (rs : List Region) (a : ℕ) (s : Span) → Some s ≡ span_in rs a → is_within s.region a ≡ true
holder rs a s e = let P : Option Span → Type 0 = IsHolder (spans_from 0 rs) a in (subst P (sym e) (first_holds (spans_from 0 rs) a)).1

-- an address lies in its span
pub bounds : (rs : List Region) (a : ℕ) (s : Span) → Some s ≡ span_in rs a → (s.region.base ≤ a) × (a < s.region.base + 8 * s.region.words)
bounds rs a s e = within s.region a (holder rs a s e)

pub slot_there : (rs : List Region) (ws : List ℕ) (a : ℕ) (s : Span) → AreMapped rs ws → Some s ≡ span_in rs a → s.start + (a - s.region.base) / 8 < length ws
slot_there rs ws a s m e = omega (arith, m.whole, slot_below rs a (s.start + (a - s.region.base) / 8) (slot_is rs a (Some s) e))

-- the word at a place
pub word_there : (rs : List Region) (ws : List ℕ) (a i : ℕ) → is_aligned a ≡ true → slot_in rs a ≡ Some i
    → get_or ws i 0 ≡ (memory (record { regions = rs; words = ws })).words a
unfolding memory
word_there rs ws a i h e = rw (h, e) refl

-- the words behind an address in its span stand one after another; v is what memory keeps, and m what is seen of it
pub word_ahead : (v m : MappedWords) (ss : List Span) (a n i : ℕ) (s : Span) → v ≡ m → IsKept v.regions v.words ss → is_aligned a ≡ true
    → Some s ≡ span_in m.regions a → slot_in m.regions a ≡ Some i → (a - s.region.base) / 8 + n < s.region.words
    → (i + n < length v.words) × (get_or v.words (i + n) 0 ≡ (memory m).words (a + 8 * n))
word_ahead v m ss a n i s q k h e f l =
    let e' : Some s ≡ span_in v.regions a = e ∙ ap (λ (x : MappedWords). span_in x.regions a) (sym q) in
    let b : (s.region.base ≤ a) × (a < s.region.base + 8 * s.region.words) = bounds v.regions a s e' in
    let w : is_within s.region (a + 8 * n) ≡ true = within_is s.region (a + 8 * n) (omega (arith, b)) (omega (arith, b)) in
    let e2 : Some s ≡ span_in v.regions (a + 8 * n) = also v.regions ss a (a + 8 * n) s k.searched e' w in
    let g : i ≡ s.start + (a - s.region.base) / 8 = cc (f, slot_is m.regions a (Some s) e) in
    let p : s.start + (a + 8 * n - s.region.base) / 8 ≡ i + n = omega (arith, b, g) in
    let t : is_aligned (a + 8 * n) ≡ true = eq-eqb ((a + 8 * n) % 8) 0 (omega (arith, eqb-true (a % 8) 0 h)) in (
      omega (arith, p, slot_there v.regions v.words (a + 8 * n) s k.mapped e2),
      word_there v.regions v.words (a + 8 * n) (i + n) t (slot_is v.regions (a + 8 * n) (Some s) e2 ∙ ap Some p)
          ∙ ap (λ (x : MappedWords). (memory x).words (a + 8 * n)) q,
    )

-- what is read there, in the form that an index gives
pub read_ahead : (v m : MappedWords) (ss : List Span) (a n i : ℕ) (s : Span) (x j b : ℕ) → v ≡ m → IsKept v.regions v.words ss → is_aligned a ≡ true
    → Some s ≡ span_in m.regions a → slot_in m.regions a ≡ Some i → (a - s.region.base) / 8 + n < s.region.words → j ≡ i + n → b ≡ a + 8 * n
    → x ≡ get_or v.words j x → x ≡ (memory m).words b
read_ahead v m ss a n i s x j b q k h e f l ej eb r =
    let w : (i + n < length v.words) × (get_or v.words (i + n) 0 ≡ (memory m).words (a + 8 * n)) = word_ahead v m ss a n i s q k h e f l in
    r ∙ get_or_default v.words j x 0 (omega (arith, w.0, ej)) ∙ ap (λ (y : ℕ). get_or v.words y 0) ej ∙ w.1
    ∙ ap (λ (y : ℕ). (memory m).words y) (sym eb)

-- ---- page faults

-- the page fault of an access in a span
pub fault_held : (m : MappedWords) (c : Access) (a : ℕ) (s : Span) → Some s ≡ span_in m.regions a
    → page_fault (memory m) c a ≡ fault_at (present_in (memory m)) c (place_by s.region.kind)
unfolding memory
fault_held m c a s e = ap (fault_at (present_in (memory m)) c) (place_is m.regions a (Some s) e)

-- the page fault of an access in none
pub fault_unheld : (m : MappedWords) (c : Access) (a : ℕ) → None ≡ span_in m.regions a
    → page_fault (memory m) c a ≡ fault_at (present_in (memory m)) c (place_by_kind a None)
unfolding memory
fault_unheld m c a e = ap (fault_at (present_in (memory m)) c) (place_is m.regions a None e)
