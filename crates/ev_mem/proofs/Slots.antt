-- Where addresses lie among regions, and what a write at such a place leaves. Own.
use Rattle.std.proofs.Common.{◌≡◌, ◌<◌, ◌≤◌, ◌≢◌, ◌⊎◌, inl, inr, ℕ, ◌+◌, ◌-◌, ◌*◌, ◌/◌, ◌%◌, ◌^◌, Bool, true, false, ◌==◌, nat_lt, if◌then◌else◌, List, [], ◌∷◌, Option, Some, None, length, set, All, refl, sym, ◌∙◌, ap, arith, eqb-true, get_or-set_same, get_or-set_other, is_some}
use Rattle.std.proofs.lemmas.Bool.Decides.{nat_tests}
use Rattle.std.proofs.lemmas.List.Elements.{All-head, All-tail}
use Rattle.std.proofs.lemmas.List.Sums.{sum_by-cons}
use Rattle.std.specs.Option.{option_map}
use Rattle.ev_isa.specs.Word.{NatSet, is_aligned}
use Rattle.ev_isa.specs.Pages.{Lower, Upper, Access, fault_at}
use Rattle.ev_mem.specs.declared.region.Region.{Region}
use Rattle.ev_mem.specs.Memory.{place_in, place_by, present_in, page_fault}
use Rattle.ev_mem.specs.Access.{with_word}
use Rattle.ev_mem.specs.Mapped.{is_within, slot_in, word_by, words_in, memory, MappedWords, AreMapped, IsPlaced}

pub within : (r : Region) (a : ℕ) → is_within r a ≡ true → (r.base ≤ a) × (a < r.base + 8 * r.words)
within r a h = grind (arith, nat_tests)

pub within_is : (r : Region) (a : ℕ) → r.base ≤ a → a < r.base + 8 * r.words → is_within r a ≡ true
within_is r a h k = grind (arith, nat_tests)

pub not_within : (r : Region) (a : ℕ) → (a < r.base) ⊎ (r.base + 8 * r.words ≤ a) → is_within r a ≡ false
not_within r a (inl h) = grind (arith, nat_tests)
not_within r a (inr h) = grind (arith, nat_tests)

-- an address's place lies among the words
below : (r : Region) (rs : List Region) (a i : ℕ) → ((j : ℕ) → slot_in rs a ≡ Some j → j < words_in rs) → (x : Bool) → is_within r a ≡ x → (o : Option ℕ)
    → slot_in rs a ≡ o → (if x then Some ((a - r.base) / 8) else option_map (λ (j : ℕ). r.words + j) o) ≡ Some i → i < r.words + words_in rs
below r rs a i more true w o f e = let e' : (a - r.base) / 8 ≡ i = cc in omega (arith, within r a w)
below r rs a i more false w None f e = cc
below r rs a i more false w (Some j) f e = let e' : r.words + j ≡ i = cc in omega (arith, more j f)

pub slot_below : (rs : List Region) (a i : ℕ) → slot_in rs a ≡ Some i → i < words_in rs
slot_below [] a i e = cc
slot_below (r ∷ rs) a i e = rw (sum_by-cons (λ (q : Region). q.words) r rs) (below r rs a i (slot_below rs a) (is_within r a) refl (slot_in rs a) refl e)

-- two aligned addresses with one place are one
same : (r : Region) (rs : List Region) (a b i : ℕ) → IsPlaced r → ((j : ℕ) → slot_in rs a ≡ Some j → slot_in rs b ≡ Some j → a ≡ b) → a % 8 ≡ 0 → b % 8 ≡ 0
    → (x y : Bool) → is_within r a ≡ x → is_within r b ≡ y → (o q : Option ℕ) → slot_in rs a ≡ o → slot_in rs b ≡ q
    → (if x then Some ((a - r.base) / 8) else option_map (λ (j : ℕ). r.words + j) o) ≡ Some i
    → (if y then Some ((b - r.base) / 8) else option_map (λ (j : ℕ). r.words + j) q) ≡ Some i → a ≡ b
same r rs a b i p more ha hb true true wa wb o q f g ea eb =
    let e : (a - r.base) / 8 ≡ i = cc in let e' : (b - r.base) / 8 ≡ i = cc in omega (arith, within r a wa, within r b wb)
same r rs a b i p more ha hb true false wa wb o None f g ea eb = cc
same r rs a b i p more ha hb true false wa wb o (Some j) f g ea eb =
    let e : (a - r.base) / 8 ≡ i = cc in let e' : r.words + j ≡ i = cc in absurd (omega (arith, within r a wa))
same r rs a b i p more ha hb false true wa wb None q f g ea eb = cc
same r rs a b i p more ha hb false true wa wb (Some j) q f g ea eb =
    let e : (b - r.base) / 8 ≡ i = cc in let e' : r.words + j ≡ i = cc in absurd (omega (arith, within r b wb))
same r rs a b i p more ha hb false false wa wb None q f g ea eb = cc
same r rs a b i p more ha hb false false wa wb (Some j) None f g ea eb = cc
same r rs a b i p more ha hb false false wa wb (Some j) (Some k) f g ea eb =
    let e : r.words + j ≡ i = cc in let e' : r.words + k ≡ i = cc in let e2 : k ≡ j = omega arith in more j f (g ∙ ap Some e2)

pub same_slot : (rs : List Region) (a b i : ℕ) → All IsPlaced rs → a % 8 ≡ 0 → b % 8 ≡ 0 → slot_in rs a ≡ Some i → slot_in rs b ≡ Some i → a ≡ b
same_slot [] a b i p ha hb ea eb = cc
same_slot (r ∷ rs) a b i p ha hb ea eb =
    same r rs a b i (All-head IsPlaced r rs p) (λ j. same_slot rs a b j (All-tail IsPlaced r rs p) ha hb) ha hb (is_within r a) (is_within r b) refl refl
    (slot_in rs a) (slot_in rs b) refl refl ea eb

-- the words after a write
written_at : (rs : List Region) (ws : List ℕ) (a v i b : ℕ) → AreMapped rs ws → a % 8 ≡ 0 → slot_in rs a ≡ Some i → (x : Bool) → (b == a) ≡ x → (y : Bool)
    → is_aligned b ≡ y → (o : Option ℕ) → slot_in rs b ≡ o
    → (if y then word_by (set ws i v) o else 0) ≡ elim x [ true ↦ v | false ↦ (if y then word_by ws o else 0) ]
written_at rs ws a v i b m ha e true x false y o f = absurd (grind (arith, nat_tests))
written_at rs ws a v i b m ha e true x true y None f = let q : b ≡ a = eqb-true b a x in cc (ap (slot_in rs) q)
written_at rs ws a v i b m ha e true x true y (Some j) f =
    let q : b ≡ a = eqb-true b a x in let k : j ≡ i = cc (ap (slot_in rs) q) in let l : i < length ws = omega (arith, slot_below rs a i e, m.whole) in
    rw k (get_or-set_same ws i v 0 l)
written_at rs ws a v i b m ha e false x false y o f = refl
written_at rs ws a v i b m ha e false x true y None f = refl
written_at rs ws a v i b m ha e false x true y (Some j) f =
    let q : b ≢ a = λ e. grind (arith, nat_tests) in
    let k : j ≢ i = λ (h : j ≡ i). q (same_slot rs b a i m.placed (eqb-true (b % 8) 0 y) ha (f ∙ ap Some h) e) in get_or-set_other ws i j v 0 k

pub written : (rs : List Region) (ws : List ℕ) (a v i : ℕ) → AreMapped rs ws → is_aligned a ≡ true → slot_in rs a ≡ Some i
    → memory (record { regions = rs; words = set ws i v }) ≡ with_word (memory (record { regions = rs; words = ws })) a v
unfolding memory
written rs ws a v i m ha e =
    λ t. record { regions = rs; words = λ b. written_at rs ws a v i b m (eqb-true (a % 8) 0 ha) e (b == a) refl (is_aligned b) refl (slot_in rs b) refl t }

-- an access with no page fault is to a word of a region
outside : (s : NatSet) (c : Access) (x : Bool) → fault_at s c (if x then Lower else Upper) ≡ None → false ≡ true
unfolding fault_at
outside s c true e = cc
outside s c false e = cc

inside : (s : NatSet) (c : Access) (r : Region) (rs : List Region) (a : ℕ) → (fault_at s c (place_in rs a) ≡ None → is_some (slot_in rs a) ≡ true)
    → (x : Bool) → fault_at s c (if x then place_by r.kind else place_in rs a) ≡ None → (o : Option ℕ) → slot_in rs a ≡ o
    → is_some (if x then Some ((a - r.base) / 8) else option_map (λ (j : ℕ). r.words + j) o) ≡ true
inside s c r rs a more true e o f = refl
inside s c r rs a more false e None f = let h : is_some (slot_in rs a) ≡ true = more e in cc (h, ap (λ (v : Option ℕ). is_some v) f)
inside s c r rs a more false e (Some j) f = refl

pub mapped : (s : NatSet) (c : Access) (rs : List Region) (a : ℕ) → fault_at s c (place_in rs a) ≡ None → is_some (slot_in rs a) ≡ true
mapped s c [] a e = outside s c (nat_lt a (2 ^ 63)) e
mapped s c (r ∷ rs) a e = inside s c r rs a (mapped s c rs a) (is_within r a) e (slot_in rs a) refl

pub mapped_in : (m : MappedWords) (c : Access) (a : ℕ) → page_fault (memory m) c a ≡ None → is_some (slot_in m.regions a) ≡ true
unfolding memory
mapped_in m c a e = mapped (present_in (memory m)) c m.regions a e

-- there are no words past 2 ^ 64
past : (r : Region) (rs : List Region) (a : ℕ) → IsPlaced r → 2 ^ 64 ≤ a → slot_in rs a ≡ None → (x : Bool) → is_within r a ≡ x
    → (if x then Some ((a - r.base) / 8) else option_map (λ (j : ℕ). r.words + j) (slot_in rs a)) ≡ None
past r rs a p h more true w = absurd (omega (arith, within r a w))
past r rs a p h more false w = ap (option_map (λ (j : ℕ). r.words + j)) more

slot_past : (rs : List Region) (a : ℕ) → All IsPlaced rs → 2 ^ 64 ≤ a → slot_in rs a ≡ None
slot_past [] a p h = refl
slot_past (r ∷ rs) a p h = past r rs a (All-head IsPlaced r rs p) h (slot_past rs a (All-tail IsPlaced r rs p) h) (is_within r a) refl

word_past : (rs : List Region) (ws : List ℕ) (a : ℕ) → slot_in rs a ≡ None → (x : Bool) → 0 ≡ (if x then word_by ws (slot_in rs a) else 0)
word_past rs ws a e true = ap (word_by ws) (sym e)
word_past rs ws a e false = refl

pub none_past : (m : MappedWords) (a : ℕ) → AreMapped m.regions m.words → 2 ^ 64 ≤ a → 0 ≡ (memory m).words a
unfolding memory
none_past m a p h = word_past m.regions m.words a (slot_past m.regions a p.placed h) (is_aligned a)
