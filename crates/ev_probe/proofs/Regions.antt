-- The regions of a bare memory: they are regions, hold the tables, and among the stacks lie as those of the whole kernel's memory.
use Rattle.std.proofs.Common.{◌≡◌, ℕ, zero, suc, ◌+◌, ◌-◌, ◌*◌, ◌/◌, ◌%◌, ◌^◌, ◌<◌, ◌≤◌, ◌⊎◌, ⊎_elim, inl, inr, Bool, true, false, not, ◌&&◌, ◌||◌, ◌==◌, List, [], ◌∷◌, ◌++◌, map, filter, drop, None, All, is_some, refl, sym, ap, ◌∙◌, subst, arith, eqb-true, append-nil, append_assoc, add-one}
use Rattle.std.specs.Prelude.{if◌then◌else◌, nat_le, nat_lt, count_by, Any, cond}
use Rattle.std.specs.List.{list_all, list_any}
use Rattle.std.proofs.lemmas.Bool.{eq-eqb, ne_eqb, le-leb, lt-ltb, le-ltb, lt-leb, leb-true}
use Rattle.std.proofs.lemmas.List.Elements.{All-cons, All-filter, All-map, All-nil, filter-append}
use Rattle.ev_isa.specs.Word.{bit, numbers_from}
use Rattle.ev_isa.specs.Pages.{Access, KernelWord, Place, Upper, fault_at}
use Rattle.ev_mem.specs.declared.region.Region.{Region}
use Rattle.ev_mem.specs.declared.region.RegionKind.TheVariants.{Kernel}
use Rattle.ev_mem.specs.Memory.{Memory, data_access, page_fault, place_in, present_in}
use Rattle.ev_mem.specs.Mapped.{is_within, slot_in}
use Rattle.ev_mem.specs.Conditions.{AllApart, AreApart, AreRegions, HasPageNumber, IsCanonicalRegion, IsInHalf, is_page, is_text}
use Rattle.ev_idt.specs.Tables.{IsHandler, IsReadable}
use Rattle.ev_listing.specs.AddressMap.{idt_base, pcpu, stack_top}
use Rattle.ev_concrete.specs.Opening.{idt_word, region, regions, stack_regions}
use Rattle.ev_tables.proofs.Gates.{handler, upper_canonical}
use Rattle.ev_probe.specs.Probe.{bare, is_mapped}
use Rattle.ev_probe.specs.BareMemory.{FindsTables, HoldsGates, IsInIdt, IsInStacks, few_regions}

-- stack n of processor 0, the area of the processor, and the IDT
abbrev stack : ℕ → Region
stack n = region (stack_top 0 n - 0x2000) 0x2000 Kernel

abbrev area : Region
area = region (pcpu 0) 0x10000 Kernel

abbrev table : Region
table = region idt_base 0x1000 Kernel

abbrev stacks_in : ℕ → List ℕ → List Region
stacks_in bad ns = filter (is_mapped bad) (map stack ns)

few_is : (bad : ℕ) → few_regions bad ≡ area ∷ table ∷ stacks_in bad (numbers_from 0 7)
few_is bad = refl

-- ---- they are regions

-- what holds of the area, the IDT and each stack holds of them all
all_few : (P : Region → Type 0) (bad : ℕ) → P area → P table → ((n : ℕ) → n < 7 → P (stack n)) → All P (few_regions bad)
all_few P bad a t s =
    All-cons P area (table ∷ stacks_in bad (numbers_from 0 7)) a (All-cons P table (stacks_in bad (numbers_from 0 7)) t
    (All-filter (is_mapped bad) P (map stack (numbers_from 0 7)) (All-map P stack (numbers_from 0 7)
    (All-cons Q 0 (numbers_from 1 6) (s 0 (omega arith))
    (All-cons Q 1 (numbers_from 2 5) (s 1 (omega arith)) (All-cons Q 2 (numbers_from 3 4) (s 2 (omega arith))
    (All-cons Q 3 (numbers_from 4 3) (s 3 (omega arith))
    (All-cons Q 4 (numbers_from 5 2) (s 4 (omega arith)) (All-cons Q 5 (numbers_from 6 1) (s 5 (omega arith))
    (All-cons Q 6 [] (s 6 (omega arith)) (All-nil Q)))))))))))
  where
    Q : ℕ → Type 0
    Q n = P (stack n)

-- the stacks from n on lie apart from one before
later : (k n m bad : ℕ) → n < m → All (AreApart (stack n)) (stacks_in bad (numbers_from m k))
later k n m bad l = All-filter (is_mapped bad) (AreApart (stack n)) (map stack (numbers_from m k))
    (All-map (AreApart (stack n)) stack (numbers_from m k) (from k m l))
  where
    from : (j i : ℕ) → n < i → All (λ x. AreApart (stack n) (stack x)) (numbers_from i j)
    from zero i h = All-nil (λ x. AreApart (stack n) (stack x))
    from (suc j) i h = All-cons (λ x. AreApart (stack n) (stack x)) i (numbers_from (suc i) j) (inl (omega arith)) (from j (suc i) (omega arith))

one_more_apart : (t : Bool) (r : Region) (rs : List Region) → All (AreApart r) rs → AllApart rs → AllApart (cond t (r ∷ rs) rs)
one_more_apart true r rs h k = (h, k)
one_more_apart false r rs h k = k

stacks_apart : (k m bad : ℕ) → AllApart (stacks_in bad (numbers_from m k))
stacks_apart zero m bad = tt
stacks_apart (suc k) m bad =
    one_more_apart (is_mapped bad (stack m)) (stack m) (stacks_in bad (numbers_from (suc m) k)) (later k m (suc m) bad (omega arith))
    (stacks_apart k (suc m) bad)

no_text : (rs : List Region) → All (λ (r : Region). is_text r.kind ≡ false) rs → count_by (λ (r : Region). is_text r.kind) rs ≡ 0
no_text [] h = refl
no_text (r ∷ rs) h =
    let first : is_text r.kind ≡ false = h 0 r (omega arith) in
    let rest : count_by (λ (x : Region). is_text x.kind) rs ≡ 0 = no_text rs (λ k d l. h (suc k) d (omega arith)) in
    rw (first, rest) refl

no_page : (rs : List Region) → All (λ (r : Region). is_page r.kind ≡ false) rs → Any (λ (r : Region). is_page r.kind ≡ true) rs → ⊥
no_page rs h (k, x, l, e, t) =
    let P : Region → Type 0 = λ r. is_page r.kind ≡ false in
    let no : is_page x.kind ≡ false = subst P e (h k x l) in
    absurd (let c : true ≡ false = sym t ∙ no in cc)

pub few_are_regions : (bad : ℕ) → AreRegions (few_regions bad) []
few_are_regions bad = record {
  apart = (
    All-cons (AreApart area) table (stacks_in bad (numbers_from 0 7)) (inl (omega arith)) (before (AreApart area) (λ n l. inl (omega arith))),
    (before (AreApart table) (λ n l. inl (omega arith)), stacks_apart 7 0 bad),
  );
  one_text = omega (arith, no_text (few_regions bad) (all_few (λ (r : Region). is_text r.kind ≡ false) bad refl refl (λ n l. refl)));
  aligned = all_few (λ (r : Region). r.base % 8 ≡ 0) bad refl refl (λ n l. omega arith);
  canonical = all_few IsCanonicalRegion bad (λ a lo hi. upper_canonical a (omega arith) (omega arith))
      (λ a lo hi. upper_canonical a (omega arith) (omega arith))
      (λ n l a lo hi. upper_canonical a (omega arith) (omega arith));
  in_half = all_few (λ (r : Region). IsInHalf r.kind r.base (r.base + 8 * r.words)) bad (omega arith) (omega arith) (λ n l. omega arith);
  page_numbers = all_few (λ (r : Region). HasPageNumber r.kind) bad tt tt (λ n l. tt);
  page_map_held = λ h. absurd (no_page (few_regions bad) (all_few (λ (r : Region). is_page r.kind ≡ false) bad refl refl (λ n l. refl)) h);
  text_fits = omega arith;
}
  where
    tail : {X : Type 0} (P : X → Type 0) (x : X) (xs : List X) → All P (x ∷ xs) → All P xs
    tail P x xs h = λ k d l. h (suc k) d (omega arith)

    before : (P : Region → Type 0) → ((n : ℕ) → n < 7 → P (stack n)) → All P (stacks_in bad (numbers_from 0 7))
    before P s = All-filter (is_mapped bad) P (map stack (numbers_from 0 7)) (All-map P stack (numbers_from 0 7)
        (All-cons (λ n. P (stack n)) 0 (numbers_from 1 6) (s 0 (omega arith)) (All-cons (λ n. P (stack n)) 1 (numbers_from 2 5) (s 1 (omega arith))
        (All-cons (λ n. P (stack n)) 2 (numbers_from 3 4) (s 2 (omega arith)) (All-cons (λ n. P (stack n)) 3 (numbers_from 4 3) (s 3 (omega arith))
        (All-cons (λ n. P (stack n)) 4 (numbers_from 5 2) (s 4 (omega arith)) (All-cons (λ n. P (stack n)) 5 (numbers_from 6 1) (s 5 (omega arith))
        (All-cons (λ n. P (stack n)) 6 [] (s 6 (omega arith)) (All-nil (λ n. P (stack n)))))))))))

-- ---- the places of addresses

both : (x y : Bool) → x ≡ true → y ≡ true → (x && y) ≡ true
both x y p q = rw (p, q) refl

neither : (x y : Bool) → y ≡ false → (x && y) ≡ false
neither true y h = h
neither false y h = refl

-- an address in a region, below one, and above one
within_is : (r : Region) (a : ℕ) → r.base ≤ a → a < r.base + 8 * r.words → is_within r a ≡ true
within_is r a h k = both (nat_le r.base a) (nat_lt a (r.base + 8 * r.words)) (le-leb r.base a h) (lt-ltb a (r.base + 8 * r.words) k)

above_it : (r : Region) (a : ℕ) → r.base + 8 * r.words ≤ a → is_within r a ≡ false
above_it r a h = neither (nat_le r.base a) (nat_lt a (r.base + 8 * r.words)) (le-ltb a (r.base + 8 * r.words) h)

below_it : (r : Region) (a : ℕ) → a < r.base → is_within r a ≡ false
below_it r a h = let t : nat_le r.base a ≡ false = lt-leb r.base a h in rw t refl

-- the area and the IDT
area_place : (bad a : ℕ) → pcpu 0 ≤ a → a < pcpu 0 + 0x10000 → place_in (few_regions bad) a ≡ KernelWord
area_place bad a h k = let t : is_within area a ≡ true = within_is area a h (omega arith) in rw t refl

table_place : (bad a : ℕ) → IsInIdt a → place_in (few_regions bad) a ≡ KernelWord
table_place bad a h =
    let lo = h.0 in let hi = h.1 in
    let f : is_within area a ≡ false = above_it area a (omega arith) in
    let t : is_within table a ≡ true = within_is table a lo (omega arith) in rw (f, t) refl

pub area_slot : (bad a : ℕ) → pcpu 0 ≤ a → a < pcpu 0 + 0x10000 → is_some (slot_in (few_regions bad) a) ≡ true
area_slot bad a h k = let t : is_within area a ≡ true = within_is area a h (omega arith) in rw t refl

pub table_slot : (bad a : ℕ) → IsInIdt a → is_some (slot_in (few_regions bad) a) ≡ true
table_slot bad a h =
    let lo = h.0 in let hi = h.1 in
    let f : is_within area a ≡ false = above_it area a (omega arith) in
    let t : is_within table a ≡ true = within_is table a lo (omega arith) in rw (f, t) refl

-- among the stacks
stacks_place : (bad a : ℕ) → IsInStacks a → place_in (few_regions bad) a ≡ place_in (stacks_in bad (numbers_from 0 7)) a
stacks_place bad a h =
    let lo = h.0 in
    let f : is_within area a ≡ false = above_it area a (omega arith) in
    let t : is_within table a ≡ false = above_it table a (omega arith) in rw (f, t) refl

-- a region behind or before the stacks
abbrev is_elsewhere : Region → Bool
is_elsewhere r = nat_le (r.base + 8 * r.words) (stack_top 0 0 - 0x4000) || nat_le (stack_top 0 6) r.base

elsewhere_by : (s t : Bool) (r : Region) (a : ℕ) → nat_le (r.base + 8 * r.words) (stack_top 0 0 - 0x4000) ≡ s → nat_le (stack_top 0 6) r.base ≡ t
    → (s || t) ≡ true → IsInStacks a → is_within r a ≡ false
elsewhere_by true t r a e f h k = let lo = k.0 in above_it r a (omega (arith, leb-true _ _ e))
elsewhere_by false true r a e f h k = let hi = k.1 in below_it r a (omega (arith, leb-true _ _ f))
elsewhere_by false false r a e f h k = absurd cc

split : (x y : Bool) → (x && y) ≡ true → (x ≡ true) × (y ≡ true)
split true y h = (refl, h)
split false y h = absurd cc

by_within : (t : Bool) (x y z : Place) → y ≡ z → (if t then x else y) ≡ (if t then x else z)
by_within true x y z h = refl
by_within false x y z h = h

place_append : (rs qs : List Region) (a : ℕ) → IsInStacks a → list_all is_elsewhere qs ≡ true → place_in (rs ++ qs) a ≡ place_in rs a
place_append [] [] a k h = refl
place_append [] (q ∷ qs) a k h =
    let s = split (is_elsewhere q) (list_all is_elsewhere qs) h in
    let f : is_within q a ≡ false = elsewhere_by _ _ q a refl refl s.0 k in
    rw f (place_append [] qs a k s.1)
place_append (r ∷ rs) qs a k h = by_within (is_within r a) _ (place_in (rs ++ qs) a) (place_in rs a) (place_append rs qs a k h)

-- the other regions of the kernel's memory
unfoldable others : List Region
others = drop 7 (regions bare)

bare_is : regions bare ≡ stack_regions 0 ++ others
unfolding others
bare_is = refl

others_mapped : (bad : ℕ) → filter (is_mapped bad) others ≡ others
unfolding others
others_mapped bad = refl

others_elsewhere : list_all is_elsewhere others ≡ true
unfolding others
others_elsewhere = refl

whole_is : (bad : ℕ) → filter (is_mapped bad) (regions bare) ≡ stacks_in bad (numbers_from 0 7) ++ others
whole_is bad =
    ap (filter (is_mapped bad)) bare_is ∙ filter-append (is_mapped bad) (stack_regions 0) others
    ∙ ap (λ (rs : List Region). filter (is_mapped bad) (stack_regions 0) ++ rs) (others_mapped bad)

pub same_place : (bad a : ℕ) → IsInStacks a → place_in (few_regions bad) a ≡ place_in (filter (is_mapped bad) (regions bare)) a
same_place bad a h =
    stacks_place bad a h ∙ sym
    (ap (λ (rs : List Region). place_in rs a) (whole_is bad) ∙ place_append (stacks_in bad (numbers_from 0 7)) others a h others_elsewhere)

-- a place that the kernel has, or that is in no region of the upper half
abbrev IsPlain : Place → Type 0
IsPlain p = (p ≡ KernelWord) ⊎ (p ≡ Upper)

plain_by : (t u : Bool) (p : Place) (rs : List Region) (r : Region) (a : ℕ) → r.kind ≡ Kernel → is_within r a ≡ u → IsPlain (place_in rs a) → IsPlain
    (place_in (cond t (r ∷ rs) rs) a)
plain_by true true p rs r a k e h = inl (rw (e, k) refl)
plain_by true false p rs r a k e h = let P : Place → Type 0 = IsPlain in subst P (let q : place_in rs a ≡ place_in (r ∷ rs) a = rw e refl in q) h
plain_by false u p rs r a k e h = h

stacks_plain : (bad a : ℕ) (ns : List ℕ) → 2 ^ 63 ≤ a → IsPlain (place_in (stacks_in bad ns) a)
stacks_plain bad a [] h = inr (let f : nat_lt a (2 ^ 63) ≡ false = le-ltb a (2 ^ 63) h in rw f refl)
stacks_plain bad a (n ∷ ns) h = plain_by (is_mapped bad (stack n)) (is_within (stack n) a) Upper (stacks_in bad ns) (stack n) a refl refl
    (stacks_plain bad a ns h)

fault_plain : (m n : Memory) (access : Access) (p q : Place) → IsPlain p → p ≡ q → fault_at (present_in m) access p ≡ fault_at (present_in n) access q
unfolding fault_at
fault_plain m n access p q h e =
    ⊎_elim (λ k. ap (fault_at (present_in m) access) k ∙ sym (ap (fault_at (present_in n) access) (sym e ∙ k)))
    (λ k. ap (fault_at (present_in m) access) k ∙ sym (ap (fault_at (present_in n) access) (sym e ∙ k))) h

-- memories with these regions have the same faults among the stacks
pub same_faults : (m n : Memory) (bad : ℕ) → m.regions ≡ few_regions bad → n.regions ≡ filter (is_mapped bad) (regions bare)
    → (a : ℕ) → IsInStacks a → (write : Bool) → page_fault m (data_access false write) a ≡ page_fault n (data_access false write) a
same_faults m n bad hm hn a h write =
    let lo = h.0 in
    let p : place_in m.regions a ≡ place_in (stacks_in bad (numbers_from 0 7)) a = ap (λ (rs : List Region). place_in rs a) hm ∙ stacks_place bad a h in
    let P : Place → Type 0 = IsPlain in
    fault_plain m n (data_access false write) (place_in m.regions a) (place_in n.regions a)
    (subst P (sym p) (stacks_plain bad a (numbers_from 0 7) (omega arith)))
    (ap (λ (rs : List Region). place_in rs a) hm ∙ same_place bad a h ∙ sym (ap (λ (rs : List Region). place_in rs a) hn))

-- ---- a stack that is mapped

mapped_by : (bad n : ℕ) → n < 7 → bit n bad ≡ false → is_mapped bad (stack n) ≡ true
mapped_by bad n l h =
    let b : ((stack n).base - (stack_top 0 0 - 0x2000)) / 0x4000 ≡ n = omega arith in
    rw (b, h) (by ((stack n).base / 0x100000 == stack_top 0 0 / 0x100000))
  where
    by : (t : Bool) → not (t && false) ≡ true
    by true = refl
    by false = refl

kernel_by : (t u : Bool) (rs : List Region) (r : Region) (a : ℕ) → r.kind ≡ Kernel → is_within r a ≡ u → place_in rs a ≡ KernelWord
    → place_in (cond t (r ∷ rs) rs) a ≡ KernelWord
kernel_by true true rs r a k e h = rw (e, k) refl
kernel_by true false rs r a k e h = rw e h
kernel_by false u rs r a k e h = h

in_stack_by : (bad n a : ℕ) (ns : List ℕ) → is_mapped bad (stack n) ≡ true → is_within (stack n) a ≡ true → list_any (λ k. k == n) ns ≡ true
    → place_in (stacks_in bad ns) a ≡ KernelWord
in_stack_by bad n a [] p q h = absurd cc
in_stack_by bad n a (k ∷ ns) p q h = by (in_stack_by bad n a ns p q) (k == n) refl h
  where
    by : (list_any (λ j. j == n) ns ≡ true → place_in (stacks_in bad ns) a ≡ KernelWord) → (t : Bool) → (k == n) ≡ t
        → (t || list_any (λ j. j == n) ns) ≡ true → place_in (stacks_in bad (k ∷ ns)) a ≡ KernelWord
    by rest true e g =
        let same : k ≡ n = eqb-true k n e in
        let pk : is_mapped bad (stack k) ≡ true = ap (λ (j : ℕ). is_mapped bad (stack j)) same ∙ p in
        let qk : is_within (stack k) a ≡ true = ap (λ (j : ℕ). is_within (stack j) a) same ∙ q in
        rw (pk, qk) refl
    by rest false e g = kernel_by (is_mapped bad (stack k)) (is_within (stack k) a) (stacks_in bad ns) (stack k) a refl refl (rest g)

-- a number below 7 is a stack's
numbered : (n : ℕ) → n < 7 → list_any (λ k. k == n) (numbers_from 0 7) ≡ true
numbered zero l = refl
numbered (suc zero) l = refl
numbered (suc (suc zero)) l = refl
numbered (suc (suc (suc zero))) l = refl
numbered (suc (suc (suc (suc zero)))) l = refl
numbered (suc (suc (suc (suc (suc zero))))) l = refl
numbered (suc (suc (suc (suc (suc (suc zero)))))) l = refl
numbered (suc (suc (suc (suc (suc (suc (suc n))))))) l = absurd (omega (arith, l))

pub in_stack : (bad n a : ℕ) → n < 7 → bit n bad ≡ false → stack_top 0 n - 0x2000 ≤ a → a < stack_top 0 n → place_in (few_regions bad) a ≡ KernelWord
in_stack bad n a l h lo hi =
    stacks_place bad a (omega arith, omega arith)
    ∙ in_stack_by bad n a (numbers_from 0 7) (mapped_by bad n l h) (within_is (stack n) a lo (omega arith)) (numbered n l)

-- ---- the tables

kernel_reads : (m : Memory) (write : Bool) (a : ℕ) → place_in m.regions a ≡ KernelWord → page_fault m (data_access false write) a ≡ None
unfolding fault_at
kernel_reads m write a h = ap (fault_at (present_in m) (data_access false write)) h

pub kernel_accesses : (m : Memory) (bad : ℕ) (write : Bool) (a : ℕ) → m.regions ≡ few_regions bad → place_in (few_regions bad) a ≡ KernelWord
    → page_fault m (data_access false write) a ≡ None
kernel_accesses m bad write a e h = kernel_reads m write a (ap (λ (rs : List Region). place_in rs a) e ∙ h)

readable : (m : Memory) (bad a : ℕ) → m.regions ≡ few_regions bad → place_in (few_regions bad) a ≡ KernelWord → 0xffff800000000000 ≤ a → a < 2 ^ 64 →
    IsReadable m a
readable m bad a e h lo hi = record { canonical = upper_canonical a lo hi; mapped = kernel_accesses m bad false a e h }

held_handler : (m : Memory) (v : ℕ) → HoldsGates 512 m.words → v < 256 → IsHandler (m.words (idt_base + 16 * v)) (m.words (idt_base + 16 * v + 8))
held_handler m v holds h =
    let low_place : idt_base + 8 * (2 * v) ≡ idt_base + 16 * v = omega arith in
    let high_place : idt_base + 8 * (2 * v + 1) ≡ idt_base + 16 * v + 8 = omega arith in
    let low : idt_word (2 * v) ≡ m.words (idt_base + 16 * v) = sym (holds (2 * v) (omega arith)) ∙ ap m.words low_place in
    let high : idt_word (2 * v + 1) ≡ m.words (idt_base + 16 * v + 8) = sym (holds (2 * v + 1) (omega arith)) ∙ ap m.words high_place in
    subst (λ (y : ℕ). IsHandler (m.words (idt_base + 16 * v)) y) high (subst (λ (x : ℕ). IsHandler x (idt_word (2 * v + 1))) low (handler v h))

pub finds_tables : (m : Memory) (bad : ℕ) → m.regions ≡ few_regions bad → HoldsGates 512 m.words → FindsTables m
finds_tables m bad e holds c idt tss = record {
  idt_aligned = ap (λ (a : ℕ). a % 16) idt;
  tss_aligned = ap (λ (a : ℕ). a % 8) tss;
  idt_mapped = λ k h. subst (λ (a : ℕ). IsReadable m (a + 8 * k)) (sym idt)
      (readable m bad (idt_base + 8 * k) e (table_place bad (idt_base + 8 * k) (omega arith, omega arith)) (omega arith) (omega arith));
  tss_mapped = λ k h. subst (λ (a : ℕ). IsReadable m (a + 4 + 8 * k)) (sym tss)
      (readable m bad (pcpu 0 + 0x404 + 4 + 8 * k) e (area_place bad (pcpu 0 + 0x404 + 4 + 8 * k) (omega arith) (omega arith)) (omega arith) (omega arith));
  handlers = λ v h. subst (λ (a : ℕ). IsHandler (m.words (a + 16 * v)) (m.words (a + 16 * v + 8))) (sym idt) (held_handler m v holds h);
}

-- ---- the stacks pushed one after another

-- stack n by its bit
one_stack : (bad n : ℕ) → n < 7 → bit n bad ≡ false → filter (is_mapped bad) (stack n ∷ []) ≡ stack n ∷ []
one_stack bad n l h = let t : is_mapped bad (stack n) ≡ true = mapped_by bad n l h in rw t refl

unmapped_by : (bad n : ℕ) → n < 7 → bit n bad ≡ true → is_mapped bad (stack n) ≡ false
unmapped_by bad n l h =
    let b : ((stack n).base - (stack_top 0 0 - 0x2000)) / 0x4000 ≡ n = omega arith in
    let t : ((stack n).base / 0x100000 == stack_top 0 0 / 0x100000) ≡ true = eq-eqb _ _ (omega arith) in
    rw (b, h, t) refl

no_stack : (bad n : ℕ) → n < 7 → bit n bad ≡ true → filter (is_mapped bad) (stack n ∷ []) ≡ []
no_stack bad n l h = let t : is_mapped bad (stack n) ≡ false = unmapped_by bad n l h in rw t refl

pub one_pushed : (bad n : ℕ) (xs ys : List Region) (r : Region) → n < 7 → bad / 2 ^ n % 2 ≡ 0 → r ≡ stack n → ys ≡ xs ++ r ∷ []
    → ys ≡ xs ++ filter (is_mapped bad) (stack n ∷ [])
one_pushed bad n xs ys r l h e p =
    let b : bit n bad ≡ false = ne_eqb (bad / 2 ^ n % 2) 1 (λ k. omega arith) in
    p ∙ ap (λ (x : Region). xs ++ x ∷ []) e ∙ ap (λ (zs : List Region). xs ++ zs) (sym (one_stack bad n l b))

pub none_pushed : (bad n : ℕ) (xs ys : List Region) → n < 7 → (bad / 2 ^ n % 2 ≡ 0 → ⊥) → ys ≡ xs → ys ≡ xs ++ filter (is_mapped bad) (stack n ∷ [])
none_pushed bad n xs ys l h e =
    let b : bit n bad ≡ true = eq-eqb (bad / 2 ^ n % 2) 1 (by (bad / 2 ^ n % 2) (omega arith) h) in
    e ∙ sym (append-nil xs) ∙ ap (λ (zs : List Region). xs ++ zs) (sym (no_stack bad n l b))
  where
    by : (x : ℕ) → x < 2 → (x ≡ 0 → ⊥) → x ≡ 1
    by zero k g = absurd (g refl)
    by (suc zero) k g = refl
    by (suc (suc x)) k g = absurd (omega (arith, k))

-- one stack more
pub stacks_more : (bad n k j : ℕ) (all xs ys : List Region) → all ≡ xs ++ stacks_in bad (numbers_from n k) → k ≡ suc j
    → ys ≡ xs ++ filter (is_mapped bad) (stack n ∷ []) → all ≡ ys ++ stacks_in bad (numbers_from (n + 1) j)
stacks_more bad n k j all xs ys h e p =
    h ∙ ap (λ (i : ℕ). xs ++ stacks_in bad (numbers_from n i)) e
    ∙ ap (λ (zs : List Region). xs ++ zs) (filter-append (is_mapped bad) (stack n ∷ []) (map stack (numbers_from (suc n) j)))
    ∙ sym (append_assoc xs (filter (is_mapped bad) (stack n ∷ [])) (stacks_in bad (numbers_from (suc n) j)))
    ∙ ap (λ (zs : List Region). zs ++ stacks_in bad (numbers_from (suc n) j)) (sym p)
    ∙ ap (λ (i : ℕ). ys ++ stacks_in bad (numbers_from i j)) (sym (add-one n))

pub stacks_done : (bad n : ℕ) (all xs : List Region) → all ≡ xs ++ stacks_in bad (numbers_from n (7 - n)) → n ≡ 7 → xs ≡ all
stacks_done bad n all xs h e = sym (h ∙ ap (λ (i : ℕ). xs ++ stacks_in bad (numbers_from i (7 - i))) e ∙ append-nil xs)
