-- The words of a memory at first. Own.
use Rattle.std.proofs.Common.{◌≡◌, ◌<◌, ℕ, zero, suc, ◌+◌, ◌-◌, ◌*◌, ◌/◌, ◌%◌, ◌^◌, Bool, true, false, if◌then◌else◌, List, [], ◌∷◌, ◌++◌, map, Option, Some, None, length, get_or, All, refl, sym, ◌∙◌, ap, arith, eqb-true, add-zero, zero-add, add-one, append_assoc, length-append}
use Rattle.std.proofs.lemmas.Bool.Decides.{nat_tests}
use Rattle.std.proofs.lemmas.List.Elements.{All-head, All-tail}
use Rattle.std.proofs.lemmas.List.Sums.{sum_by-cons}
use Rattle.std.proofs.lemmas.List.{get_or_append_left, get_or-append-add}
use Rattle.std.specs.Option.{option_map}
use Rattle.ev_isa.specs.Word.{is_aligned, is_canonical, numbers_from}
use Rattle.ev_mem.specs.declared.region.Region.{Region}
use Rattle.ev_mem.specs.Mapped.{is_within, slot_in, word_by, words_in, memory, AreMapped, IsPlaced}
use Rattle.ev_mem.specs.Conditions.{first_by, first_in, first_words, words_of_region, all_first_words, AreRegions}
use Rattle.ev_mem.proofs.Slots.{within}

-- one number more
pub numbers_more : (f : ℕ → ℕ) (n k : ℕ) → map f (numbers_from n (suc k)) ≡ map f (numbers_from n k) ++ f (n + k) ∷ []
numbers_more f n zero = ap (λ (m : ℕ). f m ∷ []) (sym (add-zero n))
numbers_more f n (suc k) = ap (λ (l : List ℕ). f n ∷ l) (numbers_more f (suc n) k ∙ ap (λ (m : ℕ). map f (numbers_from (suc n) k) ++ f m ∷ []) (omega arith))

-- words that are followed by one more word of the region
pub region_more : (f : ℕ → ℕ) (k v : ℕ) (us ws : List ℕ) → ws ≡ us ++ map f (numbers_from 0 k) → v ≡ f k → ws ++ v ∷ [] ≡ us ++ map f (numbers_from 0 (k + 1))
region_more f k v us ws e g =
    ap (λ (l : List ℕ). l ++ v ∷ []) e ∙ append_assoc us (map f (numbers_from 0 k)) (v ∷ [])
    ∙ ap (λ (l : List ℕ). us ++ l) (ap (λ (m : ℕ). map f (numbers_from 0 k) ++ m ∷ []) (g ∙ ap f (sym (zero-add k))) ∙ sym (numbers_more f 0 k)
    ∙ ap (λ (m : ℕ). map f (numbers_from 0 m)) (sym (add-one k)))

length_numbers : (f : ℕ → ℕ) (n k : ℕ) → length (map f (numbers_from n k)) ≡ k
length_numbers f n zero = refl
length_numbers f n (suc k) = ap suc (length_numbers f (suc n) k)

get_number : (f : ℕ → ℕ) (n k i : ℕ) → i < k → get_or (map f (numbers_from n k)) i 0 ≡ f (n + i)
get_number f n zero i h = absurd (omega arith)
get_number f n (suc k) zero h = ap f (sym (add-zero n))
get_number f n (suc k) (suc i) h = get_number f (suc n) k i (omega arith) ∙ ap f (omega arith)

length_region : (text : List ℕ) (r : Region) → length (words_of_region text r) ≡ r.words
length_region text r = length_numbers (λ (k : ℕ). first_by r.kind text (8 * k)) 0 r.words

length_all : (rs : List Region) (text : List ℕ) → length (all_first_words rs text) ≡ words_in rs
length_all [] text = refl
length_all (r ∷ rs) text =
    rw (sum_by-cons (λ (q : Region). q.words) r rs)
    (omega (arith, length-append (words_of_region text r) (all_first_words rs text), length_region text r, length_all rs text))

-- how many words the regions have
pub count_first : (rs : List Region) (text ws : List ℕ) → ws ≡ all_first_words rs text → words_in rs ≡ length ws
count_first rs text ws e = sym (length_all rs text) ∙ ap length (sym e)

word_first : (r : Region) (rs : List Region) (text : List ℕ) (a : ℕ) → IsPlaced r → a % 8 ≡ 0
    → (word_by (all_first_words rs text) (slot_in rs a) ≡ first_in rs text a) → (x : Bool) → is_within r a ≡ x → (o : Option ℕ) → slot_in rs a ≡ o
    → word_by (words_of_region text r ++ all_first_words rs text) (if x then Some ((a - r.base) / 8) else option_map (λ (i : ℕ). r.words + i) o)
    ≡ (if x then first_by r.kind text (a - r.base) else first_in rs text a)
word_first r rs text a p h more true w o f =
    let l : (a - r.base) / 8 < r.words = omega (arith, within r a w) in
    let e : 8 * ((a - r.base) / 8) ≡ a - r.base = omega (arith, within r a w) in
    let g : (a - r.base) / 8 < length (words_of_region text r) = omega (arith, length_region text r) in
    get_or_append_left (words_of_region text r) (all_first_words rs text) 0 ((a - r.base) / 8) g
    ∙ get_number (λ (k : ℕ). first_by r.kind text (8 * k)) 0 r.words ((a - r.base) / 8) l
    ∙ ap (λ (m : ℕ). first_by r.kind text (8 * m)) (zero-add ((a - r.base) / 8))
    ∙ ap (first_by r.kind text) e
word_first r rs text a p h more false w None f = ap (word_by (all_first_words rs text)) (sym f) ∙ more
word_first r rs text a p h more false w (Some i) f =
    ap (λ (m : ℕ). get_or (words_of_region text r ++ all_first_words rs text) (m + i) 0) (sym (length_region text r))
    ∙ get_or-append-add (words_of_region text r) (all_first_words rs text) i 0
    ∙ ap (word_by (all_first_words rs text)) (sym f) ∙ more

all_first : (rs : List Region) (text : List ℕ) (a : ℕ) → All IsPlaced rs → a % 8 ≡ 0 → word_by (all_first_words rs text) (slot_in rs a) ≡ first_in rs text a
all_first [] text a p h = refl
all_first (r ∷ rs) text a p h = word_first r rs text a (All-head IsPlaced r rs p) h (all_first rs text a (All-tail IsPlaced r rs p) h) (is_within r a) refl
    (slot_in rs a) refl

aligned_first : (rs : List Region) (text : List ℕ) (a : ℕ) → All IsPlaced rs → (x : Bool) → is_aligned a ≡ x
    → (if x then word_by (all_first_words rs text) (slot_in rs a) else 0) ≡ (if x then first_in rs text a else 0)
aligned_first rs text a p false e = refl
aligned_first rs text a p true e = all_first rs text a p (eqb-true (a % 8) 0 e)

-- the memory of the words at first
pub memory_at_first : (rs : List Region) (text : List ℕ) → All IsPlaced rs
    → memory (record { regions = rs; words = all_first_words rs text }) ≡ record { regions = rs; words = first_words rs text }
unfolding memory first_words
memory_at_first rs text p = λ t. record { regions = rs; words = λ a. aligned_first rs text a p (is_aligned a) refl t }

canonical_below : (a : ℕ) → is_canonical a ≡ true → a < 2 ^ 64
canonical_below a h = grind (arith, nat_tests)

pub placed : (rs : List Region) (text : List ℕ) → AreRegions rs text → All IsPlaced rs
placed rs text h k d l =
    let r : Region = get_or rs k d in
    (h.aligned k d l, canonical_below (r.base + 8 * r.words) (h.canonical k d l (r.base + 8 * r.words) (omega arith) (omega arith)))

pub are_mapped : (rs kept : List Region) (text other ws : List ℕ) → AreRegions rs text → kept ≡ rs → ws ≡ all_first_words rs other → AreMapped kept ws
are_mapped rs kept text other ws h e g = rw (e, g) (record { whole = length_all rs other; placed = placed rs text h })

pub memory_of : (rs kept : List Region) (text ws : List ℕ) → AreRegions rs text → kept ≡ rs → ws ≡ all_first_words rs text
    → memory (record { regions = kept; words = ws }) ≡ record { regions = rs; words = first_words rs text }
memory_of rs kept text ws h e g = rw (e, g) (memory_at_first rs text (placed rs text h))
