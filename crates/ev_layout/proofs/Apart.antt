-- What the regions of an image keep.
use Rattle.std.proofs.Common.{◌≡◌, ℕ, ◌+◌, ◌-◌, ◌*◌, ◌/◌, ◌%◌, ◌^◌, ◌<◌, ◌≤◌, ◌⊎◌, ⊎_elim, inl, inr, Bool, true, false, ◌&&◌, ◌==◌, List, [], ◌∷◌, ◌++◌, length, refl, sym, ap, ◌∙◌, arith, eqb-true, subst, length-append}
use Rattle.std.specs.Prelude.{nat_lt, nat_le, ◌||◌, count_by, Any, if◌then◌else◌}
use Rattle.std.specs.List.{list_all}
use Rattle.std.proofs.lemmas.Bool.{leb-true, ltb-true}
use Rattle.std.proofs.lemmas.List.{get_or-append-add}
use Rattle.std.proofs.lemmas.List.Sums.{sum_by-append, sum_by-cons}
use Rattle.ev_isa.specs.Word.{is_canonical}
use Rattle.ev_body.specs.declared.image.Image.{Image}
use Rattle.ev_body.specs.WellFormed.{IsImage}
use Rattle.ev_mem.specs.declared.region.Region.{Region}
use Rattle.ev_mem.specs.declared.region.RegionKind.{RegionKind}
use Rattle.ev_mem.specs.declared.region.RegionKind.TheVariants.{Text, Page, Kernel}
use Rattle.ev_mem.specs.Memory.{page_map}
use Rattle.ev_mem.specs.Conditions.{AreApart, IsCanonicalRegion, IsInHalf, HasPageNumber, HoldsPageMap, is_text, words_of_text, AreRegions}
use Rattle.ev_concrete.specs.Opening.{region, regions}
use Rattle.ev_layout.proofs.Listed.{user_regions}
use Rattle.ev_layout.proofs.Among.{IsPart, AreOf, each_some, EachApart, apart_some, as_all, as_apart, split, each_by, front, fixed, regions_by, all_some}

either : (x y : Bool) → (x || y) ≡ true → (x ≡ true) ⊎ (y ≡ true)
either true y h = inl refl
either false y h = inr h

-- ---- apart

abbrev is_apart : Region → Region → Bool
is_apart r s = nat_le (r.base + 8 * r.words) s.base || nat_le (s.base + 8 * s.words) r.base

abbrev are_apart : List Region → Bool
are_apart [] = true
are_apart (r ∷ rs) = list_all (is_apart r) rs && are_apart rs

apart_by : (r s : Region) → is_apart r s ≡ true → AreApart r s
apart_by r s h = ⊎_elim (λ k. inl (leb-true _ _ k)) (λ k. inr (leb-true _ _ k)) (either (nat_le (r.base + 8 * r.words) s.base) _ h)

all_apart : (rs : List Region) → are_apart rs ≡ true → EachApart rs
all_apart [] h = tt
all_apart (r ∷ rs) h = let s = split (list_all (is_apart r) rs) (are_apart rs) h in (each_by (AreApart r) (is_apart r) (apart_by r) rs s.0, all_apart rs s.1)

most_apart : are_apart (regions_by 8 64) ≡ true
most_apart = refl

-- ---- canonical

abbrev is_canonical_region : Region → Bool
is_canonical_region r = nat_lt (r.base + 8 * r.words) (2 ^ 47) || (nat_le (2 ^ 64 - 2 ^ 47) r.base && nat_lt (r.base + 8 * r.words) (2 ^ 64))

pub low_canonical : (a : ℕ) → a < 2 ^ 47 → is_canonical a ≡ true
low_canonical a h = let e : a / 2 ^ 47 ≡ 0 = omega arith in rw e refl

high_canonical : (a : ℕ) → 2 ^ 64 - 2 ^ 47 ≤ a → a < 2 ^ 64 → is_canonical a ≡ true
high_canonical a h k = let e : a / 2 ^ 47 ≡ 131071 = omega arith in rw e refl

canonical_by : (r : Region) → is_canonical_region r ≡ true → IsCanonicalRegion r
canonical_by r h = ⊎_elim
    (λ k. let u = ltb-true _ _ k in λ a l g. low_canonical a (omega arith))
    (λ k. let s = split (nat_le (2 ^ 64 - 2 ^ 47) r.base) _ k in let u = leb-true _ _ s.0 in let v = ltb-true _ _ s.1 in
    λ a l g. high_canonical a (omega arith) (omega arith))
    (either (nat_lt (r.base + 8 * r.words) (2 ^ 47)) _ h)

canonical_part : (r s : Region) → IsPart r s → IsCanonicalRegion s → IsCanonicalRegion r
canonical_part r s p h = let e = p.base in let l = p.words in λ a g k. h a (omega arith) (omega arith)

most_canonical : list_all is_canonical_region (regions_by 8 64) ≡ true
most_canonical = refl

-- ---- halves and numbers

abbrev is_in_half : RegionKind → ℕ → ℕ → Bool
is_in_half Kernel base end = nat_le (2 ^ 63) base
is_in_half Text base end = nat_le end (2 ^ 63)
is_in_half (Page i) base end = nat_le end (2 ^ 63)

half_by : (k : RegionKind) (base end : ℕ) → is_in_half k base end ≡ true → IsInHalf k base end
half_by Kernel base end h = leb-true _ _ h
half_by Text base end h = leb-true _ _ h
half_by (Page i) base end h = leb-true _ _ h

half_less : (k : RegionKind) (base end less : ℕ) → less ≤ end → IsInHalf k base end → IsInHalf k base less
half_less Kernel base end less l h = h
half_less Text base end less l h = omega arith
half_less (Page i) base end less l h = omega arith

half_part : (r s : Region) → IsPart r s → IsInHalf s.kind s.base (s.base + 8 * s.words) → IsInHalf r.kind r.base (r.base + 8 * r.words)
half_part r s p h =
    let b = p.base in
    let l = p.words in
    subst (λ (k : RegionKind). IsInHalf k r.base (r.base + 8 * r.words)) (sym p.kind)
    (subst (λ (x : ℕ). IsInHalf s.kind x (r.base + 8 * r.words)) (sym b)
    (half_less s.kind s.base (s.base + 8 * s.words) (r.base + 8 * r.words) (omega arith) h))

abbrev has_number : RegionKind → Bool
has_number Kernel = true
has_number Text = true
has_number (Page i) = nat_lt i 256

number_by : (k : RegionKind) → has_number k ≡ true → HasPageNumber k
number_by Kernel h = tt
number_by Text h = tt
number_by (Page i) h = ltb-true _ _ h

most_aligned : list_all (λ (r : Region). r.base % 8 == 0) (regions_by 8 64) ≡ true
most_aligned = refl

most_in_half : list_all (λ (r : Region). is_in_half r.kind r.base (r.base + 8 * r.words)) (regions_by 8 64) ≡ true
most_in_half = refl

most_numbers : list_all (λ (r : Region). has_number r.kind) (regions_by 8 64) ≡ true
most_numbers = refl

-- ---- text and the page map

abbrev one_if : RegionKind → ℕ
one_if k = if is_text k then 1 else 0

count_part : (r s : Region) → IsPart r s → one_if r.kind ≡ one_if s.kind
count_part r s p = ap one_if p.kind

abbrev texts : List Region → ℕ
texts rs = count_by (λ (r : Region). is_text r.kind) rs

one_more : (r : Region) (rs : List Region) → texts (r ∷ rs) ≡ one_if r.kind + texts rs
one_more r rs = sum_by-cons (λ (s : Region). if is_text s.kind then 1 else 0) r rs

count_some : (rs ss : List Region) → AreOf rs ss → texts rs ≤ texts ss
count_some [] ss h = omega arith
count_some (r ∷ rs) [] h = absurd h
count_some (r ∷ rs) (s ∷ ss) h = ⊎_elim
    (λ l. omega (arith, one_more r rs, one_more s ss, count_part r s l.0, count_some rs ss l.1))
    (λ k. omega (arith, one_more s ss, count_some (r ∷ rs) ss k)) h

most_count : count_by (λ (r : Region). is_text r.kind) (regions_by 8 64) ≡ 1
most_count = refl

fixed_words : (p n : ℕ) → words_of_text (fixed p n ++ user_regions) ≡ 8192
fixed_words p n = refl

page_map_there : (p n : ℕ) → Any HoldsPageMap (regions_by p n)
page_map_there p n =
    let ys : List Region = fixed p n ++ user_regions in
    let r : Region = region page_map (8 * 257) Kernel in
    (length (front p) + 3, r, omega (arith, length-append (front p) ys), get_or-append-add (front p) ys 3 r, (refl, omega arith, refl))

by_are : (p n : ℕ) (text : List ℕ) → p ≤ 8 → n ≤ 64 → length text ≤ 65536 → AreRegions (regions_by p n) text
by_are p n text hp hn t =
    let most : List Region = regions_by 8 64 in
    let these : List Region = regions_by p n in
    let s = all_some p n hp hn in
    let words = sum_by-append (λ (r : Region). if is_text r.kind then r.words else 0) (front p) (fixed p n ++ user_regions) in
    record {
      apart = as_apart these (apart_some these most s (all_apart most most_apart));
      one_text = omega (arith, most_count, count_some these most s);
      aligned = as_all (λ (r : Region). r.base % 8 ≡ 0) these (each_some (λ (r : Region). r.base % 8 ≡ 0) (λ r q k h. ap (λ (x : ℕ). x % 8) k.base ∙ h) these
          most s (each_by (λ (r : Region). r.base % 8 ≡ 0) (λ (r : Region). r.base % 8 == 0) (λ r k. eqb-true (r.base % 8) 0 k) most most_aligned));
      canonical = as_all IsCanonicalRegion these (each_some IsCanonicalRegion canonical_part these most s
          (each_by IsCanonicalRegion is_canonical_region canonical_by most most_canonical));
      in_half = as_all (λ (r : Region). IsInHalf r.kind r.base (r.base + 8 * r.words)) these
          (each_some (λ (r : Region). IsInHalf r.kind r.base (r.base + 8 * r.words)) half_part these most s
          (each_by (λ (r : Region). IsInHalf r.kind r.base (r.base + 8 * r.words)) (λ (r : Region). is_in_half r.kind r.base (r.base + 8 * r.words))
          (λ r k. half_by r.kind r.base (r.base + 8 * r.words) k) most most_in_half));
      page_numbers = as_all (λ (r : Region). HasPageNumber r.kind) these (each_some (λ (r : Region). HasPageNumber r.kind)
          (λ r q k h. subst HasPageNumber (sym k.kind) h) these most s
          (each_by (λ (r : Region). HasPageNumber r.kind) (λ (r : Region). has_number r.kind) (λ r k. number_by r.kind k) most most_numbers));
      page_map_held = λ k. page_map_there p n;
      text_fits = omega (arith, words, fixed_words p n);
    }

pub are_regions : (image : Image) → IsImage image → AreRegions (regions image) image.text
are_regions image is = let p = is.count.1 in let n = is.bodies_given.0 in let t = is.text_fits in
    by_are image.processors (length image.bodies) image.text p n (omega arith)
