-- The regions of an image are some of those of the largest image, in their order, each as it is there or shorter.
use Rattle.std.proofs.Common.{◌≡◌, ℕ, zero, suc, ◌-◌, ◌*◌, ◌≤◌, ◌⊎◌, inl, inr, ⊎_elim, Bool, true, false, List, [], ◌∷◌, ◌++◌, All, refl, arith}
use Rattle.std.specs.Prelude.{flat_map, map, ◌&&◌}
use Rattle.std.specs.List.{list_all}
use Rattle.std.proofs.lemmas.List.Elements.{All-cons}
use Rattle.ev_isa.specs.Word.{numbers_from}
use Rattle.ev_mem.specs.declared.region.Region.{Region}
use Rattle.ev_mem.specs.declared.region.RegionKind.TheVariants.{Kernel}
use Rattle.ev_mem.specs.Memory.{page_map}
use Rattle.ev_mem.specs.Conditions.{AreApart, AllApart}
use Rattle.ev_listing.specs.AddressMap.{user_table, kernel_table, idt_base, cells_base, task_words, fred_page, code_end, body_code}
use Rattle.ev_concrete.specs.Opening.{region, stack_regions}
use Rattle.ev_fetch.proofs.Regions.{Each}
use Rattle.ev_layout.proofs.Listed.{areas, user_regions}

-- ---- some of a list's regions

pub record IsPart (r s : Region) : Type 0 where
  pub base : r.base ≡ s.base
  pub words : r.words ≤ s.words
  pub kind : r.kind ≡ s.kind

abbrev pub AreOf : List Region → List Region → Type 0
AreOf [] ss = Unit {0}
AreOf (r ∷ rs) [] = ⊥
AreOf (r ∷ rs) (s ∷ ss) = (IsPart r s × AreOf rs ss) ⊎ AreOf (r ∷ rs) ss

whole : (r : Region) → IsPart r r
whole r = record { base = refl; words = omega arith; kind = refl }

pub same : (rs : List Region) → AreOf rs rs
same [] = tt
same (r ∷ rs) = inl (whole r, same rs)

skip : (qs rs ss : List Region) → AreOf rs ss → AreOf rs (qs ++ ss)
skip [] rs ss h = h
skip (q ∷ qs) [] ss h = tt
skip (q ∷ qs) (r ∷ rs) ss h = inr (skip qs (r ∷ rs) ss h)

pub join : (qs ps rs ss : List Region) → AreOf qs ps → AreOf rs ss → AreOf (qs ++ rs) (ps ++ ss)
join [] ps rs ss h k = skip ps rs ss k
join (q ∷ qs) [] rs ss h k = absurd h
join (q ∷ qs) (p ∷ ps) rs ss h k = ⊎_elim (λ l. inl (l.0, join qs ps rs ss l.1 k)) (λ r. inr (join (q ∷ qs) ps rs ss r k)) h

pub grouped : (f : ℕ → List Region) (k n m : ℕ) → n ≤ m → AreOf (flat_map f (numbers_from k n)) (flat_map f (numbers_from k m))
grouped f k zero m h = tt
grouped f k (suc n) zero h = absurd (omega arith)
grouped f k (suc n) (suc m) h =
    join (f k) (f k) (flat_map f (numbers_from (suc k) n)) (flat_map f (numbers_from (suc k) m)) (same (f k)) (grouped f (suc k) n m (omega arith))

pub numbered : (f : ℕ → Region) (k n m : ℕ) → n ≤ m → AreOf (map f (numbers_from k n)) (map f (numbers_from k m))
numbered f k zero m h = tt
numbered f k (suc n) zero h = absurd (omega arith)
numbered f k (suc n) (suc m) h = inl (whole (f k), numbered f (suc k) n m (omega arith))

-- ---- what holds of all holds of some of them

pub each_some : (P : Region → Type 0) → ((r s : Region) → IsPart r s → P s → P r) → (rs ss : List Region) → AreOf rs ss → Each P ss → Each P rs
each_some P f [] ss h e = tt
each_some P f (r ∷ rs) [] h e = absurd h
each_some P f (r ∷ rs) (s ∷ ss) h e = ⊎_elim (λ l. (f r s l.0 e.0, each_some P f rs ss l.1 e.1)) (λ k. each_some P f (r ∷ rs) ss k e.1) h

pub each_map : (P Q : Region → Type 0) → ((r : Region) → P r → Q r) → (rs : List Region) → Each P rs → Each Q rs
each_map P Q f [] h = tt
each_map P Q f (r ∷ rs) h = (f r h.0, each_map P Q f rs h.1)

abbrev pub EachApart : List Region → Type 0
EachApart [] = Unit {0}
EachApart (r ∷ rs) = Each (AreApart r) rs × EachApart rs

shorter_behind : (x r s : Region) → IsPart r s → AreApart x s → AreApart x r
shorter_behind x r s p h = let e = p.base in let l = p.words in ⊎_elim (λ k. inl (omega arith)) (λ k. inr (omega arith)) h

shorter_before : (x r s : Region) → IsPart r s → AreApart s x → AreApart r x
shorter_before x r s p h = let e = p.base in let l = p.words in ⊎_elim (λ k. inl (omega arith)) (λ k. inr (omega arith)) h

pub apart_some : (rs ss : List Region) → AreOf rs ss → EachApart ss → EachApart rs
apart_some [] ss h e = tt
apart_some (r ∷ rs) [] h e = absurd h
apart_some (r ∷ rs) (s ∷ ss) h e = ⊎_elim
    (λ l. (
      each_some (AreApart r) (shorter_behind r) rs ss l.1 (each_map (AreApart s) (AreApart r) (λ x. shorter_before x r s l.0) ss e.0),
      apart_some rs ss l.1 e.1,
    ))
    (λ k. apart_some (r ∷ rs) ss k e.1) h

-- ---- from one form of lists to another

pub as_all : {X : Type 0} (P : X → Type 0) (xs : List X) → Each P xs → All P xs
as_all P [] h = λ k d l. absurd (omega arith)
as_all P (x ∷ xs) h = All-cons P x xs h.0 (as_all P xs h.1)

pub as_apart : (rs : List Region) → EachApart rs → AllApart rs
as_apart [] h = tt
as_apart (r ∷ rs) h = (as_all (AreApart r) rs h.0, as_apart rs h.1)

pub split : (x y : Bool) → (x && y) ≡ true → (x ≡ true) × (y ≡ true)
split true y h = (refl, h)
split false y h = absurd cc

pub each_by : {X : Type 0} (P : X → Type 0) (t : X → Bool) → ((x : X) → t x ≡ true → P x) → (xs : List X) → list_all t xs ≡ true → Each P xs
each_by P t f [] h = tt
each_by P t f (x ∷ xs) h = let s = split (t x) (list_all t xs) h in (f x s.0, each_by P t f xs s.1)

-- ---- the regions of so many processors and bodies

abbrev pub front : ℕ → List Region
front p = flat_map stack_regions (numbers_from 0 p) ++ areas p

abbrev pub fixed : ℕ → ℕ → List Region
fixed p n =
    region user_table (8 * 257) Kernel ∷ region kernel_table (8 * 257) Kernel ∷ region idt_base 0x1000 Kernel ∷ region page_map (8 * 257) Kernel
    ∷ region cells_base 0x800 Kernel ∷ region (task_words 0 0) (0x100 * p) Kernel ∷ region fred_page (code_end - fred_page) Kernel ∷ region (body_code 0)
    (0x20000 * n) Kernel ∷ []

-- those of the kernel, and all
abbrev pub kernel_regions : ℕ → ℕ → List Region
kernel_regions p n = front p ++ fixed p n

abbrev pub regions_by : ℕ → ℕ → List Region
regions_by p n = front p ++ (fixed p n ++ user_regions)

front_some : (p : ℕ) → p ≤ 8 → AreOf (front p) (front 8)
front_some p h =
    join (flat_map stack_regions (numbers_from 0 p)) (flat_map stack_regions (numbers_from 0 8)) (areas p) (areas 8) (grouped stack_regions 0 p 8 h)
    (numbered _ 0 p 8 h)

fixed_some : (p n : ℕ) → p ≤ 8 → n ≤ 64 → AreOf (fixed p n) (fixed 8 64)
fixed_some p n h k =
    inl (
      whole _,
      inl (
        whole _,
        inl (
          whole _,
          inl (
            whole _,
            inl (
              whole _,
              inl (
                record { base = refl; words = omega arith; kind = refl },
                inl (
                  whole _,
                  inl (record { base = refl; words = omega arith; kind = refl }, tt),
                ),
              ),
            ),
          ),
        ),
      ),
    )

pub kernel_some : (p n : ℕ) → p ≤ 8 → n ≤ 64 → AreOf (kernel_regions p n) (kernel_regions 8 64)
kernel_some p n h k = join (front p) (front 8) (fixed p n) (fixed 8 64) (front_some p h) (fixed_some p n h k)

pub all_some : (p n : ℕ) → p ≤ 8 → n ≤ 64 → AreOf (regions_by p n) (regions_by 8 64)
all_some p n h k =
    join (front p) (front 8) (fixed p n ++ user_regions) (fixed 8 64 ++ user_regions) (front_some p h)
    (join (fixed p n) (fixed 8 64) user_regions user_regions (fixed_some p n h k) (same user_regions))
