-- The kernel's regions at the opening cover the spans of the address map, so that windows in them are open.
use Rattle.std.proofs.Common.{◌≡◌, ℕ, zero, suc, ◌+◌, ◌-◌, ◌*◌, ◌<◌, ◌≤◌, Bool, true, false, ◌&&◌, List, [], ◌∷◌, ◌++◌, map, length, refl, sym, ap, ◌∙◌, subst, arith, ◌⊎◌, inl, inr, ⊎_elim}
use Rattle.std.specs.Prelude.{nat_lt, nat_le, if◌then◌else◌, flat_map}
use Rattle.std.proofs.lemmas.Bool.{le-leb, lt-ltb, leb-true, leb-false}
use Rattle.ev_isa.specs.Word.{numbers_from}
use Rattle.ev_isa.specs.Pages.{KernelWord, text_base, page_base}
use Rattle.ev_body.specs.declared.image.Image.{Image}
use Rattle.ev_mem.specs.declared.region.Region.{Region}
use Rattle.ev_mem.specs.declared.region.RegionKind.{RegionKind}
use Rattle.ev_mem.specs.declared.region.RegionKind.TheVariants.{Kernel}
use Rattle.ev_mem.specs.Memory.{place_by, place_in, page_map}
use Rattle.ev_listing.specs.AddressMap.{pcpu, user_table, kernel_table, idt_base, cells_base, task_words, stack_top, fred_page, body_code, code_end}
use Rattle.ev_concrete.specs.Opening.{region, stack_regions, regions}
use Rattle.ev_distances.specs.Span.{Areas, Tables, Tasks, Stacks, Span, start, IsCovered}
use Rattle.ev_distances.specs.Regions.{Spans, InKernel, AreKernel}

-- a place in an interval that the kernel's regions cover
pub in_kernel : (rs : List Region) (lo hi a : ℕ) → InKernel rs lo hi → lo ≤ a → a < hi → place_in rs a ≡ KernelWord
in_kernel [] lo hi a h l k = absurd h
in_kernel (r ∷ rs) lo hi a h l k = pick (nat_le r.base a && nat_lt a (r.base + 8 * r.words)) refl (λ t. in_kernel rs lo hi a t l k)
  where
    both : (x y : Bool) → x ≡ true → y ≡ true → (x && y) ≡ true
    both true y p q = q
    both false y p q = p

    here : Spans r lo hi → (nat_le r.base a && nat_lt a (r.base + 8 * r.words)) ≡ true
    here s = let f = s.from in let t = s.to in both _ _ (le-leb r.base a (omega arith)) (lt-ltb a (r.base + 8 * r.words) (omega arith))

    pick : (b : Bool) → (nat_le r.base a && nat_lt a (r.base + 8 * r.words)) ≡ b → (InKernel rs lo hi → place_in rs a ≡ KernelWord)
        → (if b then place_by r.kind else place_in rs a) ≡ KernelWord
    pick true q f = ap place_by h.0
    pick false q f = ⊎_elim (λ s. let clash : true ≡ false = sym (here s) ∙ q in absurd (cc)) (λ t. f t) h.1

behind : (xs ys : List Region) (lo hi : ℕ) → AreKernel xs → InKernel ys lo hi → InKernel (xs ++ ys) lo hi
behind [] ys lo hi h k = k
behind (x ∷ xs) ys lo hi h k = (h.0, inr (behind xs ys lo hi h.1 k))

before : (xs ys : List Region) (lo hi : ℕ) → InKernel xs lo hi → InKernel (xs ++ ys) lo hi
before [] ys lo hi h = absurd h
before (x ∷ xs) ys lo hi h = (h.0, ⊎_elim (λ s. inl s) (λ t. inr (before xs ys lo hi t)) h.1)

-- ---- one region for each number

numbered_kernel : (f : ℕ → Region) → ((i : ℕ) → (f i).kind ≡ Kernel) → (k n : ℕ) → AreKernel (map f (numbers_from k n))
numbered_kernel f h k zero = tt
numbered_kernel f h k (suc n) = (h k, numbered_kernel f h (suc k) n)

first : (k p : ℕ) → k ≤ p → (k ≡ p) ⊎ (suc k ≤ p)
first k p h = pick (nat_le (suc k) p) refl
  where
    pick : (b : Bool) → nat_le (suc k) p ≡ b → (k ≡ p) ⊎ (suc k ≤ p)
    pick true q = inr (leb-true (suc k) p q)
    pick false q = let lt = leb-false (suc k) p q in inl (omega arith)

numbered : (f : ℕ → Region) → ((i : ℕ) → (f i).kind ≡ Kernel) → (k n p lo hi : ℕ) → k ≤ p → p < k + n → Spans (f p) lo hi
    → InKernel (map f (numbers_from k n)) lo hi
numbered f h k zero p lo hi a b s = absurd (omega arith)
numbered f h k (suc n) p lo hi a b s =
    ⊎_elim (λ q. (h k, inl (subst (λ x. Spans (f x) lo hi) (sym q) s))) (λ q. (h k, inr (numbered f h (suc k) n p lo hi q (omega arith) s))) (first k p a)

-- and several for each number
both_kernel : (xs ys : List Region) → AreKernel xs → AreKernel ys → AreKernel (xs ++ ys)
both_kernel [] ys h k = k
both_kernel (x ∷ xs) ys h k = (h.0, both_kernel xs ys h.1 k)

grouped_kernel : (f : ℕ → List Region) → ((i : ℕ) → AreKernel (f i)) → (k n : ℕ) → AreKernel (flat_map f (numbers_from k n))
grouped_kernel f h k zero = tt
grouped_kernel f h k (suc n) = both_kernel (f k) (flat_map f (numbers_from (suc k) n)) (h k) (grouped_kernel f h (suc k) n)

grouped : (f : ℕ → List Region) → ((i : ℕ) → AreKernel (f i)) → (k n p lo hi : ℕ) → k ≤ p → p < k + n → InKernel (f p) lo hi
    → InKernel (flat_map f (numbers_from k n)) lo hi
grouped f h k zero p lo hi a b s = absurd (omega arith)
grouped f h k (suc n) p lo hi a b s = ⊎_elim
    (λ q. before (f k) (flat_map f (numbers_from (suc k) n)) lo hi (subst (λ x. InKernel (f x) lo hi) (sym q) s))
    (λ q. behind (f k) (flat_map f (numbers_from (suc k) n)) lo hi (h k) (grouped f h (suc k) n p lo hi q (omega arith) s)) (first k p a)

-- ---- the regions of the opening

-- those behind the stacks' and the areas'; the types below hold them against the opening's own list
abbrev area_regions : Image → List Region
area_regions image = map (λ p. region (pcpu p) 0x10000 Kernel) (numbers_from 0 image.processors)

abbrev fixed_regions : Image → List Region
fixed_regions image =
    region user_table (8 * 257) Kernel ∷ region kernel_table (8 * 257) Kernel ∷ region idt_base 0x1000 Kernel ∷ region page_map (8 * 257) Kernel
    ∷ region cells_base 0x800 Kernel
    ∷ region (task_words 0 0) (0x100 * image.processors) Kernel ∷ region fred_page (code_end - fred_page) Kernel ∷ region (body_code 0)
    (0x20000 * length image.bodies) Kernel
    ∷ region text_base 0x10000 RegionKind.Text ∷ map (λ i. region (page_base + 0x1000 * i) 0x1000 (RegionKind.Page i)) (numbers_from 0 256)

stacks_kernel : (p : ℕ) → AreKernel (stack_regions p)
stacks_kernel p = numbered_kernel (λ n. region (stack_top p n - 0x2000) 0x2000 Kernel) (λ i. refl) 0 7

covers : (rs : List Region) (s : Span) → InKernel rs (start s) (start s + s.len) → IsCovered rs s
covers rs s h a i = in_kernel rs (start s) (start s + s.len) a h i.from i.to

abbrev all_stacks : Image → List Region
all_stacks image = flat_map stack_regions (numbers_from 0 image.processors)

all_stacks_kernel : (image : Image) → AreKernel (all_stacks image)
all_stacks_kernel image = grouped_kernel stack_regions stacks_kernel 0 image.processors

areas_kernel : (image : Image) → AreKernel (area_regions image)
areas_kernel image = numbered_kernel (λ p. region (pcpu p) 0x10000 Kernel) (λ i. refl) 0 image.processors

-- the upper half of a stack's part is the stack
pub stack_covered : (image : Image) (p n lo len : ℕ) → p < image.processors → n < 7 → 0x2000 ≤ lo → lo + len ≤ 0x4000
    → IsCovered (regions image) (record { part = Stacks; p = p; n = n; lo = lo; len = len })
stack_covered image p n lo len hp hn hl hb =
    let s : Span = record { part = Stacks; p = p; n = n; lo = lo; len = len } in
    let here : Spans (region (stack_top p n - 0x2000) 0x2000 Kernel) (start s) (start s + len) = record { from = omega arith; to = omega arith } in
    covers (regions image) s (before (all_stacks image ++ area_regions image) (fixed_regions image) (start s) (start s + len)
    (before (all_stacks image) (area_regions image) (start s) (start s + len)
    (grouped stack_regions stacks_kernel 0 image.processors p (start s) (start s + len) (omega arith) (omega arith)
    (numbered (λ n. region (stack_top p n - 0x2000) 0x2000 Kernel) (λ i. refl) 0 7 n (start s) (start s + len) (omega arith) (omega arith) here))))

pub area_covered : (image : Image) (p lo len : ℕ) → p < image.processors → lo + len ≤ 0x10000
    → IsCovered (regions image) (record { part = Areas; p = p; n = 0; lo = lo; len = len })
area_covered image p lo len hp hb =
    let s : Span = record { part = Areas; p = p; n = 0; lo = lo; len = len } in
    let here : Spans (region (pcpu p) 0x10000 Kernel) (start s) (start s + len) = record { from = omega arith; to = omega arith } in
    covers (regions image) s (before (all_stacks image ++ area_regions image) (fixed_regions image) (start s) (start s + len)
    (behind (all_stacks image) (area_regions image) (start s) (start s + len) (all_stacks_kernel image)
    (numbered (λ p. region (pcpu p) 0x10000 Kernel) (λ i. refl) 0 image.processors p (start s) (start s + len) (omega arith) (omega arith) here)))

-- behind the regions of stacks and areas
fixed_covered : (image : Image) (s : Span) → InKernel (fixed_regions image) (start s) (start s + s.len) → IsCovered (regions image) s
fixed_covered image s h = covers (regions image) s (behind (all_stacks image ++ area_regions image) (fixed_regions image) (start s) (start s + s.len)
    (both_kernel (all_stacks image) (area_regions image) (all_stacks_kernel image) (areas_kernel image)) h)

abbrev table : ℕ → ℕ → Span
table lo len = record { part = Tables; p = 0; n = 0; lo = lo; len = len }

-- the tables of user and kernel bodies, the IDT, the page map, and the cells
pub user_table_covered : (image : Image) (lo len : ℕ) → lo + len ≤ 0x808 → IsCovered (regions image) (table lo len)
user_table_covered image lo len h = fixed_covered image (table lo len) (refl, inl (record { from = omega arith; to = omega arith }))

pub kernel_table_covered : (image : Image) (lo len : ℕ) → 0x1000 ≤ lo → lo + len ≤ 0x1808 → IsCovered (regions image) (table lo len)
kernel_table_covered image lo len k h = fixed_covered image (table lo len) (refl, inr (refl, inl (record { from = omega arith; to = omega arith })))

pub idt_covered : (image : Image) (lo len : ℕ) → 0x10000 ≤ lo → lo + len ≤ 0x11000 → IsCovered (regions image) (table lo len)
idt_covered image lo len k h = fixed_covered image (table lo len) (refl, inr (refl, inr (refl, inl (record { from = omega arith; to = omega arith }))))

pub page_map_covered : (image : Image) (lo len : ℕ) → 0x20000 ≤ lo → lo + len ≤ 0x20808 → IsCovered (regions image) (table lo len)
page_map_covered image lo len k h =
    fixed_covered image (table lo len) (refl, inr (refl, inr (refl, inr (refl, inl (record { from = omega arith; to = omega arith })))))

pub cells_covered : (image : Image) (lo len : ℕ) → 0x30000 ≤ lo → lo + len ≤ 0x30800 → IsCovered (regions image) (table lo len)
cells_covered image lo len k h =
    fixed_covered image (table lo len) (refl, inr (refl, inr (refl, inr (refl, inr (refl, inl (record { from = omega arith; to = omega arith }))))))

pub task_covered : (image : Image) (p i lo len : ℕ) → p < image.processors → i < 4 → lo + len ≤ 0x40
    → IsCovered (regions image) (record { part = Tasks; p = p; n = i; lo = lo; len = len })
task_covered image p i lo len hp hi h = fixed_covered image (record { part = Tasks; p = p; n = i; lo = lo; len = len })
    (refl, inr (refl, inr (refl, inr (refl, inr (refl, inr (refl, inl (record { from = omega arith; to = omega arith })))))))
