-- For user code the place of an address is the one that the regions give it.
use Rattle.std.proofs.Common.{◌≡◌, ℕ, zero, suc, ◌+◌, ◌-◌, ◌*◌, ◌/◌, ◌^◌, ◌<◌, ◌≤◌, Bool, true, false, ◌&&◌, List, [], ◌∷◌, ◌++◌, map, length, refl, sym, ap, ◌∙◌, arith, ◌⊎◌, inl, inr, ⊎_elim}
use Rattle.std.specs.Prelude.{nat_lt, nat_le, ◌==◌, if◌then◌else◌}
use Rattle.std.proofs.lemmas.Bool.{le-leb, leb-true, ltb-true, leb-false, ltb-false}
use Rattle.ev_isa.specs.Word.{NatSet, numbers_from}
use Rattle.ev_isa.specs.Pages.{Place, Text, Page, KernelWord, Lower, Upper, Access, fault_at, text_base, page_base, place_of, UserMemory}
use Rattle.ev_body.specs.declared.image.Image.{Image}
use Rattle.ev_body.specs.WellFormed.{IsImage}
use Rattle.ev_mem.specs.declared.region.Region.{Region}
use Rattle.ev_mem.specs.declared.region.RegionKind.{RegionKind}
use Rattle.ev_mem.specs.declared.region.RegionKind.TheVariants.{Kernel}
use Rattle.ev_mem.specs.Memory.{Memory, place_by, place_in, present_in, page_map}
use Rattle.ev_listing.specs.AddressMap.{user_table, kernel_table, idt_base, cells_base, task_words, fred_page, body_code, code_end}
use Rattle.ev_symbolic.proofs.Values.{and_left, and_right}
use Rattle.ev_concrete.specs.Opening.{region, regions}
use Rattle.ev_fetch.proofs.Regions.{Each, numbered, IsHigh, area_regions, areas_high, text_place}
use Rattle.ev_user.specs.Sees.{Sees}
use Rattle.ev_user.specs.Claims.{PagesFaultAlike, KernelFaultsAlike}

-- ---- a region and an address

abbrev holds : Region → ℕ → Bool
holds r a = nat_le r.base a && nat_lt a (r.base + 8 * r.words)

-- outside an interval
pub outside_of : (lo hi a : ℕ) → (nat_le lo a && nat_lt a hi) ≡ false → (a < lo) ⊎ (hi ≤ a)
outside_of lo hi a h = pick (nat_le lo a) refl h
  where
    pick : (b : Bool) → nat_le lo a ≡ b → (b && nat_lt a hi) ≡ false → (a < lo) ⊎ (hi ≤ a)
    pick true q k = inr (ltb-false a hi k)
    pick false q k = inl (leb-false lo a q)

abbrev IsApart : ℕ → Region → Type 0
IsApart a r = (a < r.base) ⊎ (r.base + 8 * r.words ≤ a)

-- regions in which an address doesn't lie tell nothing of it
skips : (rs ys : List Region) (a : ℕ) → Each (IsApart a) rs → place_in (rs ++ ys) a ≡ place_in ys a
skips [] ys a h = refl
skips (x ∷ xs) ys a h = pick (holds x a) refl (skips xs ys a h.1)
  where
    pick : (b : Bool) → holds x a ≡ b → place_in (xs ++ ys) a ≡ place_in ys a → (if b then place_by x.kind else place_in (xs ++ ys) a) ≡ place_in ys a
    pick true q k =
        let lo : x.base ≤ a = leb-true x.base a (and_left _ _ q) in
        let hi : a < x.base + 8 * x.words = ltb-true a (x.base + 8 * x.words) (and_right (nat_le x.base a) _ q) in
        absurd (⊎_elim (λ (l : a < x.base). let z : ⊥ = omega arith in z) (λ (l : x.base + 8 * x.words ≤ a). let z : ⊥ = omega arith in z) h.0)
    pick false q k = k

-- every address of the upper half is a word of the kernel, or none
abbrev IsUpper : Place → Type 0
IsUpper z = (z ≡ KernelWord) ⊎ (z ≡ Upper)

uppers : (rs ys : List Region) (a : ℕ) → Each IsHigh rs → IsUpper (place_in ys a) → IsUpper (place_in (rs ++ ys) a)
uppers [] ys a h k = k
uppers (x ∷ xs) ys a h k = pick (holds x a) (uppers xs ys a h.1 k)
  where
    pick : (b : Bool) → IsUpper (place_in (xs ++ ys) a) → IsUpper (if b then place_by x.kind else place_in (xs ++ ys) a)
    pick true q = inl (ap place_by h.0.kind)
    pick false q = q

low_apart : (a : ℕ) (rs : List Region) → a < 2 ^ 63 → Each IsHigh rs → Each (IsApart a) rs
low_apart a [] l h = tt
low_apart a (r ∷ rs) l h = (inl (let f = h.0.from in omega arith), low_apart a rs l h.1)

-- ---- the regions of the opening

abbrev table_regions : Image → List Region
table_regions image =
    region user_table (8 * 257) Kernel ∷ region kernel_table (8 * 257) Kernel ∷ region idt_base 0x1000 Kernel ∷ region page_map (8 * 257) Kernel
    ∷ region cells_base 0x800 Kernel ∷ region (task_words 0 0) (0x100 * image.processors) Kernel
    ∷ region fred_page (code_end - fred_page) Kernel ∷ region (body_code 0) (0x20000 * length image.bodies) Kernel ∷ []

abbrev page_region : ℕ → Region
page_region i = region (page_base + 0x1000 * i) 0x1000 (RegionKind.Page i)

abbrev text_region : Region
text_region = region text_base 0x10000 RegionKind.Text

abbrev page_regions : List Region
page_regions = map page_region (numbers_from 0 256)

abbrev user_regions : List Region
user_regions = text_region ∷ page_regions

as_listed : (image : Image) → area_regions image ++ (table_regions image ++ user_regions) ≡ regions image
as_listed image = refl

abbrev as_high : (base bytes : ℕ) → 0xffff800000000000 ≤ base → base + 8 * (bytes / 8) ≤ 0xfffffffff0000000 → IsHigh (region base bytes Kernel)
as_high base bytes h k = record { from = h; to = k; kind = refl }

tables_high : (image : Image) → IsImage image → Each IsHigh (table_regions image)
tables_high image is =
    let few = is.count.1 in
    let bodies = is.bodies_given.0 in (
      as_high user_table (8 * 257) (omega arith) (omega arith),
      (
        as_high kernel_table (8 * 257) (omega arith) (omega arith),
        (
          as_high idt_base 0x1000 (omega arith) (omega arith),
          (
            as_high page_map (8 * 257) (omega arith) (omega arith),
            (
              as_high cells_base 0x800 (omega arith) (omega arith),
              (
                as_high (task_words 0 0) (0x100 * image.processors) (omega arith) (omega arith),
                (
                  as_high fred_page (code_end - fred_page) (omega arith) (omega arith),
                  (as_high (body_code 0) (0x20000 * length image.bodies) (omega arith) (omega arith), tt),
                ),
              ),
            ),
          ),
        ),
      ),
    )

-- ---- pages

in_pages : (k n a : ℕ) → page_base + 0x1000 * k ≤ a → a < page_base + 0x1000 * (k + n)
    → place_in (map page_region (numbers_from k n)) a ≡ Page ((a - page_base) / 0x1000)
in_pages k zero a h l = absurd (omega arith)
in_pages k (suc n) a h l =
    ap (λ b. if b && nat_lt a (page_base + 0x1000 * k + 8 * (0x1000 / 8)) then Page k else place_in (map page_region (numbers_from (suc k) n)) a)
    (le-leb (page_base + 0x1000 * k) a h)
    ∙ pick (nat_lt a (page_base + 0x1000 * k + 8 * (0x1000 / 8))) refl (λ r. in_pages (suc k) n a r (omega arith))
  where
    pick : (b : Bool) → nat_lt a (page_base + 0x1000 * k + 8 * (0x1000 / 8)) ≡ b
        → (page_base + 0x1000 * suc k ≤ a → place_in (map page_region (numbers_from (suc k) n)) a ≡ Page ((a - page_base) / 0x1000))
        → (if b then Page k else place_in (map page_region (numbers_from (suc k) n)) a) ≡ Page ((a - page_base) / 0x1000)
    pick true q f = let l : a < page_base + 0x1000 * k + 8 * (0x1000 / 8) = ltb-true _ _ q in ap Page (let e : k ≡ (a - page_base) / 0x1000 = omega arith in e)
    pick false q f = let l : page_base + 0x1000 * k + 8 * (0x1000 / 8) ≤ a = ltb-false _ _ q in f (omega arith)

pages_apart : (a : ℕ) → (a < page_base) ⊎ (page_base + 0x1000 * 256 ≤ a) → Each (IsApart a) page_regions
pages_apart a h =
    numbered (IsApart a) page_region 0 256
    (λ i k. ⊎_elim (λ (l : a < page_base). inl (let z : a < page_base + 0x1000 * i = omega arith in z))
    (λ (l : page_base + 0x1000 * 256 ≤ a). inr (let z : page_base + 0x1000 * i + 8 * (0x1000 / 8) ≤ a = omega arith in z)) h)

-- ---- places

-- an address of the lower half is in no region of the kernel
to_users : (image : Image) (a : ℕ) → IsImage image → a < 2 ^ 63 → place_in (regions image) a ≡ place_in user_regions a
to_users image a is l =
    skips (area_regions image) (table_regions image ++ user_regions) a (low_apart a (area_regions image) l (areas_high image is))
    ∙ skips (table_regions image) user_regions a (low_apart a (table_regions image) l (tables_high image is))

abbrev half : ℕ → Place
half a = if nat_lt a (2 ^ 63) then Lower else Upper

no_user : (a : ℕ) → (a < text_base) ⊎ (text_base + 0x10000 ≤ a) → (a < page_base) ⊎ (page_base + 0x1000 * 256 ≤ a) → place_in user_regions a ≡ half a
no_user a h k = skips (text_region ∷ []) page_regions a (h, tt) ∙ skips page_regions [] a (pages_apart a k)

-- the same place; or both are in the upper half, where user code has no access
pub data Looks (image : Image) (a : ℕ) : Type 0 where
  Same : place_in (regions image) a ≡ place_of a → Looks image a
  Above : IsUpper (place_in (regions image) a) → place_of a ≡ Upper → Looks image a

pub looks : (image : Image) → IsImage image → (a : ℕ) → Looks image a
unfolding place_of
looks image is a =
    pick (nat_le text_base a && nat_lt a (text_base + 0x10000)) (nat_le page_base a && nat_lt a (page_base + 0x1000 * 256))
    (nat_lt a (2 ^ 63)) refl refl refl
  where
    by : Bool → Bool → Bool → Place
    by x y z = if x then Text else (if y then Page ((a - page_base) / 0x1000) else (if z then Lower else Upper))

    neither : (nat_le text_base a && nat_lt a (text_base + 0x10000)) ≡ false → (nat_le page_base a && nat_lt a (page_base + 0x1000 * 256)) ≡ false
        → place_in user_regions a ≡ half a
    neither hx hy = no_user a (outside_of text_base (text_base + 0x10000) a hx) (outside_of page_base (page_base + 0x1000 * 256) a hy)

    pick : (x y z : Bool) → (nat_le text_base a && nat_lt a (text_base + 0x10000)) ≡ x → (nat_le page_base a && nat_lt a (page_base + 0x1000 * 256)) ≡ y
        → nat_lt a (2 ^ 63) ≡ z → Looks image a
    pick true y z hx hy hz =
        let lo : text_base ≤ a = leb-true text_base a (and_left _ _ hx) in
        let hi : a < text_base + 0x10000 = ltb-true a (text_base + 0x10000) (and_right (nat_le text_base a) _ hx) in
        let there : place_of a ≡ Text = (λ i. by (hx i) (hy i) (hz i)) in
        Same (text_place image a is lo hi ∙ sym there)
    pick false true z hx hy hz =
        let lo : page_base ≤ a = leb-true page_base a (and_left _ _ hy) in
        let hi : a < page_base + 0x1000 * 256 = ltb-true a (page_base + 0x1000 * 256) (and_right (nat_le page_base a) _ hy) in
        let there : place_of a ≡ Page ((a - page_base) / 0x1000) = (λ i. by (hx i) (hy i) (hz i)) in
        Same (to_users image a is (omega arith) ∙ skips (text_region ∷ []) page_regions a (outside_of text_base (text_base + 0x10000) a hx, tt)
        ∙ in_pages 0 256 a (omega arith) (omega arith) ∙ sym there)
    pick false false true hx hy hz =
        let there : place_of a ≡ Lower = (λ i. by (hx i) (hy i) (hz i)) in
        Same (to_users image a is (ltb-true a (2 ^ 63) hz) ∙ neither hx hy ∙ ap (λ b. if b then Lower else Upper) hz ∙ sym there)
    pick false false false hx hy hz =
        let there : place_of a ≡ Upper = (λ i. by (hx i) (hy i) (hz i)) in
        let none : place_in user_regions a ≡ Upper = neither hx hy ∙ ap (λ b. if b then Lower else Upper) hz in
        Above (uppers (area_regions image) (table_regions image ++ user_regions) a (areas_high image is)
        (uppers (table_regions image) user_regions a (tables_high image is) (inr none))) there

-- ---- the page map

is_present : (image : Image) (u : UserMemory) (m : Memory) → Sees image u m → (i : ℕ) → i < 256 → present_in m i ≡ u.present i
is_present image u m s i l = ap (λ w. w == 1) (s.pages i l) ∙ pick (u.present i)
  where
    pick : (b : Bool) → ((if b then 1 else 0) == 1) ≡ b
    pick true = refl
    pick false = refl

abbrev access : Bool → Bool → Access
access write fetch = record { user = true; write = write; fetch = fetch }

-- a page rule asks of its own page alone
same_rule : (s t : NatSet) (x : Access) (z : Place) → ((i : ℕ) → z ≡ Page i → s i ≡ t i) → fault_at s x z ≡ fault_at t x z
unfolding fault_at
same_rule s t x Text h = refl
same_rule s t x (Page i) h = ap (λ b. fault_at (λ k. b) x (Page i)) (h i refl)
same_rule s t x KernelWord h = refl
same_rule s t x Lower h = refl
same_rule s t x Upper h = refl

-- a number of a page is below 256
small_page : (a i : ℕ) → place_of a ≡ Page i → i < 256
unfolding place_of
small_page a i h =
    pick (nat_le text_base a && nat_lt a (text_base + 0x10000)) (nat_le page_base a && nat_lt a (page_base + 0x1000 * 256))
    (nat_lt a (2 ^ 63)) refl h
  where
    pick : (x y z : Bool) → (nat_le page_base a && nat_lt a (page_base + 0x1000 * 256)) ≡ y
        → (if x then Text else (if y then Page ((a - page_base) / 0x1000) else (if z then Lower else Upper))) ≡ Page i → i < 256
    pick true y z hy k = absurd (cc)
    pick false true z hy k =
        let hi : a < page_base + 0x1000 * 256 = ltb-true a (page_base + 0x1000 * 256) (and_right (nat_le page_base a) _ hy) in
        let e : (a - page_base) / 0x1000 ≡ i = cc in
        omega arith
    pick false false true hy k = absurd (cc)
    pick false false false hy k = absurd (cc)

-- user code has no access to the upper half
no_access : (s t : NatSet) (write fetch : Bool) (z : Place) → IsUpper z → fault_at s (access write fetch) z ≡ fault_at t (access write fetch) Upper
unfolding fault_at
no_access s t write fetch z h =
    ⊎_elim (λ (e : z ≡ KernelWord). ap (fault_at s (access write fetch)) e) (λ (e : z ≡ Upper). ap (fault_at s (access write fetch)) e) h

pub pages_fault_alike : PagesFaultAlike
pages_fault_alike image u m is s write fetch a =
    ap (λ rs. fault_at (present_in m) (access write fetch) (place_in rs a)) s.regions_are ∙ pick (looks image is a)
  where
    pick : Looks image a → fault_at (present_in m) (access write fetch) (place_in (regions image) a) ≡ fault_at u.present (access write fetch) (place_of a)
    pick (Same e) = ap (fault_at (present_in m) (access write fetch)) e
        ∙ same_rule (present_in m) u.present (access write fetch) (place_of a) (λ i k. is_present image u m s i (small_page a i k))
    pick (Above e k) = no_access (present_in m) u.present write fetch (place_in (regions image) a) e ∙ ap (fault_at u.present (access write fetch)) (sym k)

-- an address of the lower half isn't in the upper one
not_upper : (a : ℕ) → a < 2 ^ 63 → place_of a ≡ Upper → ⊥
unfolding place_of
not_upper a l h =
    pick (nat_le text_base a && nat_lt a (text_base + 0x10000)) (nat_le page_base a && nat_lt a (page_base + 0x1000 * 256)) (nat_lt a (2 ^ 63)) refl h
  where
    pick : (x y z : Bool) → nat_lt a (2 ^ 63) ≡ z
        → (if x then Text else (if y then Page ((a - page_base) / 0x1000) else (if z then Lower else Upper))) ≡ Upper → ⊥
    pick true y z hz k = absurd (cc)
    pick false true z hz k = absurd (cc)
    pick false false true hz k = absurd (cc)
    pick false false false hz k = let high = ltb-false a (2 ^ 63) hz in omega arith

-- so the regions give it the place that it has
lower_place : (image : Image) (a : ℕ) → a < 2 ^ 63 → Looks image a → place_in (regions image) a ≡ place_of a
lower_place image a l (Same e) = e
lower_place image a l (Above h e) = absurd (not_upper a l e)

pub kernel_faults_alike : KernelFaultsAlike
kernel_faults_alike image u m is s write a l =
    ap (λ rs. fault_at (present_in m) (record { user = false; write = write; fetch = false }) (place_in rs a)) s.regions_are
    ∙ ap (fault_at (present_in m) (record { user = false; write = write; fetch = false })) (lower_place image a l (looks image is a))
    ∙ same_rule (present_in m) u.present (record { user = false; write = write; fetch = false }) (place_of a)
    (λ i k. is_present image u m s i (small_page a i k))
