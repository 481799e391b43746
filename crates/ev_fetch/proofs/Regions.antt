-- Where the regions of the opening lie, and which place an address of code or text has.
use Rattle.std.proofs.Common.{◌≡◌, ℕ, zero, suc, ◌+◌, ◌-◌, ◌*◌, ◌^◌, ◌<◌, ◌≤◌, Bool, true, false, ◌&&◌, List, [], ◌∷◌, ◌++◌, map, length, get_or, None, refl, ap, ◌∙◌, arith, ◌⊎◌, inl, inr, ⊎_elim}
use Rattle.std.specs.Prelude.{nat_lt, nat_le, if◌then◌else◌, flat_map}
use Rattle.std.specs.List.{list_all}
use Rattle.std.proofs.lemmas.Bool.{le-leb, lt-ltb, leb-true, ltb-true}
use Rattle.ev_isa.specs.Word.{NatSet, numbers_from}
use Rattle.ev_isa.specs.Pages.{Place, Text, KernelWord, Access, fault_at, text_base, page_base}
use Rattle.ev_body.specs.declared.image.Image.{Image}
use Rattle.ev_body.specs.WellFormed.{IsImage}
use Rattle.ev_mem.specs.declared.region.Region.{Region}
use Rattle.ev_mem.specs.declared.region.RegionKind.{RegionKind}
use Rattle.ev_mem.specs.declared.region.RegionKind.TheVariants.{Kernel}
use Rattle.ev_mem.specs.Memory.{place_by, place_in, page_map}
use Rattle.ev_listing.specs.AddressMap.{pcpu, user_table, kernel_table, idt_base, cells_base, task_words, stack_top, fred_page, body_code, code_end}
use Rattle.ev_symbolic.proofs.Values.{and_left, and_right}
use Rattle.ev_concrete.specs.Opening.{region, stack_regions, regions}

-- ---- lists

abbrev pub Each : {X : Type 0} → (X → Type 0) → List X → Type 0
Each P [] = Unit {0}
Each P (x ∷ xs) = P x × Each P xs

pub each_append : {X : Type 0} (P : X → Type 0) (xs ys : List X) → Each P xs → Each P ys → Each P (xs ++ ys)
each_append P [] ys h k = k
each_append P (x ∷ xs) ys h k = (h.0, each_append P xs ys h.1 k)

pub numbered : {X : Type 0} (P : X → Type 0) (f : ℕ → X) (k n : ℕ) → ((i : ℕ) → i < k + n → P (f i)) → Each P (map f (numbers_from k n))
numbered P f k zero h = tt
numbered P f k (suc n) h = (h k (omega arith), numbered P f (suc k) n (λ i l. h i (omega arith)))

pub grouped : {X : Type 0} (P : X → Type 0) (f : ℕ → List X) (k n : ℕ) → ((i : ℕ) → i < k + n → Each P (f i)) → Each P (flat_map f (numbers_from k n))
grouped P f k zero h = tt
grouped P f k (suc n) h = each_append P (f k) (flat_map f (numbers_from (suc k) n)) (h k (omega arith)) (grouped P f (suc k) n (λ i l. h i (omega arith)))

pub all_small : (xs : List ℕ) → list_all (λ b. nat_lt b 256) xs ≡ true → (i : ℕ) → get_or xs i 0 < 256
all_small [] h i = omega arith
all_small (x ∷ xs) h zero = ltb-true x 256 (and_left _ _ h)
all_small (x ∷ xs) h (suc i) = all_small xs (and_right (nat_lt x 256) _ h) i

-- ---- a region and an address

pub and_both : (x y : Bool) → x ≡ true → y ≡ true → (x && y) ≡ true
and_both true y p q = q
and_both false y p q = p

contains : (r : Region) (a : ℕ) → r.base ≤ a → a < r.base + 8 * r.words → (nat_le r.base a && nat_lt a (r.base + 8 * r.words)) ≡ true
contains r a h k = and_both _ _ (le-leb r.base a h) (lt-ltb a (r.base + 8 * r.words) k)

here : (r : Region) (rs : List Region) (a : ℕ) → r.base ≤ a → a < r.base + 8 * r.words → place_in (r ∷ rs) a ≡ place_by r.kind
here r rs a h k = ap (λ b. if b then place_by r.kind else place_in rs a) (contains r a h k)

-- the kernel's part of the upper half, far below its end
pub record IsHigh (r : Region) : Type 0 where
  pub from : 0xffff800000000000 ≤ r.base
  pub to : r.base + 8 * r.words ≤ 0xfffffffff0000000
  pub kind : r.kind ≡ Kernel

-- an address of the kernel is one behind other regions of the kernel too
behind : (xs ys : List Region) (a : ℕ) → Each IsHigh xs → place_in ys a ≡ KernelWord → place_in (xs ++ ys) a ≡ KernelWord
behind [] ys a h k = k
behind (x ∷ xs) ys a h k = pick (nat_le x.base a && nat_lt a (x.base + 8 * x.words)) (behind xs ys a h.1 k)
  where
    pick : (b : Bool) → place_in (xs ++ ys) a ≡ KernelWord → (if b then place_by x.kind else place_in (xs ++ ys) a) ≡ KernelWord
    pick true q = ap place_by h.0.kind
    pick false q = q

-- and a low address is in none of them
passed : (xs ys : List Region) (a : ℕ) → Each IsHigh xs → a < 0x1000000000000 → place_in (xs ++ ys) a ≡ place_in ys a
passed [] ys a h l = refl
passed (x ∷ xs) ys a h l = pick (nat_le x.base a && nat_lt a (x.base + 8 * x.words)) refl (passed xs ys a h.1 l)
  where
    pick : (b : Bool) → (nat_le x.base a && nat_lt a (x.base + 8 * x.words)) ≡ b → place_in (xs ++ ys) a ≡ place_in ys a
        → (if b then place_by x.kind else place_in (xs ++ ys) a) ≡ place_in ys a
    pick true q k = absurd (let low = leb-true x.base a (and_left _ _ q) in let f = h.0.from in omega arith)
    pick false q k = k

-- ---- the regions of the opening

-- those of stacks and areas, those of tables and code, and those of user code
abbrev pub area_regions : Image → List Region
area_regions image = flat_map stack_regions (numbers_from 0 image.processors) ++ map (λ p. region (pcpu p) 0x10000 Kernel) (numbers_from 0 image.processors)

abbrev table_regions : Image → List Region
table_regions image =
    region user_table (8 * 257) Kernel ∷ region kernel_table (8 * 257) Kernel ∷ region idt_base 0x1000 Kernel ∷ region page_map (8 * 257) Kernel
    ∷ region cells_base 0x800 Kernel
    ∷ region (task_words 0 0) (0x100 * image.processors) Kernel ∷ []

abbrev code_regions : Image → List Region
code_regions image = region fred_page (code_end - fred_page) Kernel ∷ region (body_code 0) (0x20000 * length image.bodies) Kernel ∷ []

abbrev user_regions : List Region
user_regions = region text_base 0x10000 RegionKind.Text ∷ map (λ i. region (page_base + 0x1000 * i) 0x1000 (RegionKind.Page i)) (numbers_from 0 256)

as_listed : (image : Image) → area_regions image ++ (table_regions image ++ (code_regions image ++ user_regions)) ≡ regions image
as_listed image = refl

pub areas_high : (image : Image) → IsImage image → Each IsHigh (area_regions image)
areas_high image is =
    let few = is.count.1 in
    each_append IsHigh (flat_map stack_regions (numbers_from 0 image.processors)) (map (λ p. region (pcpu p) 0x10000 Kernel) (numbers_from 0 image.processors))
    (grouped IsHigh stack_regions 0 image.processors
    (λ p h. numbered IsHigh (λ n. region (stack_top p n - 0x2000) 0x2000 Kernel) 0 7
    (λ n k. record { from = omega arith; to = omega arith; kind = refl })))
    (numbered IsHigh (λ p. region (pcpu p) 0x10000 Kernel) 0 image.processors (λ p h. record { from = omega arith; to = omega arith; kind = refl }))

tables_high : (image : Image) → IsImage image → Each IsHigh (table_regions image)
tables_high image is =
    let few = is.count.1 in (
      record { from = omega arith; to = omega arith; kind = refl },
      (
        record { from = omega arith; to = omega arith; kind = refl },
        (
          record { from = omega arith; to = omega arith; kind = refl },
          (
            record { from = omega arith; to = omega arith; kind = refl },
            (record { from = omega arith; to = omega arith; kind = refl }, (record { from = omega arith; to = omega arith; kind = refl }, tt)),
          ),
        ),
      ),
    )

code_high : (image : Image) → IsImage image → Each IsHigh (code_regions image)
code_high image is =
    let few = is.bodies_given.0 in
    (record { from = omega arith; to = omega arith; kind = refl }, (record { from = omega arith; to = omega arith; kind = refl }, tt))

-- ---- places

pub text_place : (image : Image) (a : ℕ) → IsImage image → text_base ≤ a → a < text_base + 0x10000 → place_in (regions image) a ≡ Text
text_place image a is l h =
    passed (area_regions image) (table_regions image ++ (code_regions image ++ user_regions)) a (areas_high image is) (omega arith)
    ∙ passed (table_regions image) (code_regions image ++ user_regions) a (tables_high image is) (omega arith)
    ∙ passed (code_regions image) user_regions a (code_high image is) (omega arith)
    ∙ here (region text_base 0x10000 RegionKind.Text) (map (λ i. region (page_base + 0x1000 * i) 0x1000 (RegionKind.Page i)) (numbers_from 0 256)) a l
    (omega arith)

code_place : (image : Image) (a : ℕ) → IsImage image → place_in (code_regions image ++ user_regions) a ≡ KernelWord → place_in (regions image) a ≡ KernelWord
code_place image a is h =
    behind (area_regions image) (table_regions image ++ (code_regions image ++ user_regions)) a (areas_high image is)
    (behind (table_regions image) (code_regions image ++ user_regions) a (tables_high image is) h)

-- the kernel's entries and exits, and the bodies
pub entry_place : (image : Image) (a : ℕ) → IsImage image → fred_page ≤ a → a < code_end → place_in (regions image) a ≡ KernelWord
entry_place image a is l h =
    code_place image a is (here (region fred_page (code_end - fred_page) Kernel)
    (region (body_code 0) (0x20000 * length image.bodies) Kernel ∷ user_regions) a l (omega arith))

pub body_place : (image : Image) (a : ℕ) → IsImage image → body_code 0 ≤ a → a < body_code 0 + 0x20000 * length image.bodies
    → place_in (regions image) a ≡ KernelWord
body_place image a is l h =
    let code = region fred_page (code_end - fred_page) Kernel in
    let body = region (body_code 0) (0x20000 * length image.bodies) Kernel in
    let k = code_high image is in
    code_place image a is (behind (code ∷ []) (body ∷ user_regions) a (k.0, tt) (here body user_regions a l (omega arith)))

-- ---- what can be fetched

-- far from the addresses that aren't canonical
abbrev pub IsFar : ℕ → Type 0
IsFar a = (a < 0x400000000000) ⊎ ((0xffff800000000000 ≤ a) × (a < 0xfffffffff0000000))

-- a region whose addresses are
abbrev pub Lies : Region → Type 0
Lies r = (r.base + 8 * r.words ≤ 0x400000000000) ⊎ IsHigh r

far_in : (r : Region) (a : ℕ) → Lies r → (nat_le r.base a && nat_lt a (r.base + 8 * r.words)) ≡ true → IsFar a
far_in r a h q =
    let lo : r.base ≤ a = leb-true r.base a (and_left _ _ q) in
    let hi : a < r.base + 8 * r.words = ltb-true a (r.base + 8 * r.words) (and_right (nat_le r.base a) _ q) in
    ⊎_elim (λ l. inl (omega arith)) (λ k. let f = k.from in let t = k.to in inr (omega arith, omega arith)) h

-- an address of no region can't be fetched
nowhere : (present : NatSet) (access : Access) (a : ℕ) → fault_at present access (place_in [] a) ≡ None → ⊥
unfolding fault_at
nowhere present access a h = pick (nat_lt a (2 ^ 63)) h
  where
    pick : (b : Bool) → fault_at present access (if b then Place.Lower else Place.Upper) ≡ None → ⊥
    pick true q = cc
    pick false q = cc

fetched_far : (present : NatSet) (access : Access) (rs : List Region) (a : ℕ) → Each Lies rs → fault_at present access (place_in rs a) ≡ None → IsFar a
fetched_far present access [] a h q = absurd (nowhere present access a q)
fetched_far present access (r ∷ rs) a h q = pick (nat_le r.base a && nat_lt a (r.base + 8 * r.words)) refl q (fetched_far present access rs a h.1)
  where
    pick : (b : Bool) → (nat_le r.base a && nat_lt a (r.base + 8 * r.words)) ≡ b → fault_at present access (if b then place_by r.kind else place_in rs a)
        ≡ None → (fault_at present access (place_in rs a) ≡ None → IsFar a) → IsFar a
    pick true e f k = far_in r a h.0 e
    pick false e f k = k f

high_lie : (rs : List Region) → Each IsHigh rs → Each Lies rs
high_lie [] h = tt
high_lie (r ∷ rs) h = (inr h.0, high_lie rs h.1)

users_lie : Each Lies user_regions
users_lie = (inl (omega arith), numbered Lies (λ i. region (page_base + 0x1000 * i) 0x1000 (RegionKind.Page i)) 0 256 (λ i h. inl (omega arith)))

regions_lie : (image : Image) → IsImage image → Each Lies (regions image)
regions_lie image is =
    each_append Lies (area_regions image) (table_regions image ++ (code_regions image ++ user_regions)) (high_lie (area_regions image) (areas_high image is))
    (each_append Lies (table_regions image) (code_regions image ++ user_regions) (high_lie (table_regions image) (tables_high image is))
    (each_append Lies (code_regions image) user_regions (high_lie (code_regions image) (code_high image is)) users_lie))

pub fetches_far : (image : Image) (present : NatSet) (access : Access) (a : ℕ) → IsImage image → fault_at present access (place_in (regions image) a) ≡ None
    → IsFar a
fetches_far image present access a is h = fetched_far present access (regions image) a (regions_lie image is) h
