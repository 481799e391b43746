-- The whole table of an image: the cells of bodies, then the kernel's, at distinct addresses.
use Rattle.std.proofs.Common.{◌≡◌, ℕ, zero, suc, pos, negsuc, ◌+◌, ◌-◌, ◌/◌, ◌%◌, ◌^◌, ◌<◌, ◌≤◌, Bool, true, false, ◌&&◌, List, [], ◌∷◌, ◌++◌, length, take, Some, refl, sym, ap, ◌∙◌, subst, arith, eq-eqb}
use Rattle.std.specs.Prelude.{◌==◌, ◌||◌, nat_le, slice_get, if◌then◌else◌}
use Rattle.std.specs.List.{list_all}
use Rattle.std.proofs.lemmas.Bool.{leb-true, leb-false}
use Rattle.std.proofs.lemmas.List.{length-take}
use Rattle.std.proofs.lemmas.Option.{slice_get_within}
use Rattle.ev_isa.specs.Word.{displaced, is_canonical}
use Rattle.ev_isa.specs.declared.mode.Mode.{Mode}
use Rattle.ev_isa.specs.declared.mode.Mode.TheVariants.{Idt, Fred}
use Rattle.ev_isa.specs.declared.instruction.Ins.TheVariants.{Jmp}
use Rattle.ev_body.specs.declared.key.Key.{Key}
use Rattle.ev_body.specs.declared.key.Key.TheVariants.{Nmi}
use Rattle.ev_body.specs.declared.item.Item.{Item}
use Rattle.ev_body.specs.declared.item.Item.TheVariants.{Ret}
use Rattle.ev_body.specs.declared.body.Body.{Body}
use Rattle.ev_body.specs.declared.image.Image.{Image}
use Rattle.ev_body.specs.Bodies.{key_number, body_items}
use Rattle.ev_body.specs.WellFormed.{IsImage, is_body}
use Rattle.ev_asm.specs.Assembly.{Name, Places, place, size, total_size, distance}
use Rattle.ev_listing.specs.AddressMap.{body_code}
use Rattle.ev_listing.specs.Expansion.{exit_of, item_address, expansion, expansions, function_address, body_stmts}
use Rattle.ev_listing.specs.Marks.{Never, Listing, stmts_of, all_places}
use Rattle.ev_concrete.specs.Opening.{kernel_listings, listings, body_listings}
use Rattle.ev_concrete.specs.ConcreteRun.{marks_of, mark_at}
use Rattle.ev_symbolic.specs.Agrees.{Cell}
use Rattle.ev_symbolic.specs.Listed.{cells_from, cells_in, AllFound}
use Rattle.ev_symbolic.proofs.Listed.{all_found}
use Rattle.ev_symbolic.proofs.Values.{and_left, and_right}
use Rattle.ev_fetch.proofs.Regions.{Each}
use Rattle.ev_fetch.proofs.Placed.{Disjoint}
use Rattle.ev_fetch.proofs.Sizes.{items_size, few_items, listings_disjoint}
use Rattle.ev_table.specs.Table.{code_table, other_exit, exit_address, RetCell, places_of, item_lines, item_cells, AreMarked, reads_no_memory}
use Rattle.ev_table.proofs.Cells.{found_first, found_rest}
use Rattle.ev_table.proofs.Distinct.{listings_distinct}
use Rattle.ev_table.proofs.Expanded.{is_of_body, same_sizes}
use Rattle.ev_table.proofs.Items.{item_found, item_marked, next_size}
use Rattle.ev_table.proofs.Labels.{place_behind, cells_in_same, exit_inner, all_places_append, cells_in_append}
use Rattle.ev_table.proofs.Kernel.{kernel_cells, kernel_inner, kernel_unmarked, kernel_plain, exit_is}
use Rattle.ev_table.proofs.Bodies.{labels, unmarked, body_found, body_marked}
use Rattle.ev_table.proofs.Marked.{all_unmarked, EachMarked, each_marked, cell_mark, plain_at, skipped_all}

-- a jump leads to the target of its distance
pub leads_to : (target next : ℕ) → target < 2 ^ 64 → next < 2 ^ 64 → displaced next (distance target next) ≡ target
unfolding distance
leads_to target next h k = pick (nat_le next target) refl
  where
    pick : (b : Bool) → nat_le next target ≡ b → displaced next (if b then pos (target - next) else negsuc (next - target - 1)) ≡ target
    pick true q = let l = leb-true next target q in let e : (next + (target - next)) % 2 ^ 64 ≡ target = omega arith in e
    pick false q = let l = leb-false next target q in let e : (next + (2 ^ 64 - suc (next - target - 1))) % 2 ^ 64 ≡ target = omega arith in e

canonical : (a : ℕ) → 0xffff800000000000 ≤ a → a < 2 ^ 64 → is_canonical a ≡ true
canonical a h k = ap (λ b. (a / 2 ^ 47 == 0) || b) (eq-eqb (a / 2 ^ 47) (2 ^ 17 - 1) (let e : a / 140737488355328 ≡ 131071 = omega arith in e))
    ∙ or_one (a / 2 ^ 47 == 0)
  where
    or_one : (b : Bool) → (b || true) ≡ true
    or_one true = refl
    or_one false = refl

exits_below : (mode : Mode) (key : Key) → exit_address mode key < 0xffffffff82000000
exits_below Idt Nmi = omega arith
exits_below Idt _ = omega arith
exits_below Fred Nmi = omega arith
exits_below Fred _ = omega arith

-- keys other than that of NMIs have the exit of all others
pub exit_of_others : (mode : Mode) (key : Key) → (key_number key ≡ 2 → ⊥) → exit_address mode key ≡ other_exit mode
unfolding key_number
exit_of_others mode Nmi h = absurd (h refl)
exit_of_others mode _ h = refl

pub first_item : (mode : Mode) (n : ℕ) (b : Body) → item_address mode n b 0 ≡ body_code n
first_item mode n b = let e : body_code n + 0 ≡ body_code n = omega arith in e

unmarked_append : (xs ys : List Listing) → all_unmarked xs ≡ true → all_unmarked ys ≡ true → all_unmarked (xs ++ ys) ≡ true
unmarked_append [] ys h k = k
unmarked_append (x ∷ xs) ys h k = ap (λ t. t && all_unmarked (xs ++ ys)) (and_left _ (all_unmarked xs) h)
    ∙ unmarked_append xs ys (and_right _ (all_unmarked xs) h) k

pub first_each : {X : Type 0} (P : X → Type 0) (xs ys : List X) → Each P (xs ++ ys) → Each P xs
first_each P [] ys h = tt
first_each P (x ∷ xs) ys h = (h.0, first_each P xs ys h.1)

pub all_at : (t : Body → Bool) (bs : List Body) (n : ℕ) (b : Body) → list_all t bs ≡ true → slice_get bs n ≡ Some b → t b ≡ true
all_at t [] n b h q = absurd (cc)
all_at t (x ∷ xs) zero b h q = subst (λ (y : Body). t y ≡ true) (let e : x ≡ b = cc in e) (and_left _ _ h)
all_at t (x ∷ xs) (suc n) b h q = all_at t xs n b (and_right (t x) _ h) q

module _ (mode : Mode) (image : Image) where
  abbrev bodies : List Listing
  bodies = body_listings mode image 0 image.bodies

  abbrev env : Places
  env = places_of mode image

  pub places_split : env ≡ all_places bodies ++ all_places (kernel_listings mode)
  unfolding listings
  places_split = all_places_append bodies (kernel_listings mode)

  same_place : (name : Name) → is_of_body name ≡ false → place env name ≡ place (all_places (kernel_listings mode)) name
  same_place name h = ap (λ xs. place xs name) places_split ∙ place_behind (all_places bodies) (all_places (kernel_listings mode)) name
      (labels mode image 0 image.bodies) h

  pub exit_is_there : (key : Key) → place env (exit_of mode key) ≡ exit_address mode key
  exit_is_there key = same_place (exit_of mode key) (exit_inner mode key) ∙ exit_is mode key

  split : cells_in env (listings mode image) ≡ cells_in env bodies ++ cells_in env (kernel_listings mode)
  unfolding listings
  split = cells_in_append env bodies (kernel_listings mode)

  kernel_same : cells_in env (kernel_listings mode) ≡ kernel_cells mode
  unfolding kernel_cells
  kernel_same = cells_in_same env (all_places (kernel_listings mode)) same_place (kernel_listings mode) (kernel_inner mode)

  -- an item's address with the items' own functions
  pub address : (n i : ℕ) (b : Body)
      → item_address mode n b i ≡ body_code n + total_size (stmts_of (expansions mode n b.key (function_address mode image) 0 (take i (body_items b))))
  address n i b = ap (λ (x : ℕ). body_code n + x) (same_sizes mode n b.key (λ f. 0) (function_address mode image) 0 (take i (body_items b)))

  pub next_address : (n i : ℕ) (b : Body) (item : Item) → slice_get (body_items b) i ≡ Some item
      → item_address mode n b (suc i) ≡ item_address mode n b i + total_size (stmts_of (item_lines mode image n b i item))
  next_address n i b item q =
      omega (arith, address n (suc i) b, address n i b, next_size mode n b.key (function_address mode image) i (body_items b) item q)

  module _ (given : IsImage image) where
    apart : Disjoint (listings mode image)
    apart = listings_disjoint mode image given

    found : AllFound (code_table mode image) (cells_in env bodies ++ cells_in env (kernel_listings mode))
    found = subst (AllFound (code_table mode image)) split (all_found (cells_in env (listings mode image)) (listings_distinct env (listings mode image) apart))

    pub kernel_found : AllFound (code_table mode image) (kernel_cells mode)
    kernel_found = subst (AllFound (code_table mode image)) kernel_same
        (found_rest (code_table mode image) (cells_in env bodies) (cells_in env (kernel_listings mode)) found)

    -- ---- items

    pub item_stands : (n i : ℕ) (b : Body) (item : Item) → slice_get image.bodies n ≡ Some b → slice_get (body_items b) i ≡ Some item
        → AllFound (code_table mode image) (item_cells mode image n b i item)
    unfolding body_stmts
    item_stands n i b item h k =
        subst (λ (a : ℕ). AllFound (code_table mode image) (cells_from env a (item_lines mode image n b i item))) (sym (address n i b))
        (item_found mode n b.key (function_address mode image) (code_table mode image) env (body_code n) (body_items b)
        (subst (λ (m : ℕ). AllFound (code_table mode image) (cells_from env (body_code m) (body_stmts mode image m b)))
        (let e : 0 + n ≡ n = omega arith in e)
        (body_found mode image (code_table mode image) env 0 image.bodies
        (found_first (code_table mode image) (cells_in env bodies) (cells_in env (kernel_listings mode)) found) n b h))
        i item k)

    -- where an item lies: 256 items have at most 512 bytes each
    pub range : (n i : ℕ) (b : Body) → slice_get image.bodies n ≡ Some b → (0xffffffff82000000 ≤ item_address mode n b i)
        × (item_address mode n b i ≤ 0xffffffff82800000)
    range n i b h =
        let few : n < length image.bodies = slice_get_within image.bodies n b h in
        let most = given.bodies_given.0 in
        let s = items_size mode n b.key (λ f. 0) 0 (take i (body_items b)) in
        let t = length-take i (body_items b) in
        let short = few_items (length image.text) b (all_at (is_body (length image.text)) image.bodies n b given.bodies_given.1 h) in
        (omega arith, omega arith)

    pub canonical_items : (n i : ℕ) (b : Body) → slice_get image.bodies n ≡ Some b → (is_canonical (item_address mode n b i) ≡ true)
        × (item_address mode n b i + 16 < 2 ^ 64)
    canonical_items n i b h = low (item_address mode n b i) (range n i b h)
      where
        low : (a : ℕ) → (0xffffffff82000000 ≤ a) × (a ≤ 0xffffffff82800000) → (is_canonical a ≡ true) × (a + 16 < 2 ^ 64)
        low a r = let r0 = r.0 in let r1 = r.1 in (canonical a (omega arith) (omega arith), omega arith)

    pub ret_stands : (n i : ℕ) (b : Body) → slice_get image.bodies n ≡ Some b → slice_get (body_items b) i ≡ Some Ret
        → RetCell (code_table mode image) (item_address mode n b i) (exit_address mode b.key)
    unfolding expansion size
    ret_stands n i b h k =
        let a : ℕ = item_address mode n b i in
        let E : ℕ = place env (exit_of mode b.key) in
        record {
          cell = record { ins = Jmp (distance E (a + 5)); next = a + 5; mark = Never };
          distance = distance E (a + 5);
          is = (item_stands n i b Ret h k).0;
          jump = refl;
          unmarked = refl;
          leads = subst (λ x. displaced (a + 5) (distance E (a + 5)) ≡ x) (exit_is_there b.key)
              (leads_from a E (range n i b h) (subst (λ x. x < 0xffffffff82000000) (sym (exit_is_there b.key)) (exits_below mode b.key)));
        }
      where
        leads_from : (a exit : ℕ) → (0xffffffff82000000 ≤ a) × (a ≤ 0xffffffff82800000) → exit < 0xffffffff82000000
            → displaced (a + 5) (distance exit (a + 5)) ≡ exit
        leads_from a exit r h = let r0 = r.0 in let r1 = r.1 in leads_to exit (a + 5) (omega arith) (omega arith)

    -- ---- marks

    no_marks : all_unmarked (listings mode image) ≡ true
    unfolding listings
    no_marks = unmarked_append bodies (kernel_listings mode) (unmarked mode image 0 image.bodies) (kernel_unmarked mode)

    every : EachMarked (marks_of mode image) (listings mode image)
    every = each_marked (listings mode image) apart no_marks

    body_marks : EachMarked (marks_of mode image) bodies
    unfolding listings
    body_marks = first_each (λ (b : Listing). AreMarked (marks_of mode image) b.address b.lines) bodies (kernel_listings mode) every

    pub item_marks : (n i : ℕ) (b : Body) (item : Item) → slice_get image.bodies n ≡ Some b → slice_get (body_items b) i ≡ Some item
        → AreMarked (marks_of mode image) (item_address mode n b i) (item_lines mode image n b i item)
    unfolding body_stmts
    item_marks n i b item h k =
        subst (λ (a : ℕ). AreMarked (marks_of mode image) a (item_lines mode image n b i item)) (sym (address n i b))
        (item_marked mode n b.key (function_address mode image) (marks_of mode image) (body_code n) (body_items b)
        (subst (λ (m : ℕ). AreMarked (marks_of mode image) (body_code m) (body_stmts mode image m b)) (let e : 0 + n ≡ n = omega arith in e)
        (body_marked mode image (marks_of mode image) 0 image.bodies body_marks n b h))
        i item k)

    pub cell_marked : (a : ℕ) (x : Cell) → code_table mode image a ≡ Some x → mark_at (marks_of mode image) a ≡ x.mark
    cell_marked a x q = cell_mark env (listings mode image) apart no_marks a x q

    -- no mark of the kernel's own code reads memory
    pub kernel_marks_plain : (a : ℕ) → a < 0xffffffff82000000 → reads_no_memory (mark_at (marks_of mode image) a) ≡ true
    unfolding listings
    kernel_marks_plain a l = ap reads_no_memory
        (skipped_all bodies (kernel_listings mode) a (unmarked mode image 0 image.bodies) (above 0 image.bodies)) ∙ plain_at (kernel_listings mode) a
        (kernel_plain mode)
      where
        above : (n : ℕ) (bs : List Body) → Each (λ (b : Listing). a < b.address) (body_listings mode image n bs)
        above n [] = tt
        above n (b ∷ bs) = (omega (arith, l), above (suc n) bs)
