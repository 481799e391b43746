-- An address has a place exactly where an instruction of the code begins.
use Rattle.std.proofs.Common.{◌≡◌, ℕ, zero, suc, ◌+◌, Bool, true, false, ◌&&◌, List, [], ◌∷◌, ◌++◌, map, Option, Some, None, refl, sym, ap, ◌∙◌, arith}
use Rattle.std.specs.Prelude.{◌||◌, ◌==◌, is_some, option_map}
use Rattle.std.specs.Option.{option_or}
use Rattle.std.specs.List.{list_any}
use Rattle.std.proofs.lemmas.List.{map-append}
use Rattle.ev_isa.specs.declared.mode.Mode.{Mode}
use Rattle.ev_isa.specs.declared.mode.Mode.TheVariants.{Idt, Fred}
use Rattle.ev_body.specs.declared.key.Key.{Key}
use Rattle.ev_body.specs.declared.item.Item.{Item}
use Rattle.ev_body.specs.declared.body.Body.{Body}
use Rattle.ev_body.specs.declared.image.Image.{Image}
use Rattle.ev_body.specs.Bodies.{body_items}
use Rattle.ev_asm.specs.Assembly.{Name, size, total_size}
use Rattle.ev_asm.specs.Assembled.{addresses_of}
use Rattle.ev_listing.specs.AddressMap.{body_code, no_body, vector_stub, sys_entry, common_entry, exit_entry, nmi_entry, repeat_entry, nbody_entry, exitn_entry, nlast_entry}
use Rattle.ev_listing.specs.Expansion.{expansion, expansions, function_address, body_stmts}
use Rattle.ev_listing.specs.IdtCode.{none, stub, stubs, sys, common, exit, nmi, repeat, nbody, exitn, nlast, idt_listings}
use Rattle.ev_listing.specs.FredCode.{fred_listings}
use Rattle.ev_listing.specs.Marks.{Marked, Listing, stmts_of}
use Rattle.ev_listing.specs.Statements.{label}
use Rattle.ev_concrete.specs.Opening.{body_listings, kernel_listings, listings}
use Rattle.ev_stub.specs.Position.{is_counted, in_block, index_from, position_in}
use Rattle.ev_stub_idt.specs.declared.position.IdtBlock.{IdtBlock}
use Rattle.ev_stub_idt.specs.Position.{vector_blocks, stub_blocks, entry_blocks, idt_place_at}
use Rattle.ev_stub_idt.specs.Position as idt
use Rattle.ev_stub_fred.specs.declared.position.FredBlock.{FredBlock}
use Rattle.ev_stub_fred.specs.Position.{fred_blocks, fred_place_at}
use Rattle.ev_stub_fred.specs.Position as fred
use Rattle.ev_layout.specs.declared.place.Place.TheVariants as place
use Rattle.ev_layout.specs.CodePlaces.{item_blocks, body_blocks, item_place, kernel_place, stop_place, place_of, begins_in, PlacesAreExact}

-- ---- whether there is an answer

or_some : {A : Type 0} (x y : Option A) → is_some (option_or x y) ≡ (is_some x || is_some y)
or_some None y = refl
or_some (Some x) y = refl

map_some : {A B : Type 0} (f : A → B) (x : Option A) → is_some (option_map f x) ≡ is_some x
map_some f None = refl
map_some f (Some x) = refl

block_some : {B : Type 0} (b : B) (o : Option ℕ) → is_some (in_block b o) ≡ is_some o
block_some b None = refl
block_some b (Some n) = refl

or_assoc : (x y z : Bool) → (x || (y || z)) ≡ ((x || y) || z)
or_assoc true y z = refl
or_assoc false y z = refl

any_append : {A : Type 0} (p : A → Bool) (xs ys : List A) → list_any p (xs ++ ys) ≡ (list_any p xs || list_any p ys)
any_append p [] ys = refl
any_append p (x ∷ xs) ys = ap (λ b. p x || b) (any_append p xs ys) ∙ or_assoc (p x) (list_any p xs) (list_any p ys)

module _ (rip : ℕ) where
  -- ---- lines

  -- whether an instruction of the lines begins there, where they begin at address a
  abbrev begins : ℕ → List Marked → Bool
  begins a ls = begins_in rip (record { address = a; lines = ls })

  found_is : (n a : ℕ) (ls : List Marked) → is_some (index_from n a rip ls) ≡ begins a ls
  unfolding index_from addresses_of
  found_is n a [] = refl
  found_is n a (l ∷ ls) = by (is_counted l.stmt) (a == rip) (λ m. found_is m (a + size l.stmt) ls)
    where
      by : (t u : Bool) → ((m : ℕ) → is_some (index_from m (a + size l.stmt) rip ls) ≡ begins (a + size l.stmt) ls)
          → is_some (let o : Option ℕ = elim t [
            | false ↦ index_from n (a + size l.stmt) rip ls
            | true ↦ elim u [ true ↦ Some n | false ↦ index_from (suc n) (a + size l.stmt) rip ls ]
          ] in o) ≡ ((t && u) || begins (a + size l.stmt) ls)
      by false u h = h n
      by true true h = refl
      by true false h = h (suc n)

  position_is : {B : Type 0} (es : List (B × Listing)) → is_some (position_in rip es) ≡ list_any (begins_in rip) (map (λ (e : B × Listing). e.1) es)
  position_is [] = refl
  position_is (e ∷ es) =
      let here : is_some (in_block e.0 (index_from 0 e.1.address rip e.1.lines)) ≡ begins e.1.address e.1.lines =
      block_some e.0 (index_from 0 e.1.address rip e.1.lines) ∙ found_is 0 e.1.address e.1.lines in
      let there = position_is es in
      or_some (in_block e.0 (index_from 0 e.1.address rip e.1.lines)) (position_in rip es) ∙ (λ i. here i || there i)

  begins_append : (a : ℕ) (xs ys : List Marked) → begins a (xs ++ ys) ≡ (begins a xs || begins (a + total_size (stmts_of xs)) ys)
  unfolding addresses_of
  begins_append a [] ys = let e : a ≡ a + 0 = omega arith in ap (λ n. begins n ys) e
  begins_append a (x ∷ xs) ys =
      let e : a + size x.stmt + total_size (stmts_of xs) ≡ a + (size x.stmt + total_size (stmts_of xs)) = omega arith in
      ap (λ b. (is_counted x.stmt && (a == rip)) || b) (begins_append (a + size x.stmt) xs ys)
      ∙ or_assoc (is_counted x.stmt && (a == rip)) (begins (a + size x.stmt) xs) (begins (a + size x.stmt + total_size (stmts_of xs)) ys)
      ∙ ap (λ n. (is_counted x.stmt && (a == rip) || begins (a + size x.stmt) xs) || begins n ys) e

  behind_label : (a : ℕ) (name : Name) (ls : List Marked) → begins a (label name ∷ ls) ≡ begins a ls
  unfolding addresses_of size
  behind_label a name ls = let e : a + 0 ≡ a = omega arith in ap (λ n. begins n ls) e

  -- ---- bodies

  items_are : (mode : Mode) (f : ℕ → ℕ) (b : ℕ) (key : Key) (i a : ℕ) (items : List Item)
      → list_any (begins_in rip) (map (λ (e : (ℕ × ℕ) × Listing). e.1) (item_blocks mode f b key i a items)) ≡ begins a (expansions mode b key f i items)
  unfolding addresses_of
  items_are mode f b key i a [] = refl
  items_are mode f b key i a (item ∷ items) =
      let here : List Marked = expansion mode b key f i item in
      let rest : List Marked = expansions mode b key f (suc i) items in
      ap (λ x. begins a here || x) (items_are mode f b key (suc i) (a + total_size (stmts_of here)) items)
      ∙ sym (begins_append a here rest) ∙ sym (behind_label a _ (here ++ rest))

  bodies_are : (mode : Mode) (image : Image) (b : ℕ) (bodies : List Body)
      → list_any (begins_in rip) (map (λ (e : (ℕ × ℕ) × Listing). e.1) (body_blocks mode image b bodies))
      ≡ list_any (begins_in rip) (body_listings mode image b bodies)
  unfolding body_stmts
  bodies_are mode image b [] = refl
  bodies_are mode image b (body ∷ bodies) =
      let named : (ℕ × ℕ) × Listing → Listing = λ e. e.1 in
      let here : List ((ℕ × ℕ) × Listing) = item_blocks mode (function_address mode image) b body.key 0 (body_code b) (body_items body) in
      let rest : List ((ℕ × ℕ) × Listing) = body_blocks mode image (suc b) bodies in
      let first = items_are mode (function_address mode image) b body.key 0 (body_code b) (body_items body) in
      let behind = bodies_are mode image (suc b) bodies in
      ap (list_any (begins_in rip)) (map-append named here rest) ∙ any_append (begins_in rip) (map named here) (map named rest)
      ∙ (λ j. first j || behind j)

  -- ---- the kernel

  stubs_are : (v n : ℕ) → map (λ (e : IdtBlock × Listing). e.1) (vector_blocks v n) ≡ stubs v n
  stubs_are v zero = refl
  stubs_are v (suc n) = ap (λ ls. record { address = vector_stub v; lines = stub v } ∷ ls) (stubs_are (suc v) n)

  -- the listings between the first and the stubs
  abbrev entry_listings : List Listing
  entry_listings =
      record { address = sys_entry; lines = sys } ∷ record { address = common_entry; lines = common } ∷ record { address = exit_entry; lines = exit }
      ∷ record { address = nmi_entry; lines = nmi } ∷ record { address = repeat_entry; lines = repeat } ∷ record { address = nbody_entry; lines = nbody }
      ∷ record { address = exitn_entry; lines = exitn } ∷ record { address = nlast_entry; lines = nlast } ∷ []

  entries_are : map (λ (e : IdtBlock × Listing). e.1) entry_blocks ≡ entry_listings
  unfolding idt_listings
  entries_are = refl

  all_idt : idt_listings ≡ record { address = no_body; lines = none } ∷ entry_listings ++ stubs 0 256
  unfolding idt_listings
  all_idt = refl

  stop_is : is_some (stop_place rip) ≡ begins no_body none
  stop_is = map_some (λ n. place.Stop) (index_from 0 no_body rip none) ∙ found_is 0 no_body none

  idt_is : is_some (idt_place_at rip) ≡ (list_any (begins_in rip) (stubs 0 256) || list_any (begins_in rip) entry_listings)
  unfolding stub_blocks
  idt_is =
      map_some idt.place_of (position_in rip (stub_blocks ++ entry_blocks)) ∙ position_is (stub_blocks ++ entry_blocks)
      ∙ ap (list_any (begins_in rip)) (map-append (λ (e : IdtBlock × Listing). e.1) stub_blocks entry_blocks
      ∙ (λ i. stubs_are 0 256 i ++ entries_are i))
      ∙ any_append (begins_in rip) (stubs 0 256) entry_listings

  turned : (s e n : Bool) → ((s || e) || n) ≡ (n || (e || s))
  turned true true true = refl
  turned true true false = refl
  turned true false true = refl
  turned true false false = refl
  turned false true true = refl
  turned false true false = refl
  turned false false true = refl
  turned false false false = refl

  -- the listings but the last
  abbrev fred_entries : List Listing
  fred_entries = map (λ (e : FredBlock × Listing). e.1) fred_blocks

  all_fred : fred_listings ≡ fred_entries ++ record { address = no_body; lines = none } ∷ []
  unfolding fred_listings
  all_fred = refl

  or_false : (b : Bool) → b ≡ (b || false)
  or_false true = refl
  or_false false = refl

  fred_is : (is_some (fred_place_at rip) || begins no_body none) ≡ list_any (begins_in rip) fred_listings
  fred_is =
      ap (λ b. b || begins no_body none) (map_some fred.place_of (position_in rip fred_blocks) ∙ position_is fred_blocks)
      ∙ ap (λ b. list_any (begins_in rip) fred_entries || b) (or_false (begins no_body none))
      ∙ sym (any_append (begins_in rip) fred_entries (record { address = no_body; lines = none } ∷ []))
      ∙ ap (list_any (begins_in rip)) (sym all_fred)

  kernel_is : (mode : Mode) → (is_some (kernel_place mode rip) || is_some (stop_place rip)) ≡ list_any (begins_in rip) (kernel_listings mode)
  kernel_is Idt =
      (λ i. (map_some place.Idt (idt_place_at rip) ∙ idt_is) i || stop_is i)
      ∙ turned (list_any (begins_in rip) (stubs 0 256)) (list_any (begins_in rip) entry_listings) (begins no_body none)
      ∙ ap (λ b. begins no_body none || b) (sym (any_append (begins_in rip) entry_listings (stubs 0 256)))
      ∙ ap (list_any (begins_in rip)) (sym all_idt)
  kernel_is Fred = (λ i. map_some place.Fred (fred_place_at rip) i || stop_is i) ∙ fred_is

pub exact : PlacesAreExact
unfolding place_of listings
exact mode image rip =
    let items = position_in rip (body_blocks mode image 0 image.bodies) in
    let bodies : is_some (option_map item_place items) ≡ list_any (begins_in rip) (body_listings mode image 0 image.bodies) =
    map_some item_place items ∙ position_is rip (body_blocks mode image 0 image.bodies) ∙ bodies_are rip mode image 0 image.bodies in
    let kernel : is_some (option_or (kernel_place mode rip) (stop_place rip)) ≡ list_any (begins_in rip) (kernel_listings mode) =
    or_some (kernel_place mode rip) (stop_place rip) ∙ kernel_is rip mode in
    or_some (option_map item_place items) (option_or (kernel_place mode rip) (stop_place rip)) ∙ (λ i. bodies i || kernel i)
    ∙ sym (any_append (begins_in rip) (body_listings mode image 0 image.bodies) (kernel_listings mode))
