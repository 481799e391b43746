-- How many bytes bodies have, and that no two listings of a mode and an image have an address in common.
use Rattle.std.proofs.Common.{◌≡◌, ℕ, zero, suc, ◌+◌, ◌*◌, ◌<◌, ◌≤◌, Bool, true, false, ◌&&◌, ◌||◌, List, [], ◌∷◌, ◌++◌, length, refl, ap, arith, ◌⊎◌, inl, inr, ⊎_elim}
use Rattle.std.specs.Prelude.{nat_le, if◌then◌else◌, pos, codes}
use Rattle.std.specs.List.{list_all}
use Rattle.std.proofs.lemmas.List.{map-append}
use Rattle.std.proofs.lemmas.Bool.{leb-true}
use Rattle.ev_isa.specs.declared.mode.Mode.{Mode}
use Rattle.ev_isa.specs.declared.mode.Mode.TheVariants.{Idt, Fred}
use Rattle.ev_isa.specs.declared.instruction.Ins.TheVariants.{PushImm}
use Rattle.ev_isa.specs.Spelling.{spelling, four_bytes}
use Rattle.ev_event.specs.Event.{has_error_code}
use Rattle.ev_body.specs.declared.key.Key.{Key}
use Rattle.ev_body.specs.declared.item.Item.{Item}
use Rattle.ev_body.specs.declared.item.Item.TheVariants.{Set, Copy, Alu, Jcc, Goto, Nop, Log, Cpu, Slot, Put, Cell, SetCell, AddCell, SwapCell, Uget, Uput, GetReg, SetReg, SetRip, Map, Unmap, Resched, Sti, Cli, Eoi, Send, Call, Kick, Wait, Take, Finish, Ret}
use Rattle.ev_body.specs.declared.body.Body.{Body}
use Rattle.ev_body.specs.declared.image.Image.{Image}
use Rattle.ev_body.specs.Bodies.{body_items}
use Rattle.ev_body.specs.WellFormed.{IsImage, is_body}
use Rattle.ev_asm.specs.declared.statement.Stmt.{Stmt}
use Rattle.ev_asm.specs.Assembly.{size, total_size}
use Rattle.ev_listing.specs.AddressMap.{no_body, fred_page, vector_stub, sys_entry, common_entry, exit_entry, nmi_entry, repeat_entry, nbody_entry, exitn_entry, nlast_entry, body_code, code_end}
use Rattle.ev_listing.specs.Statements.{op, jmp}
use Rattle.ev_listing.specs.Marks.{Marked, Listing, stmts_of}
use Rattle.ev_listing.specs.Expansion.{expansion, expansions, body_stmts, function_address}
use Rattle.ev_listing.specs.IdtCode.{idt_listings, stubs, none, sys, common, exit, nmi, repeat, nbody, exitn, nlast}
use Rattle.ev_listing.specs.FredCode.{fred_listings}
use Rattle.ev_concrete.specs.Opening.{kernel_listings, body_listings, listings}
use Rattle.ev_symbolic.proofs.Values.{and_left, and_right}
use Rattle.ev_fetch.proofs.Placed.{end_of, Inside, Disjoint}

-- ---- bodies

total_append : (xs ys : List Stmt) → total_size (xs ++ ys) ≡ total_size xs + total_size ys
total_append [] ys = omega arith
total_append (x ∷ xs) ys = omega (arith, total_append xs ys)

-- an item has at most 34 instructions of at most 15 bytes
pub item_size : (mode : Mode) (b : ℕ) (key : Key) (function : ℕ → ℕ) (n : ℕ) (item : Item) → total_size (stmts_of (expansion mode b key function n item)) ≤ 510
unfolding expansion size spelling four_bytes
item_size mode b key function n (Set d v) = omega arith
item_size mode b key function n (Copy d s) = omega arith
item_size mode b key function n (Alu o d s) = omega arith
item_size mode b key function n (Jcc c i) = omega arith
item_size mode b key function n (Goto i) = omega arith
item_size mode b key function n Nop = omega arith
item_size mode b key function n (Log s) = omega arith
item_size mode b key function n (Cpu d) = omega arith
item_size mode b key function n (Slot d k) = omega arith
item_size mode b key function n (Put k s) = omega arith
item_size mode b key function n (Cell d k) = omega arith
item_size mode b key function n (SetCell k s) = omega arith
item_size mode b key function n (AddCell k d) = omega arith
item_size mode b key function n (SwapCell k d) = omega arith
item_size mode b key function n (Uget d s) = omega arith
item_size mode b key function n (Uput s t) = omega arith
item_size mode b key function n (GetReg d r) = omega arith
item_size mode b key function n (SetReg r s) = omega arith
item_size mode b key function n (SetRip a) = omega arith
item_size mode b key function n (Map s) = omega arith
item_size mode b key function n (Unmap s) = omega arith
item_size mode b key function n Resched = omega arith
item_size mode b key function n Sti = omega arith
item_size mode b key function n Cli = omega arith
item_size mode b key function n Eoi = omega arith
item_size mode b key function n (Send to k) = omega arith
item_size mode b key function n Item.Bp = omega arith
item_size mode b key function n (Kick to s) = omega arith
item_size mode b key function n (Wait site) = omega arith
item_size mode b key function n (Call site to func s) = omega arith
item_size mode b key function n Take = omega arith
item_size mode b key function n Finish = omega arith
item_size mode b key function n Ret = omega arith

pub items_size : (mode : Mode) (b : ℕ) (key : Key) (function : ℕ → ℕ) (n : ℕ) (items : List Item)
    → total_size (stmts_of (expansions mode b key function n items)) ≤ 512 * length items
unfolding size
items_size mode b key function n [] = omega arith
items_size mode b key function n (item ∷ items) =
    let here = expansion mode b key function n item in
    let rest = expansions mode b key function (suc n) items in
    omega (
      arith,
      item_size mode b key function n item,
      items_size mode b key function (suc n) items,
      ap total_size (map-append (λ (l : Marked). l.stmt) here rest),
      total_append (stmts_of here) (stmts_of rest),
    )

pub body_size : (mode : Mode) (image : Image) (n : ℕ) (b : Body) → length (body_items b) ≤ 256 → total_size (stmts_of (body_stmts mode image n b)) ≤ 0x20000
unfolding body_stmts
body_size mode image n b h = omega (arith, items_size mode n b.key (function_address mode image) 0 (body_items b))

pub few_items : (bytes : ℕ) (b : Body) → is_body bytes b ≡ true → length (body_items b) ≤ 256
few_items bytes b h = leb-true (length (body_items b)) 256 (and_right _ (nat_le (length (body_items b)) 256) h)

-- the bodies from number n on stand in their own parts
bodies_inside : (mode : Mode) (image : Image) (bytes n : ℕ) (bs : List Body) → list_all (is_body bytes) bs ≡ true → (a : ℕ)
    → Inside (body_listings mode image n bs) a
    → (body_code n ≤ a) × (a < body_code n + 0x20000 * length bs)
bodies_inside mode image bytes n [] h a i = absurd i
bodies_inside mode image bytes n (b ∷ bs) h a i =
    let size = body_size mode image n b (few_items bytes b (and_left _ _ h)) in
    ⊎_elim (λ w. let l = w.0 in let k = w.1 in (l, omega arith))
    (λ r. let k = bodies_inside mode image bytes (suc n) bs (and_right (is_body bytes b) _ h) a r in let l = k.0 in let u = k.1 in (omega arith, omega arith)) i

bodies_disjoint : (mode : Mode) (image : Image) (bytes n : ℕ) (bs : List Body) → list_all (is_body bytes) bs ≡ true → Disjoint (body_listings mode image n bs)
bodies_disjoint mode image bytes n [] h = tt
bodies_disjoint mode image bytes n (b ∷ bs) h =
    let size = body_size mode image n b (few_items bytes b (and_left _ _ h)) in
    let rest = and_right (is_body bytes b) _ h in
    (λ a w i. let k = (bodies_inside mode image bytes (suc n) bs rest a i).0 in let u = w.1 in omega arith, bodies_disjoint mode image bytes (suc n) bs rest)

-- ---- listings of known sizes

-- each listing ends before an address, or begins at or behind another
abbrev are_outside : ℕ → ℕ → List Listing → Bool
are_outside low high [] = true
are_outside low high (b ∷ bs) = (nat_le (end_of b) low || nat_le high b.address) && are_outside low high bs

abbrev pub are_between : ℕ → ℕ → List Listing → Bool
are_between low high [] = true
are_between low high (b ∷ bs) = nat_le low b.address && nat_le (end_of b) high && are_between low high bs

abbrev are_apart : List Listing → Bool
are_apart [] = true
are_apart (b ∷ bs) = are_outside b.address (end_of b) bs && are_apart bs

outside : (low high : ℕ) (bs : List Listing) → are_outside low high bs ≡ true → (a : ℕ) → Inside bs a → low ≤ a → a < high → ⊥
outside low high [] h a i l k = i
outside low high (b ∷ bs) h a i l k = ⊎_elim
    (λ w. let from = w.0 in let to = w.1 in pick (nat_le (end_of b) low) refl (and_left _ _ h) from to)
    (λ r. outside low high bs (and_right (nat_le (end_of b) low || nat_le high b.address) _ h) a r l k) i
  where
    pick : (t : Bool) → nat_le (end_of b) low ≡ t → (t || nat_le high b.address) ≡ true → b.address ≤ a → a < end_of b → ⊥
    pick true q r from to = let e = leb-true (end_of b) low q in omega arith
    pick false q r from to = let e = leb-true high b.address r in omega arith

between : (low high : ℕ) (bs : List Listing) → are_between low high bs ≡ true → (a : ℕ) → Inside bs a → (low ≤ a) × (a < high)
between low high [] h a i = absurd i
between low high (b ∷ bs) h a i =
    let p = and_left (nat_le low b.address && nat_le (end_of b) high) _ h in
    let from = leb-true low b.address (and_left _ _ p) in
    let to = leb-true (end_of b) high (and_right (nat_le low b.address) _ p) in
    ⊎_elim (λ w. let l = w.0 in let k = w.1 in (omega arith, omega arith))
    (λ r. between low high bs (and_right (nat_le low b.address && nat_le (end_of b) high) _ h) a r) i

apart : (bs : List Listing) → are_apart bs ≡ true → Disjoint bs
apart [] h = tt
apart (b ∷ bs) h = (λ a w i. outside b.address (end_of b) bs (and_left _ _ h) a i w.0 w.1, apart bs (and_right (are_outside b.address (end_of b) bs) _ h))

either_inside : (xs ys : List Listing) (a : ℕ) → Inside (xs ++ ys) a → Inside xs a ⊎ Inside ys a
either_inside [] ys a h = inr h
either_inside (x ∷ xs) ys a h = ⊎_elim (λ w. inl (inl w)) (λ r. ⊎_elim (λ l. inl (inr l)) (λ k. inr k) (either_inside xs ys a r)) h

both_disjoint : (xs ys : List Listing) → Disjoint xs → Disjoint ys → ((a : ℕ) → Inside xs a → Inside ys a → ⊥) → Disjoint (xs ++ ys)
both_disjoint [] ys h k f = k
both_disjoint (x ∷ xs) ys h k f =
    (λ a w i. ⊎_elim (λ l. h.0 a w l) (λ r. f a (inl w) r) (either_inside xs ys a i), both_disjoint xs ys h.1 k (λ a i j. f a (inr i) j))

-- ---- the kernel's own code

abbrev pub stub_if : Bool → ℕ → List Marked
stub_if t v = (if t then [] else op (PushImm (pos 0)) ∷ []) ++ op (PushImm (pos v)) ∷ jmp (codes "COMMON") ∷ []

pub stub_size : (t : Bool) (v : ℕ) → total_size (stmts_of (stub_if t v)) ≤ 0x10
unfolding size spelling four_bytes
stub_size true v = omega arith
stub_size false v = omega arith

stubs_inside : (v n a : ℕ) → Inside (stubs v n) a → (vector_stub v ≤ a) × (a < vector_stub (v + n))
stubs_inside v zero a i = absurd i
stubs_inside v (suc n) a i =
    let size = stub_size (has_error_code v) v in
    ⊎_elim (λ w. let l = w.0 in let k = w.1 in (l, omega arith)) (λ r. let k = stubs_inside (suc v) n a r in let l = k.0 in let u = k.1 in
    (omega arith, omega arith)) i

stubs_disjoint : (v n : ℕ) → Disjoint (stubs v n)
stubs_disjoint v zero = tt
stubs_disjoint v (suc n) =
    let size = stub_size (has_error_code v) v in
    (λ a w i. let k = (stubs_inside (suc v) n a i).0 in let u = w.1 in omega arith, stubs_disjoint (suc v) n)

-- the IDT code without the stubs
abbrev pub idt_code : List Listing
idt_code =
    record { address = no_body; lines = none } ∷ record { address = sys_entry; lines = sys } ∷ record { address = common_entry; lines = common }
    ∷ record { address = exit_entry; lines = exit } ∷ record { address = nmi_entry; lines = nmi } ∷ record { address = repeat_entry; lines = repeat }
    ∷ record { address = nbody_entry; lines = nbody } ∷ record { address = exitn_entry; lines = exitn } ∷ record { address = nlast_entry; lines = nlast } ∷ []

pub idt_between : are_between fred_page code_end idt_code ≡ true
unfolding size spelling four_bytes
idt_between = refl

idt_apart : are_apart idt_code ≡ true
unfolding size spelling four_bytes
idt_apart = refl

idt_outside : are_outside (vector_stub 0) (vector_stub 256) idt_code ≡ true
unfolding size spelling four_bytes
idt_outside = refl

pub fred_between : are_between fred_page code_end fred_listings ≡ true
unfolding fred_listings size spelling four_bytes
fred_between = refl

fred_apart : are_apart fred_listings ≡ true
unfolding fred_listings size spelling four_bytes
fred_apart = refl

kernel_inside : (mode : Mode) (a : ℕ) → Inside (kernel_listings mode) a → (fred_page ≤ a) × (a < code_end)
unfolding idt_listings
kernel_inside Idt a i = ⊎_elim (λ l. between fred_page code_end idt_code idt_between a l) (λ r. let k = stubs_inside 0 256 a r in let l = k.0 in let u =
    k.1 in (omega arith, omega arith)) (either_inside idt_code (stubs 0 256) a i)
kernel_inside Fred a i = between fred_page code_end fred_listings fred_between a i

kernel_disjoint : (mode : Mode) → Disjoint (kernel_listings mode)
unfolding idt_listings
kernel_disjoint Idt = both_disjoint idt_code (stubs 0 256) (apart idt_code idt_apart) (stubs_disjoint 0 256)
    (λ a l r. let k = stubs_inside 0 256 a r in outside (vector_stub 0) (vector_stub 256) idt_code idt_outside a l k.0 k.1)
kernel_disjoint Fred = apart fred_listings fred_apart

-- ---- all listings

pub listings_disjoint : (mode : Mode) (image : Image) → IsImage image → Disjoint (listings mode image)
unfolding listings
listings_disjoint mode image is =
    let good = is.bodies_given.1 in
    both_disjoint (body_listings mode image 0 image.bodies) (kernel_listings mode) (bodies_disjoint mode image (length image.text) 0 image.bodies good)
    (kernel_disjoint mode)
    (λ a l r. let low = (bodies_inside mode image (length image.text) 0 image.bodies good a l).0 in let high = (kernel_inside mode a r).1 in omega arith)

-- an address of code is one of the entries and exits, or one of the bodies
pub listings_inside : (mode : Mode) (image : Image) → IsImage image → (a : ℕ) → Inside (listings mode image) a
    → ((fred_page ≤ a) × (a < code_end)) ⊎ ((body_code 0 ≤ a) × (a < body_code 0 + 0x20000 * length image.bodies))
unfolding listings
listings_inside mode image is a i = ⊎_elim (λ l. inr (bodies_inside mode image (length image.text) 0 image.bodies is.bodies_given.1 a l))
    (λ r. inl (kernel_inside mode a r))
    (either_inside (body_listings mode image 0 image.bodies) (kernel_listings mode) a i)
