-- The sections of all code can be linked, and their blocks lie in the code's regions.
use Rattle.std.proofs.Common.{◌≡◌, ℕ, suc, ◌+◌, ◌^◌, ◌<◌, ◌≤◌, Bool, true, false, ◌&&◌, List, [], ◌∷◌, ◌++◌, map, length, refl, sym, ap, ◌∙◌, arith, subst}
use Rattle.std.specs.Prelude.{nat_le, ◌||◌}
use Rattle.std.specs.List.{list_all}
use Rattle.std.proofs.lemmas.Bool.{le-leb, lt-ltb}
use Rattle.ev_isa.specs.Instruction.{is_instruction}
use Rattle.ev_isa.specs.Spelling.{spelling, four_bytes}
use Rattle.ev_isa.specs.declared.mode.Mode.{Mode}
use Rattle.ev_isa.specs.declared.mode.Mode.TheVariants.{Idt, Fred}
use Rattle.ev_body.specs.declared.body.Body.{Body}
use Rattle.ev_body.specs.declared.image.Image.{Image}
use Rattle.ev_body.specs.WellFormed.{IsImage, is_body}
use Rattle.ev_asm.specs.declared.block.Block.{Block}
use Rattle.ev_asm.specs.declared.linking.Section.{Section}
use Rattle.ev_asm.specs.declared.statement.Stmt.{Stmt}
use Rattle.ev_asm.specs.declared.statement.Stmt.TheVariants.{Label, Plain, Jump}
use Rattle.ev_asm.specs.Assembly.{Places, size, total_size, place, code}
use Rattle.ev_asm.specs.Assembled.{is_encoded, are_instructions}
use Rattle.ev_asm.specs.Linked.{linked, reaches, all_reach, is_linkable, AreLinkable}
use Rattle.ev_listing.specs.AddressMap.{fred_page, code_end, body_code}
use Rattle.ev_listing.specs.Expansion.{body_stmts}
use Rattle.ev_listing.specs.FredCode.{fred_listings}
use Rattle.ev_listing.specs.IdtCode.{idt_listings}
use Rattle.ev_listing.specs.Marks.{Listing, Marked, stmts_of, all_places}
use Rattle.ev_concrete.specs.Opening.{Placed, placed_code, body_listings, kernel_listings, listings, code_of}
use Rattle.ev_stub.specs.Blocks.{section_of, block_of}
use Rattle.ev_stub.proofs.Listed.{sections_places, linked_is}
use Rattle.ev_fetch.specs.Spelled.{has_spelling}
use Rattle.ev_fetch.proofs.Regions.{Each, and_both}
use Rattle.ev_fetch.proofs.Labels.{LiesInCode, IsSpelledWith}
use Rattle.ev_fetch.proofs.Placed.{end_of, code_length}
use Rattle.ev_fetch.proofs.Sizes.{body_size, few_items}
use Rattle.ev_fetch.proofs.AllSpelled.{listings_lie, statements_are_spelled}
use Rattle.ev_layout.specs.Filled.{is_placed, are_placed}
use Rattle.ev_layout.specs.Placed.{placed}
use Rattle.ev_layout.proofs.Among.{split}

-- ---- listings whose statements have spellings can be linked

counts_by : (env : Places) (ls : List Marked) → Each (λ l. IsSpelledWith env l.stmt) ls → are_instructions (stmts_of ls) ≡ true
unfolding is_encoded
counts_by env [] h = refl
counts_by env (l ∷ ls) h = one l.stmt h.0 (counts_by env ls h.1)
  where
    one : (s : Stmt) → IsSpelledWith env s → are_instructions (stmts_of ls) ≡ true → (is_encoded s && are_instructions (stmts_of ls)) ≡ true
    one (Label name) h k = k
    one (Plain i) h k = and_both (is_instruction i) _ h.counts k
    one (Jump c name) h k = k

reach_by : (env : Places) (a : ℕ) (ls : List Marked) → Each (λ l. IsSpelledWith env l.stmt) ls → 0xffffffff81000000 ≤ a
    → a + total_size (stmts_of ls) ≤ 0xffffffff82800000 → all_reach env a (stmts_of ls) ≡ true
unfolding all_reach reaches
reach_by env a [] h l g = refl
reach_by env a (x ∷ xs) h l g = one x.stmt h.0 (omega arith) (omega arith) (reach_by env (a + size x.stmt) xs h.1 (omega arith) (omega arith))
  where
    one : (s : Stmt) → IsSpelledWith env s → 0xffffffff81000000 ≤ a + size s → a + size s ≤ 0xffffffff82800000
        → all_reach env (a + size s) (stmts_of xs) ≡ true → (reaches env a s && all_reach env (a + size s) (stmts_of xs)) ≡ true
    one (Label name) h l g k = k
    one (Plain i) h l g k = k
    one (Jump c name) h l g k =
        let h0 = h.0 in
        let h1 = h.1 in
        and_both _ _
        (and_both _ _ (le-leb (place env name) (a + size (Jump c name) + 2147483647) (omega arith))
        (le-leb (a + size (Jump c name)) (place env name + 2147483647) (omega arith)))
        k

linkable_by : (env : Places) (b : Listing) → LiesInCode b → Each (λ l. IsSpelledWith env l.stmt) b.lines → is_linkable env (section_of b) ≡ true
linkable_by env b l h =
    let l0 = l.0 in
    let l1 = l.1 in
    and_both _ _ (counts_by env b.lines h)
    (and_both _ _ (reach_by env b.address b.lines h l0 l1) (lt-ltb (b.address + total_size (stmts_of b.lines)) (2 ^ 64) (omega arith)))

all_by : (env : Places) (bs : List Listing) → Each LiesInCode bs → Each (λ b. Each (λ l. IsSpelledWith env l.stmt) b.lines) bs
    → list_all (is_linkable env) (map section_of bs) ≡ true
all_by env [] l h = refl
all_by env (b ∷ bs) l h = and_both _ _ (linkable_by env b l.0 h.0) (all_by env bs l.1 h.1)

pub all_linkable : (mode : Mode) (image : Image) → IsImage image → list_all (has_spelling image.processors) image.bodies ≡ true
    → AreLinkable (map section_of (listings mode image))
all_linkable mode image is h =
    let bs : List Listing = listings mode image in
    subst (λ (env : Places). list_all (is_linkable env) (map section_of bs) ≡ true) (sym (sections_places bs))
    (all_by (all_places bs) bs (listings_lie mode image is) (statements_are_spelled mode image is h))

pub sections_append : (xs ys : List Listing) → map section_of (xs ++ ys) ≡ map section_of xs ++ map section_of ys
sections_append [] ys = refl
sections_append (x ∷ xs) ys = ap (λ (l : List Section). section_of x ∷ l) (sections_append xs ys)

-- ---- blocks

all_append : {X : Type 0} (t : X → Bool) (xs ys : List X) → list_all t xs ≡ true → list_all t ys ≡ true → list_all t (xs ++ ys) ≡ true
all_append t [] ys h k = k
all_append t (x ∷ xs) ys h k = let s = split (t x) (list_all t xs) h in let e = s.0 in rw e (all_append t xs ys s.1 k)

or_left : (x y : Bool) → x ≡ true → (x || y) ≡ true
or_left x y h = rw h refl

or_right : (x y : Bool) → y ≡ true → (x || y) ≡ true
or_right true y h = refl
or_right false y h = h

block_in_kernel : (m : ℕ) (env : Places) (b : Listing) → (nat_le fred_page b.address && nat_le (end_of b) code_end) ≡ true
    → is_placed m (block_of env b) ≡ true
unfolding is_placed
block_in_kernel m env b h =
    or_left _ _ (ap (λ (x : ℕ). nat_le fred_page b.address && nat_le (b.address + x) code_end) (code_length env b.address (stmts_of b.lines)) ∙ h)

block_in_bodies : (m n : ℕ) (env : Places) (b : Listing) → b.address ≡ body_code n → n < m → total_size (stmts_of b.lines) ≤ 0x20000
    → is_placed m (block_of env b) ≡ true
unfolding is_placed
block_in_bodies m n env b e l h =
    let z = code_length env b.address (stmts_of b.lines) in
    let x : nat_le (body_code 0) b.address ≡ true = le-leb (body_code 0) b.address (omega arith) in
    let y : nat_le (b.address + length (code env b.address (stmts_of b.lines))) (body_code m) ≡ true =
    le-leb (b.address + length (code env b.address (stmts_of b.lines))) (body_code m) (omega arith) in
    or_right _ _ (λ i. x i && y i)

bodies_placed : (m : ℕ) (env : Places) (mode : Mode) (image : Image) (bytes n : ℕ) (bs : List Body) → list_all (is_body bytes) bs ≡ true
    → n + length bs ≤ m → are_placed m (map (block_of env) (body_listings mode image n bs)) ≡ true
bodies_placed m env mode image bytes n [] h l = refl
bodies_placed m env mode image bytes n (b ∷ bs) h l =
    let s = split (is_body bytes b) _ h in
    let x = block_in_bodies m n env (record { address = body_code n; lines = body_stmts mode image n b }) refl (omega arith)
    (body_size mode image n b (few_items bytes b s.0)) in
    let y = bodies_placed m env mode image bytes (suc n) bs s.1 (omega arith) in
    λ i. x i && y i

abbrev is_kernel_listing : Listing → Bool
is_kernel_listing b = nat_le fred_page b.address && nat_le (end_of b) code_end

all_in_kernel : (m : ℕ) (env : Places) (bs : List Listing) → list_all is_kernel_listing bs ≡ true → are_placed m (map (block_of env) bs) ≡ true
all_in_kernel m env [] h = refl
all_in_kernel m env (b ∷ bs) h =
    let s = split (is_kernel_listing b) _ h in
    let x = block_in_kernel m env b s.0 in
    let y = all_in_kernel m env bs s.1 in
    λ i. x i && y i

idt_in_kernel : list_all is_kernel_listing idt_listings ≡ true
unfolding idt_listings size spelling four_bytes
idt_in_kernel = refl

fred_in_kernel : list_all is_kernel_listing fred_listings ≡ true
unfolding fred_listings size spelling four_bytes
fred_in_kernel = refl

kernel_placed : (m : ℕ) (env : Places) (mode : Mode) → are_placed m (map (block_of env) (kernel_listings mode)) ≡ true
kernel_placed m env Idt = all_in_kernel m env idt_listings idt_in_kernel
kernel_placed m env Fred = all_in_kernel m env fred_listings fred_in_kernel

blocks_append : (env : Places) (xs ys : List Listing) → map (block_of env) (xs ++ ys) ≡ map (block_of env) xs ++ map (block_of env) ys
blocks_append env [] ys = refl
blocks_append env (x ∷ xs) ys = ap (λ (l : List Block). block_of env x ∷ l) (blocks_append env xs ys)

all_placed_in : (env : Places) (mode : Mode) (image : Image) → IsImage image
    → are_placed (length image.bodies) (map (block_of env) (listings mode image)) ≡ true
unfolding listings
all_placed_in env mode image is =
    let n : ℕ = length image.bodies in
    ap (are_placed n) (blocks_append env (body_listings mode image 0 image.bodies) (kernel_listings mode))
    ∙ all_append (is_placed n) (map (block_of env) (body_listings mode image 0 image.bodies)) (map (block_of env) (kernel_listings mode))
    (bodies_placed n env mode image (length image.text) 0 image.bodies is.bodies_given.1 (omega arith)) (kernel_placed n env mode)

pub blocks_placed : (mode : Mode) (image : Image) → IsImage image → are_placed (length image.bodies) (linked (map section_of (listings mode image))) ≡ true
blocks_placed mode image is = ap (are_placed (length image.bodies)) (linked_is (listings mode image))
    ∙ all_placed_in (all_places (listings mode image)) mode image is

code_is : (env : Places) (bs : List Listing) → placed (map (block_of env) bs) ≡ placed_code env bs
code_is env [] = refl
code_is env (b ∷ bs) = ap (λ (l : Placed). (b.address, code env b.address (stmts_of b.lines)) ∷ l) (code_is env bs)

pub blocks_are : (bs : List Listing) → placed (linked (map section_of bs)) ≡ code_of bs
blocks_are bs = ap placed (linked_is bs) ∙ code_is (all_places bs) bs
