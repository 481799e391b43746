-- The lines of the blocks stand in code that has the kernel's cells.
use Rattle.std.proofs.Common.{◌≡◌, ℕ, zero, suc, pos, negsuc, ◌+◌, ◌-◌, ◌*◌, ◌%◌, ◌^◌, ◌<◌, ◌≤◌, Bool, true, false, List, [], ◌∷◌, ◌++◌, Some, refl, sym, ap, ◌∙◌, subst, arith, inl, inr}
use Rattle.std.specs.Prelude.{nat_le, if◌then◌else◌, codes}
use Rattle.std.proofs.lemmas.Bool.{le-leb, leb-true, leb-false}
use Rattle.ev_isa.specs.Word.{displaced}
use Rattle.ev_isa.specs.Spelling.{spelling, four_bytes}
use Rattle.ev_isa.specs.declared.instruction.Ins.TheVariants.{PushImm, Jmp}
use Rattle.ev_isa.specs.declared.mode.Mode.TheVariants.{Idt}
use Rattle.ev_event.specs.Event.{has_error_code}
use Rattle.ev_asm.specs.Assembly.{Places, place, size, places, distance}
use Rattle.ev_listing.specs.AddressMap.{vector_stub, common_entry, no_body, sys_entry, exit_entry, nmi_entry, repeat_entry, nbody_entry, exitn_entry, nlast_entry}
use Rattle.ev_listing.specs.FredCode.{fred_listings}
use Rattle.ev_listing.specs.IdtCode.{stub, stubs, idt_listings, none, sys, common, exit, nmi, repeat, nbody, exitn, nlast}
use Rattle.ev_listing.specs.Marks.{Marked, Listing, stmts_of, all_places}
use Rattle.ev_listing.specs.Statements.{op, jmp}
use Rattle.ev_symbolic.specs.Value.{M}
use Rattle.ev_symbolic.specs.Agrees.{Env, Code, edge_cell, Stands}
use Rattle.ev_symbolic.specs.Listed.{lines_at, cells_from, cells_in, are_low, AllFound, IsIn, AreIn}
use Rattle.ev_symbolic.specs.Names.{stub_tag}
use Rattle.ev_symbolic.specs.Openings.{at_base}
use Rattle.ev_symbolic.proofs.Listed.{stands_in}
use Rattle.ev_symbolic.proofs.Parts.{one_found, parts_stand}
use Rattle.ev_blocks.specs.Fred.{FredSpot, FromUser, FromKernel, Leaves, LeavesNmi, fred_lines, fred_block}
use Rattle.ev_blocks.specs.Fred as fred
use Rattle.ev_blocks.specs.Idt as idt
use Rattle.ev_blocks.specs.Idt.{IdtSpot, Stub, Sys, Common, no_listing, sys_listing, common_listing, exit_listing, nmi_listing, repeat_listing, nbody_listing, exitn_listing, nlast_listing, idt_places, sys_lines, common_lines, exit_lines, stub_code, idt_block}
use Rattle.ev_blocks.specs.Nmi as nmi_spots
use Rattle.ev_blocks.specs.Nmi.{NmiSpot, Choosing, Repeats, Begins, nmi_lines, repeat_lines, nbody_lines, exitn_lines, nmi_block}
use Rattle.ev_paths.specs.Lines.{HasKernel, FredLinesStand, IdtLinesStand, NmiLinesStand, StubJump, StubsJump}

-- ---- FRED: one listing

fred_low : are_low (cells_in (all_places fred_listings) fred_listings) ≡ true
unfolding fred_listings spelling four_bytes size places distance
fred_low = refl

pub fred_stand : FredLinesStand
unfolding fred_lines
fred_stand code e z f (FromUser w) = stands_in code e z (all_places fred_listings) fred_listings f fred_low
fred_stand code e z f FromKernel = stands_in code e z (all_places fred_listings) fred_listings f fred_low
fred_stand code e z f (fred.Leaves x) = stands_in code e z (all_places fred_listings) fred_listings f fred_low
fred_stand code e z f (LeavesNmi o) = stands_in code e z (all_places fred_listings) fred_listings f fred_low

-- ---- IDT: the entries of vectors have no label

-- the entry of a vector, by whether the processor pushes an error code
abbrev stub_by : Bool → ℕ → List Marked
stub_by has v = (if has then [] else op (PushImm (pos 0)) ∷ []) ++ op (PushImm (pos v)) ∷ jmp (codes "COMMON") ∷ []

no_labels : (v n : ℕ) → all_places (stubs v n) ≡ []
unfolding places
no_labels v zero = refl
no_labels v (suc n) = by_test (has_error_code v) ∙ no_labels (suc v) n
  where
    by_test : (b : Bool) → places (vector_stub v) (stmts_of (stub_by b v)) ++ all_places (stubs (suc v) n) ≡ all_places (stubs (suc v) n)
    by_test true = refl
    by_test false = refl

abbrev behind_labels : Places → Places
behind_labels xs =
    places no_body (stmts_of none) ++ places sys_entry (stmts_of sys) ++ places common_entry (stmts_of common) ++ places exit_entry (stmts_of exit)
    ++ places nmi_entry (stmts_of nmi) ++ places repeat_entry (stmts_of repeat) ++ places nbody_entry (stmts_of nbody) ++ places exitn_entry (stmts_of exitn)
    ++ places nlast_entry (stmts_of nlast) ++ xs

pub same_places : all_places idt_listings ≡ idt_places
unfolding idt_listings idt_places places
same_places = ap behind_labels (no_labels 0 256)

pub in_places : (code : Code) → HasKernel Idt code → AllFound code (cells_in idt_places idt_listings)
in_places code f = subst (λ env. AllFound code (cells_in env idt_listings)) same_places f

-- the sections that blocks run through
sys_in : AreIn (sys_listing ∷ common_listing ∷ []) idt_listings
unfolding idt_listings
sys_in = (inr (inl refl), (inr (inr (inl refl)), tt))

pub common_in : AreIn (common_listing ∷ []) idt_listings
unfolding idt_listings
common_in = (inr (inr (inl refl)), tt)

pub exit_in : AreIn (exit_listing ∷ []) idt_listings
unfolding idt_listings
exit_in = (inr (inr (inr (inl refl))), tt)

pub nmi_in : AreIn (nmi_listing ∷ []) idt_listings
unfolding idt_listings
nmi_in = (inr (inr (inr (inr (inl refl)))), tt)

pub repeat_in : AreIn (repeat_listing ∷ []) idt_listings
unfolding idt_listings
repeat_in = (inr (inr (inr (inr (inr (inl refl))))), tt)

pub nbody_in : AreIn (nbody_listing ∷ []) idt_listings
unfolding idt_listings
nbody_in = (inr (inr (inr (inr (inr (inr (inl refl)))))), tt)

pub exitn_in : AreIn (exitn_listing ∷ nlast_listing ∷ []) idt_listings
unfolding idt_listings
exitn_in = (inr (inr (inr (inr (inr (inr (inr (inl refl))))))), (inr (inr (inr (inr (inr (inr (inr (inr (inl refl)))))))), tt))

abbrev Low : List Listing → Type 0
Low parts = are_low (cells_in idt_places parts) ≡ true

sys_low : Low (sys_listing ∷ common_listing ∷ [])
unfolding idt_places spelling four_bytes size places distance
sys_low = refl

common_low : Low (common_listing ∷ [])
unfolding idt_places spelling four_bytes size places distance
common_low = refl

exit_low : Low (exit_listing ∷ [])
unfolding idt_places spelling four_bytes size places distance
exit_low = refl

nmi_low : Low (nmi_listing ∷ [])
unfolding idt_places spelling four_bytes size places distance
nmi_low = refl

repeat_low : Low (repeat_listing ∷ [])
unfolding idt_places spelling four_bytes size places distance
repeat_low = refl

nbody_low : Low (nbody_listing ∷ [])
unfolding idt_places spelling four_bytes size places distance
nbody_low = refl

exitn_low : Low (exitn_listing ∷ nlast_listing ∷ [])
unfolding idt_places spelling four_bytes size places distance
exitn_low = refl

-- ---- the entry of a vector

stub_in : (v k n : ℕ) → k ≤ v → v < k + n → IsIn (record { address = vector_stub v; lines = stub v }) (stubs k n)
stub_in v k zero h l = absurd (omega arith)
stub_in v k (suc n) h l = pick (nat_le (suc k) v) refl (λ i. stub_in v (suc k) n i (omega arith))
  where
    pick : (b : Bool) → nat_le (suc k) v ≡ b → (suc k ≤ v → IsIn (record { address = vector_stub v; lines = stub v }) (stubs (suc k) n))
        → IsIn (record { address = vector_stub v; lines = stub v }) (stubs k (suc n))
    pick true q r = inr (r (leb-true (suc k) v q))
    pick false q r = inl (ap (λ x. record { address = vector_stub x; lines = stub x }) (let lt = leb-false (suc k) v q in let e : v ≡ k = omega arith in e))

behind_sections : (b : Listing) → IsIn b (stubs 0 256) → IsIn b idt_listings
unfolding idt_listings
behind_sections b h = inr (inr (inr (inr (inr (inr (inr (inr (inr h))))))))

stub_found : (code : Code) → HasKernel Idt code → (v : ℕ) → v < 256 → AllFound code (cells_from idt_places (vector_stub v) (stub_by (has_error_code v) v))
stub_found code f v h =
    one_found code idt_places (record { address = vector_stub v; lines = stub v }) idt_listings
    (behind_sections (record { address = vector_stub v; lines = stub v }) (stub_in v 0 256 (omega arith) (omega arith))) (in_places code f)

at_stub : (e : Env) (v o : ℕ) → v < 256 → o < 16 → e.base stub_tag ≡ vector_stub v → (e.base stub_tag + o) % M ≡ vector_stub v + o
at_stub e v o h k q = ap (λ x. (x + o) % M) q ∙ (let z : ((0xffffffff81002000 + 0x10 * v) + o) % M ≡ (0xffffffff81002000 + 0x10 * v) + o = omega arith in z)

stub_stand : (code : Code) (e : Env) (has : Bool) (v : ℕ) → v < 256 → e.base stub_tag ≡ vector_stub v
    → AllFound code (cells_from idt_places (vector_stub v) (stub_by has v)) → Stands code e (lines_at (at_base stub_tag 0) (stub_code has v))
unfolding size spelling four_bytes
stub_stand code e true v h q f =
    let a0 : (e.base stub_tag + 0) % M ≡ vector_stub v = at_stub e v 0 h (omega arith) q ∙ (let z : vector_stub v + 0 ≡ vector_stub v = omega arith in z) in
    let a5 = at_stub e v 5 h (omega arith) q in
    (ap code a0 ∙ f.0 ∙ ap (λ n. Some (edge_cell (PushImm (pos v)) n)) (sym a5), tt)
stub_stand code e false v h q f =
    let a0 : (e.base stub_tag + 0) % M ≡ vector_stub v = at_stub e v 0 h (omega arith) q ∙ (let z : vector_stub v + 0 ≡ vector_stub v = omega arith in z) in
    let a5 = at_stub e v 5 h (omega arith) q in
    let a10 : (e.base stub_tag + 10) % M ≡ (vector_stub v + 5) + 5 =
    at_stub e v 10 h (omega arith) q ∙ (let z : vector_stub v + 10 ≡ (vector_stub v + 5) + 5 = omega arith in z) in (
      ap code a0 ∙ f.0 ∙ ap (λ n. Some (edge_cell (PushImm (pos 0)) n)) (sym a5),
      (ap code a5 ∙ f.1.0 ∙ ap (λ n. Some (edge_cell (PushImm (pos v)) n)) (sym a10), tt),
    )

pub idt_stand : IdtLinesStand
unfolding sys_lines common_lines exit_lines
idt_stand code e z f (Stub o has v) h =
    stub_stand code e has v h.0 h.2 (subst (λ b. AllFound code (cells_from idt_places (vector_stub v) (stub_by b v))) h.1 (stub_found code f v h.0))
idt_stand code e z f Sys h =
    parts_stand code e z idt_places (sys_listing ∷ common_listing ∷ []) idt_listings sys_in (in_places code f) sys_low
idt_stand code e z f (Common o true) h = parts_stand code e z idt_places (common_listing ∷ []) idt_listings common_in (in_places code f) common_low
idt_stand code e z f (Common o false) h = parts_stand code e z idt_places (common_listing ∷ []) idt_listings common_in (in_places code f) common_low
idt_stand code e z f (idt.Leaves x) h = parts_stand code e z idt_places (exit_listing ∷ []) idt_listings exit_in (in_places code f) exit_low

pub nmi_stand : NmiLinesStand
unfolding nmi_lines repeat_lines nbody_lines exitn_lines
nmi_stand code e z f (Choosing c g) = parts_stand code e z idt_places (nmi_listing ∷ []) idt_listings nmi_in (in_places code f) nmi_low
nmi_stand code e z f (Repeats g) = parts_stand code e z idt_places (repeat_listing ∷ []) idt_listings repeat_in (in_places code f) repeat_low
nmi_stand code e z f (Begins b) = parts_stand code e z idt_places (nbody_listing ∷ []) idt_listings nbody_in (in_places code f) nbody_low
nmi_stand code e z f (nmi_spots.Leaves x) =
    parts_stand code e z idt_places (exitn_listing ∷ nlast_listing ∷ []) idt_listings exitn_in (in_places code f) exitn_low

-- ---- its jump

common_is : place idt_places (codes "COMMON") ≡ common_entry
unfolding idt_places size spelling four_bytes places
common_is = refl

forward : (target next : ℕ) → next ≤ target → target < 2 ^ 64 → displaced next (distance target next) ≡ target
unfolding distance
forward target next h k = ap (λ b. displaced next (if b then pos (target - next) else negsuc (next - target - 1))) (le-leb next target h)
    ∙ (let e : (next + (target - next)) % 2 ^ 64 ≡ target = omega arith in e)

pub stubs_jump : StubsJump
unfolding size spelling four_bytes
stubs_jump code f v h = by_test (has_error_code v) (stub_found code f v h)
  where
    leads : (o : ℕ) → o < 16 → displaced (vector_stub v + o) (distance (place idt_places (codes "COMMON")) (vector_stub v + o)) ≡ common_entry
    leads o k = ap (λ t. displaced (vector_stub v + o) (distance t (vector_stub v + o))) common_is
        ∙ forward common_entry (vector_stub v + o) (omega arith) (omega arith)

    by_test : (has : Bool) → AllFound code (cells_from idt_places (vector_stub v) (stub_by has v)) → StubJump code v has
    by_test true g = record {
      distance = distance (place idt_places (codes "COMMON")) (vector_stub v + 5 + 5);
      is = g.1.0;
      leads = ap (λ n. displaced n (distance (place idt_places (codes "COMMON")) n)) (let z : vector_stub v + 5 + 5 ≡ vector_stub v + 10 = omega arith in z)
          ∙ leads 10 (omega arith);
    }
    by_test false g = record {
      distance = distance (place idt_places (codes "COMMON")) (vector_stub v + 10 + 5);
      is = subst (λ a. code a ≡ Some (edge_cell (Jmp (distance (place idt_places (codes "COMMON")) (a + 5))) (a + 5)))
          (let z : vector_stub v + 5 + 5 ≡ vector_stub v + 10 = omega arith in z) g.1.1.0;
      leads = ap (λ n. displaced n (distance (place idt_places (codes "COMMON")) n)) (let z : vector_stub v + 10 + 5 ≡ vector_stub v + 15 = omega arith in z)
          ∙ leads 15 (omega arith);
    }
