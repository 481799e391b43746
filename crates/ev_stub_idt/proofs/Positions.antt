-- The blocks: their instructions have numbers, and the positions in them one after the other.
use Rattle.std.proofs.Common.{◌≡◌, ℕ, zero, suc, ◌+◌, ◌-◌, ◌/◌, ◌<◌, ◌≤◌, ◌^◌, ◌⊎◌, inl, inr, pos, Bool, true, false, if◌then◌else◌, List, [], ◌∷◌, ◌++◌, length, Option, Some, None, refl, ap, ◌∙◌, arith, codes, lit≤}
use Rattle.std.specs.Prelude.{nat_le}
use Rattle.std.specs.Option.{option_or}
use Rattle.std.proofs.lemmas.Bool.{and_from, lt-ltb, cases_lt}
use Rattle.ev_isa.specs.Instruction.{is_instruction}
use Rattle.ev_isa.specs.Spelling.{spelling, four_bytes}
use Rattle.ev_isa.specs.declared.instruction.Ins.TheVariants.{PushImm}
use Rattle.ev_event.specs.Event.{has_error_code}
use Rattle.ev_asm.specs.Assembly.{size, total_size}
use Rattle.ev_asm.specs.Assembled.{is_encoded, are_instructions}
use Rattle.ev_listing.specs.AddressMap.{vector_stub, sys_entry, common_entry, exit_entry, nmi_entry, repeat_entry, nbody_entry, exitn_entry, nlast_entry}
use Rattle.ev_listing.specs.IdtCode.{stub, sys, common, exit, nmi, repeat, nbody, exitn, nlast, idt_listings}
use Rattle.ev_listing.specs.Marks.{Marked, Listing, stmts_of}
use Rattle.ev_listing.specs.Statements.{op, jmp}
use Rattle.ev_stub.specs.Position.{in_block, index_from, position_in, is_countable}
use Rattle.ev_stub.proofs.Positions.{none_before, none_behind}
use Rattle.ev_stub_idt.specs.declared.position.IdtBlock.{IdtBlock}
use Rattle.ev_stub_idt.specs.declared.position.IdtBlock.TheVariants.{Vector, Sys, Common, Exit, Nmi, Repeat, Nbody, Exitn, Nlast}
use Rattle.ev_stub_idt.specs.Position.{vector_blocks, stub_blocks, entry_blocks}

pub sys_countable : is_countable sys_entry sys ≡ true
unfolding is_encoded is_instruction size spelling four_bytes
sys_countable = refl

pub common_countable : is_countable common_entry common ≡ true
unfolding is_encoded is_instruction size spelling four_bytes
common_countable = refl

pub exit_countable : is_countable exit_entry exit ≡ true
unfolding is_encoded is_instruction size spelling four_bytes
exit_countable = refl

pub nmi_countable : is_countable nmi_entry nmi ≡ true
unfolding is_encoded is_instruction size spelling four_bytes
nmi_countable = refl

pub repeat_countable : is_countable repeat_entry repeat ≡ true
unfolding is_encoded is_instruction size spelling four_bytes
repeat_countable = refl

pub nbody_countable : is_countable nbody_entry nbody ≡ true
unfolding is_encoded is_instruction size spelling four_bytes
nbody_countable = refl

pub exitn_countable : is_countable exitn_entry exitn ≡ true
unfolding is_encoded is_instruction size spelling four_bytes
exitn_countable = refl

pub nlast_countable : is_countable nlast_entry nlast ≡ true
unfolding is_encoded is_instruction size spelling four_bytes
nlast_countable = refl

-- ---- the stubs of vectors

-- a vector's stub, by whether its delivery pushes an error code
abbrev stub_by : Bool → ℕ → List Marked
stub_by b v = (if b then [] else op (PushImm (pos 0)) ∷ []) ++ op (PushImm (pos v)) ∷ jmp (codes "COMMON") ∷ []

stub_size : (v : ℕ) → total_size (stmts_of (stub v)) ≤ 15
unfolding size spelling four_bytes
stub_size v = elim (has_error_code v) as (λ b. total_size (stmts_of (stub_by b v)) ≤ 15) [ true ↦ lit≤ tt | false ↦ lit≤ tt ]

stub_instructions : (v : ℕ) → are_instructions (stmts_of (stub v)) ≡ true
unfolding is_encoded is_instruction
stub_instructions v = elim (has_error_code v) as (λ b. are_instructions (stmts_of (stub_by b v)) ≡ true) [ true ↦ refl | false ↦ refl ]

stub_lines : (v : ℕ) → nat_le (length (stub v)) 65535 ≡ true
stub_lines v = elim (has_error_code v) as (λ b. nat_le (length (stub_by b v)) 65535 ≡ true) [ true ↦ refl | false ↦ refl ]

pub stub_countable : (v : ℕ) → v < 256 → is_countable (vector_stub v) (stub v) ≡ true
stub_countable v small =
    and_from _ _ (stub_instructions v)
    (and_from _ _ (lt-ltb (vector_stub v + total_size (stmts_of (stub v))) (2 ^ 64) (omega (arith, stub_size v))) (stub_lines v))

below : (n v rip : ℕ) → rip < vector_stub v → position_in rip (vector_blocks v n) ≡ None
below zero v rip lt = refl
below (suc n) v rip lt = let e = none_before 0 (vector_stub v) rip (stub v) lt in rw e (below n (suc v) rip (omega arith))

above : (n v rip : ℕ) → vector_stub (v + n) ≤ rip → position_in rip (vector_blocks v n) ≡ None
above zero v rip le = refl
above (suc n) v rip le =
    let e = none_behind 0 (vector_stub v) rip (stub v) (omega (arith, stub_size v)) in rw e (above n (suc v) rip (omega arith))

pub none_outside : (rip : ℕ) → (rip < vector_stub 0) ⊎ (vector_stub 256 ≤ rip) → position_in rip stub_blocks ≡ None
unfolding stub_blocks
none_outside rip (inl lt) = below 256 0 rip lt
none_outside rip (inr le) = above 256 0 rip le

or_none : {A : Type 0} (x : Option A) → option_or x None ≡ x
or_none None = refl
or_none (Some x) = refl

-- the position in the stub of vector v
abbrev pub in_vector : ℕ → ℕ → Option (IdtBlock × ℕ)
in_vector rip v = in_block (Vector v) (index_from 0 (vector_stub v) rip (stub v))

only_there : (n v w rip : ℕ) → v ≤ w → w < v + n → vector_stub w ≤ rip → rip < vector_stub (suc w)
    → position_in rip (vector_blocks v n) ≡ in_vector rip w
only_there zero v w rip le lt from to = absurd (omega arith)
only_there (suc n) v w rip le lt from to = elim (cases_lt v w) [
  | inl less ↦ (let e = none_behind 0 (vector_stub v) rip (stub v) (omega (arith, stub_size v)) in
      rw e (only_there n (suc v) w rip (omega arith) (omega arith) from to))
  | inr more ↦ (let same : v ≡ w = omega arith in
      ap (option_or (in_vector rip v)) (below n (suc v) rip (omega arith)) ∙ or_none (in_vector rip v) ∙ ap (in_vector rip) same)
]

pub stub_at : (rip : ℕ) → vector_stub 0 ≤ rip → rip < vector_stub 256 → position_in rip stub_blocks ≡ in_vector rip ((rip - vector_stub 0) / 16)
unfolding stub_blocks
stub_at rip from to = only_there 256 0 ((rip - vector_stub 0) / 16) rip (omega arith) (omega arith) (omega arith) (omega arith)

-- ---- blocks in turn

pub position_append : {B : Type 0} (rip : ℕ) (xs ys : List (B × Listing))
    → option_or (position_in rip xs) (position_in rip ys) ≡ position_in rip (xs ++ ys)
position_append rip [] ys = refl
position_append rip (e ∷ xs) ys = or_assoc (in_block e.0 (index_from 0 e.1.address rip e.1.lines)) (position_in rip xs) (position_in rip ys)
    ∙ ap (option_or (in_block e.0 (index_from 0 e.1.address rip e.1.lines))) (position_append rip xs ys)
  where
    or_assoc : {A : Type 0} (x y z : Option A) → option_or (option_or x y) z ≡ option_or x (option_or y z)
    or_assoc None y z = refl
    or_assoc (Some x) y z = refl

in_turn : {A : Type 0} (x a b c d e f g h : Option A)
    → option_or (option_or (option_or (option_or (option_or (option_or (option_or (option_or x a) b) c) d) e) f) g) h
    ≡ option_or x (option_or a (option_or b (option_or c (option_or d (option_or e (option_or f (option_or g (option_or h None))))))))
in_turn (Some x) a b c d e f g h = refl
in_turn None (Some a) b c d e f g h = refl
in_turn None None (Some b) c d e f g h = refl
in_turn None None None (Some c) d e f g h = refl
in_turn None None None None (Some d) e f g h = refl
in_turn None None None None None (Some e) f g h = refl
in_turn None None None None None None (Some f) g h = refl
in_turn None None None None None None None (Some g) h = refl
in_turn None None None None None None None None (Some h) = refl
in_turn None None None None None None None None None = refl

pub entries_in_turn : (rip : ℕ) (x : Option (IdtBlock × ℕ))
    → option_or (option_or (option_or (option_or (option_or (option_or (option_or (option_or x
    (in_block Sys (index_from 0 sys_entry rip sys)))
    (in_block Common (index_from 0 common_entry rip common)))
    (in_block Exit (index_from 0 exit_entry rip exit)))
    (in_block Nmi (index_from 0 nmi_entry rip nmi)))
    (in_block Repeat (index_from 0 repeat_entry rip repeat)))
    (in_block Nbody (index_from 0 nbody_entry rip nbody)))
    (in_block Exitn (index_from 0 exitn_entry rip exitn)))
    (in_block Nlast (index_from 0 nlast_entry rip nlast)) ≡ option_or x (position_in rip entry_blocks)
unfolding idt_listings
entries_in_turn rip x =
    in_turn x (in_block Sys (index_from 0 sys_entry rip sys)) (in_block Common (index_from 0 common_entry rip common))
    (in_block Exit (index_from 0 exit_entry rip exit)) (in_block Nmi (index_from 0 nmi_entry rip nmi))
    (in_block Repeat (index_from 0 repeat_entry rip repeat)) (in_block Nbody (index_from 0 nbody_entry rip nbody))
    (in_block Exitn (index_from 0 exitn_entry rip exitn)) (in_block Nlast (index_from 0 nlast_entry rip nlast))
