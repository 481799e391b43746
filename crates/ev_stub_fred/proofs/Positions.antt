-- The blocks: their instructions have numbers, and the positions in them one after the other.
use Rattle.std.proofs.Common.{◌≡◌, ℕ, ◌+◌, true, [], ◌∷◌, ◌++◌, Option, Some, None, refl, ap, ◌∙◌, codes}
use Rattle.std.specs.Option.{option_or, option_map}
use Rattle.ev_isa.specs.Instruction.{is_instruction}
use Rattle.ev_isa.specs.Spelling.{spelling, four_bytes}
use Rattle.ev_asm.specs.Assembly.{size}
use Rattle.ev_asm.specs.Assembled.{is_encoded}
use Rattle.ev_listing.specs.AddressMap.{fred_page}
use Rattle.ev_listing.specs.FredCode.{entries, exits, fred_listings}
use Rattle.ev_listing.specs.Statements.{jmp}
use Rattle.ev_stub.specs.Position.{in_block, index_from, is_countable}
use Rattle.ev_stub.proofs.Positions.{count_behind, address_behind, index_append}
use Rattle.ev_stub_fred.specs.declared.position.FredBlock.{FredBlock}
use Rattle.ev_stub_fred.specs.declared.position.FredBlock.TheVariants.{User, Kernel, Main}
use Rattle.ev_stub_fred.specs.Position.{place_of, fred_place_at}

pub user_countable : is_countable fred_page (jmp (codes "FU") ∷ []) ≡ true
unfolding is_encoded size
user_countable = refl

pub kernel_countable : is_countable (fred_page + 0x100) (jmp (codes "FK") ∷ []) ≡ true
unfolding is_encoded size
kernel_countable = refl

pub entries_countable : is_countable (fred_page + 0x200) entries ≡ true
unfolding is_encoded is_instruction size spelling four_bytes
entries_countable = refl

pub exits_countable : is_countable (fred_page + 0x379) exits ≡ true
unfolding is_encoded is_instruction size spelling four_bytes
exits_countable = refl

entries_count : count_behind 0 entries ≡ 80
entries_count = refl

entries_end : address_behind (fred_page + 0x200) entries ≡ fred_page + 0x379
unfolding size spelling four_bytes
entries_end = refl

pub in_both : (rip : ℕ) → index_from 0 (fred_page + 0x200) rip (entries ++ exits)
    ≡ option_or (index_from 0 (fred_page + 0x200) rip entries) (index_from 80 (fred_page + 0x379) rip exits)
in_both rip = index_append 0 (fred_page + 0x200) rip entries exits
    ∙ (λ i. option_or (index_from 0 (fred_page + 0x200) rip entries) (index_from (entries_count i) (entries_end i) rip exits))

in_turn : {A : Type 0} (x y z : Option A) → option_or (option_or x y) z ≡ option_or x (option_or y (option_or z None))
in_turn None None None = refl
in_turn None None (Some z) = refl
in_turn None (Some y) z = refl
in_turn (Some x) y z = refl

-- the numbers in the blocks
abbrev pub in_user : ℕ → Option ℕ
in_user rip = index_from 0 fred_page rip (jmp (codes "FU") ∷ [])

abbrev pub in_kernel : ℕ → Option ℕ
in_kernel rip = index_from 0 (fred_page + 0x100) rip (jmp (codes "FK") ∷ [])

abbrev pub in_main : ℕ → Option ℕ
in_main rip = index_from 0 (fred_page + 0x200) rip (entries ++ exits)

-- the position in the jumps, where there is one
abbrev pub entered : ℕ → Option (FredBlock × ℕ)
entered rip = option_or (in_block User (in_user rip)) (in_block Kernel (in_kernel rip))

pub all_blocks : (rip : ℕ) → option_map place_of (option_or (entered rip) (in_block Main (in_main rip))) ≡ fred_place_at rip
unfolding fred_listings
all_blocks rip = ap (option_map place_of) (in_turn (in_block User (in_user rip)) (in_block Kernel (in_kernel rip)) (in_block Main (in_main rip)))
