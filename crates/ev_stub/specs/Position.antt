-- Which instruction of listings stands at an address. Own.
use Rattle.std.specs.Prelude.{ℕ, suc, ◌+◌, Bool, true, false, nat_lt, nat_le, ◌^◌, ◌==◌, ◌&&◌, List, [], ◌∷◌, length, Option, Some, None}
use Rattle.std.specs.Option.{option_or}
use Rattle.ev_asm.specs.declared.statement.Stmt.{Stmt}
use Rattle.ev_asm.specs.declared.statement.Stmt.TheVariants.{Label, Plain, Jump}
use Rattle.ev_asm.specs.Assembly.{size, total_size}
use Rattle.ev_asm.specs.Assembled.{are_instructions}
use Rattle.ev_listing.specs.Marks.{Marked, Listing, stmts_of}

-- whether a statement is an instruction: a label takes no bytes
abbrev pub is_counted : Stmt → Bool
is_counted (Label name) = false
is_counted (Plain i) = true
is_counted (Jump c name) = true

-- The number of the instruction whose first byte stands at rip, where n instructions stand before the lines, which begin at address a. An address
-- inside an instruction has none.
unfoldable pub index_from : (n a rip : ℕ) → List Marked → Option ℕ
index_from n a rip [] = None
index_from n a rip (l ∷ ls) = elim (is_counted l.stmt) [
  | false ↦ index_from n (a + size l.stmt) rip ls
  | true ↦ elim (a == rip) [ true ↦ Some n | false ↦ index_from (suc n) (a + size l.stmt) rip ls ]
]

-- a number with the name of the block in which it counts
abbrev pub in_block : {B : Type 0} → B → Option ℕ → Option (B × ℕ)
in_block b None = None
in_block b (Some n) = Some (b, n)

-- the block and the number in it of the instruction at rip, where blocks have names
abbrev pub position_in : {B : Type 0} → ℕ → List (B × Listing) → Option (B × ℕ)
position_in rip [] = None
position_in rip (e ∷ es) = option_or (in_block e.0 (index_from 0 e.1.address rip e.1.lines)) (position_in rip es)

-- Whether the numbers of a block's instructions can be told: each is one of the project, none has a number above 65,535, and they end below 2^64.
abbrev pub is_countable : ℕ → List Marked → Bool
is_countable a ls = are_instructions (stmts_of ls) && (nat_lt (a + total_size (stmts_of ls)) (2 ^ 64) && nat_le (length ls) 65535)
