-- Statements of several sections whose labels are one scope, and their bytes. Own.
use Rattle.std.specs.Prelude.{◌≡◌, ℕ, ◌+◌, ◌^◌, Bool, true, ◌&&◌, nat_lt, nat_le, List, [], ◌∷◌, ◌++◌, map}
use Rattle.std.specs.List.{list_all}
use Rattle.ev_asm.specs.declared.statement.Stmt.{Stmt}
use Rattle.ev_asm.specs.declared.statement.Stmt.TheVariants.{Jump}
use Rattle.ev_asm.specs.declared.block.Block.{Block}
use Rattle.ev_asm.specs.declared.linking.Section.{Section}
use Rattle.ev_asm.specs.Assembly.{Places, size, total_size, places, place, code}
use Rattle.ev_asm.specs.Assembled.{are_instructions}

-- the labels of all sections
abbrev pub section_places : List Section → Places
section_places [] = []
section_places (s ∷ ss) = places s.address s.stmts ++ section_places ss

abbrev pub block_in : Places → Section → Block
block_in env s = record { address = s.address; bytes = code env s.address s.stmts }

abbrev pub linked : List Section → List Block
linked ss = map (block_in (section_places ss)) ss

-- whether 32 bits reach from a jump that stands at an address to its label
unfoldable pub reaches : Places → ℕ → Stmt → Bool
reaches env a (Jump c name) = nat_le (place env name) (a + size (Jump c name) + 2147483647) && nat_le (a + size (Jump c name)) (place env name + 2147483647)
reaches env a s = true

unfoldable pub all_reach : Places → ℕ → List Stmt → Bool
all_reach env a [] = true
all_reach env a (s ∷ ss) = reaches env a s && all_reach env (a + size s) ss

abbrev pub is_linkable : Places → Section → Bool
is_linkable env s = are_instructions s.stmts && (all_reach env s.address s.stmts && nat_lt (s.address + total_size s.stmts) (2 ^ 64))

-- every instruction is one of the project, every jump reaches its label, and every section ends below 2^64
abbrev pub AreLinkable : List Section → Type 0
AreLinkable ss = list_all (is_linkable (section_places ss)) ss ≡ true
