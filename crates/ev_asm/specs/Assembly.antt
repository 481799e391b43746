-- Statements with labels, and their bytes. Own.
use Rattle.std.specs.Prelude.{ℕ, ℤ, pos, negsuc, ◌+◌, ◌-◌, Bool, true, false, ◌&&◌, nat_le, ◌==◌, if◌then◌else◌, List, [], ◌∷◌, ◌++◌, length, Option, Some, None}
use Rattle.ev_isa.specs.declared.instruction.Cond.{Cond}
use Rattle.ev_isa.specs.declared.instruction.Ins.{Ins}
use Rattle.ev_isa.specs.declared.instruction.Ins.TheVariants.{Jmp, Jcc}
use Rattle.ev_isa.specs.Spelling.{spelling}
use Rattle.ev_asm.specs.declared.statement.Stmt.{Stmt}
use Rattle.ev_asm.specs.declared.statement.Stmt.TheVariants.{Label, Plain, Jump}

-- a name, as its bytes
abbrev pub Name : Type 0
Name = List ℕ

-- whether two names are the same
abbrev pub is_name : Name → Name → Bool
is_name [] [] = true
is_name (x ∷ xs) (y ∷ ys) = (x == y) && is_name xs ys
is_name _ _ = false

-- how many bytes a statement has
unfoldable pub size : Stmt → ℕ
size (Label name) = 0
size (Plain i) = length (spelling i)
size (Jump None name) = 5
size (Jump (Some c) name) = 6

-- how many bytes the statements have
abbrev pub total_size : List Stmt → ℕ
total_size [] = 0
total_size (s ∷ ss) = size s + total_size ss

-- the labels of statements from an address on, with their places
abbrev pub Places : Type 0
Places = List (Name × ℕ)

-- where the labels stand, from an address on
unfoldable pub places : ℕ → List Stmt → Places
places a [] = []
places a (Label name ∷ ss) = (name, a) ∷ places a ss
places a (s ∷ ss) = places (a + size s) ss

-- the place of a name (0 where there is none)
abbrev pub place : Places → Name → ℕ
place [] name = 0
place (e ∷ es) name = if is_name e.0 name then e.1 else place es name

-- how far a jump goes, from the next instruction on
unfoldable pub distance : ℕ → ℕ → ℤ
distance target next = if nat_le next target then pos (target - next) else negsuc (next - target - 1)

-- the jump over a distance from its end, on a condition or always
abbrev pub jump : Option Cond → ℤ → Ins
jump None n = Jmp n
jump (Some c) n = Jcc c n

-- the bytes of a statement at an address
unfoldable pub stmt_bytes : Places → ℕ → Stmt → List ℕ
stmt_bytes env a (Label name) = []
stmt_bytes env a (Plain i) = spelling i
stmt_bytes env a (Jump c name) = spelling (jump c (distance (place env name) (a + size (Jump c name))))

-- the bytes of the statements, from an address on
unfoldable pub code : Places → ℕ → List Stmt → List ℕ
code env a [] = []
code env a (s ∷ ss) = stmt_bytes env a s ++ code env (a + size s) ss
