-- Statements with the marks of visible instructions, and listings at their addresses. Own.
use Rattle.std.specs.Prelude.{ℕ, ◌+◌, List, [], ◌∷◌, ◌++◌, map}
use Rattle.ev_asm.specs.declared.statement.Stmt.{Stmt}
use Rattle.ev_asm.specs.Assembly.{Places, places, size}

-- When the abstract machine makes a step with a statement's instruction: never, always, where it reads another value than 0, or where its exchange succeeds.
pub data Mark : Type 0 where
  Never Always IfNonzero IfEqual : Mark

-- a statement with the mark of its instruction
pub record Marked : Type 0 where
  pub mark : Mark
  pub stmt : Stmt

-- the statements alone
abbrev pub stmts_of : List Marked → List Stmt
stmts_of lines = map (λ l. l.stmt) lines

-- an address with its mark, where there is one
abbrev pub with_mark : Mark → ℕ → List (ℕ × Mark) → List (ℕ × Mark)
with_mark Never a rest = rest
with_mark mark a rest = (a, mark) ∷ rest

-- the addresses of the marked instructions, from an address on
unfoldable pub marks : ℕ → List Marked → List (ℕ × Mark)
marks a [] = []
marks a (l ∷ ls) = with_mark l.mark a (marks (a + size l.stmt) ls)

-- statements at their address
pub record Listing : Type 0 where
  pub address : ℕ
  pub lines : List Marked

-- the labels of all listings, with their addresses
abbrev pub all_places : List Listing → Places
all_places [] = []
all_places (b ∷ bs) = places b.address (stmts_of b.lines) ++ all_places bs

-- the addresses of the marked instructions of all listings
abbrev pub all_marks : List Listing → List (ℕ × Mark)
all_marks [] = []
all_marks (b ∷ bs) = marks b.address b.lines ++ all_marks bs
