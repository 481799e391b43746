-- The lines and the code table of the kernel's listings: each statement's instruction at its address, where a jump's displacement is the assembler's.
-- So blocks have no listing of their own.
use Rattle.std.specs.Prelude.{◌≡◌, ◌⊎◌, ℕ, ◌+◌, Bool, true, false, ◌&&◌, ◌==◌, nat_lt, List, [], ◌∷◌, ◌++◌, length, Option, Some, None, if◌then◌else◌}
use Rattle.ev_isa.specs.declared.instruction.Ins.{Ins}
use Rattle.ev_isa.specs.Spelling.{spelling}
use Rattle.ev_asm.specs.declared.statement.Stmt.{Stmt}
use Rattle.ev_asm.specs.declared.statement.Stmt.TheVariants.{Label, Plain, Jump}
use Rattle.ev_asm.specs.Assembly.{Places, place, size, distance, jump}
use Rattle.ev_listing.specs.Marks.{Mark, Never, Marked, Listing, all_places}
use Rattle.ev_symbolic.specs.Value.{M}
use Rattle.ev_symbolic.specs.State.{Loc, absolute, shift, Line}
use Rattle.ev_symbolic.specs.Agrees.{Cell, Code}

-- the instruction of a statement at an address, if it has one
abbrev pub instruction : Places → ℕ → Stmt → Option Ins
instruction env a (Label name) = None
instruction env a (Plain i) = Some i
instruction env a (Jump c name) = Some (jump c (distance (place env name) (a + size (Jump c name))))

-- ---- lines: blocks run over what the abstract machine doesn't see

abbrev pub with_line : Mark → Loc → Loc → Option Ins → List Line → List Line
with_line Never at next (Some i) rest = record { at = at; ins = i; next = next } ∷ rest
with_line mark at next i rest = rest

abbrev pub lines_from : Places → ℕ → List Marked → List Line
lines_from env a [] = []
lines_from env a (l ∷ ls) = with_line l.mark (absolute a) (absolute (a + size l.stmt)) (instruction env a l.stmt) (lines_from env (a + size l.stmt) ls)

abbrev pub lines_in : Places → List Listing → List Line
lines_in env [] = []
lines_in env (b ∷ bs) = lines_from env b.address b.lines ++ lines_in env bs

abbrev pub lines_of : List Listing → List Line
lines_of bs = lines_in (all_places bs) bs

-- instructions one behind the other from a place on, as those of an item
abbrev pub lines_at : Loc → List Ins → List Line
lines_at l [] = []
lines_at l (i ∷ is) = record { at = l; ins = i; next = shift l (length (spelling i)) } ∷ lines_at (shift l (length (spelling i))) is

-- ---- the code table

abbrev pub Cells : Type 0
Cells = List (ℕ × Cell)

abbrev pub with_cell : Mark → ℕ → ℕ → Option Ins → Cells → Cells
with_cell mark a next None rest = rest
with_cell mark a next (Some i) rest = (a, record { ins = i; next = next; mark = mark }) ∷ rest

abbrev pub cells_from : Places → ℕ → List Marked → Cells
cells_from env a [] = []
cells_from env a (l ∷ ls) = with_cell l.mark a (a + size l.stmt) (instruction env a l.stmt) (cells_from env (a + size l.stmt) ls)

abbrev pub cells_in : Places → List Listing → Cells
cells_in env [] = []
cells_in env (b ∷ bs) = cells_from env b.address b.lines ++ cells_in env bs

-- their bytes
abbrev pub spelled : Cells → List ℕ
spelled [] = []
spelled (x ∷ xs) = spelling x.1.ins ++ spelled xs

abbrev pub cell_at : Cells → Code
cell_at [] a = None
cell_at (x ∷ xs) a = if x.0 == a then Some x.1 else cell_at xs a

abbrev pub code_of : List Listing → Code
code_of bs = cell_at (cells_in (all_places bs) bs)

-- whether no cell has the address, whether each has its own, and whether all addresses are below 2 ^ 64
abbrev pub absent : ℕ → Cells → Bool
absent a [] = true
absent a (x ∷ xs) = if a == x.0 then false else absent a xs

abbrev pub distinct : Cells → Bool
distinct [] = true
distinct (x ∷ xs) = if absent x.0 xs then distinct xs else false

abbrev pub are_low : Cells → Bool
are_low [] = true
are_low (x ∷ xs) = if nat_lt x.0 M && nat_lt x.1.next M then are_low xs else false

-- the first cells stand at no address of the second
abbrev pub Elsewhere : Cells → Cells → Type 0
Elsewhere [] ys = Unit {0}
Elsewhere (x ∷ xs) ys = (absent x.0 ys ≡ true) × Elsewhere xs ys

-- what is looked up is the cell
abbrev pub AllFound : Code → Cells → Type 0
AllFound code [] = Unit {0}
AllFound code (x ∷ xs) = (code x.0 ≡ Some x.1) × AllFound code xs

-- cells one behind the other from an address on, as bytes without a gap
abbrev pub Laid : ℕ → Cells → Type 0
Laid a [] = Unit {0}
Laid a (x ∷ xs) = (x.0 ≡ a) × (x.1.next ≡ a + length (spelling x.1.ins)) × Laid x.1.next xs

-- the names that the statements jump to have the same places
abbrev pub SameTarget : Places → Places → Stmt → Type 0
SameTarget env env' (Jump c name) = place env name ≡ place env' name
SameTarget env env' s = Unit {0}

abbrev pub SameTargets : Places → Places → List Marked → Type 0
SameTargets env env' [] = Unit {0}
SameTargets env env' (l ∷ ls) = SameTarget env env' l.stmt × SameTargets env env' ls

-- ---- parts of listings

-- a listing is one of these
abbrev pub IsIn : Listing → List Listing → Type 0
IsIn b [] = ⊥
IsIn b (x ∷ xs) = (b ≡ x) ⊎ IsIn b xs

abbrev pub AreIn : List Listing → List Listing → Type 0
AreIn [] bs = Unit {0}
AreIn (x ∷ xs) bs = IsIn x bs × AreIn xs bs
