-- Listings as code: their lines stand in the code table, cells follow one another without a gap, and their bytes are the assembler's.
use Rattle.std.proofs.Common.{◌≡◌, ℕ, ◌+◌, ◌%◌, ◌<◌, Bool, true, false, ◌&&◌, List, [], ◌∷◌, ◌++◌, length, Option, Some, None, refl, sym, ap, ◌∙◌, subst, arith}
use Rattle.std.specs.Prelude.{◌==◌, nat_lt, if◌then◌else◌}
use Rattle.std.proofs.lemmas.Bool.{eq-eqb, eqb-true, ltb-true}
use Rattle.ev_isa.specs.declared.instruction.Cond.{Cond}
use Rattle.ev_isa.specs.declared.instruction.Ins.{Ins}
use Rattle.ev_isa.specs.Spelling.{spelling, four_bytes}
use Rattle.ev_asm.specs.declared.statement.Stmt.{Stmt}
use Rattle.ev_asm.specs.declared.statement.Stmt.TheVariants.{Label, Plain, Jump}
use Rattle.ev_asm.specs.Assembly.{Places, place, size, distance, jump, stmt_bytes, code}
use Rattle.ev_listing.specs.Marks.{Mark, Never, Always, IfNonzero, IfEqual, Marked, Listing, stmts_of}
use Rattle.ev_symbolic.specs.Value.{M}
use Rattle.ev_symbolic.specs.State.{absolute, Line}
use Rattle.ev_symbolic.specs.Agrees.{Env, addr, Cell, Code, edge_cell, Spaced, Stands}
use Rattle.ev_symbolic.specs.Listed.{instruction, with_line, lines_from, lines_in, Cells, with_cell, cells_from, cells_in, spelled, cell_at, absent, distinct, are_low, Elsewhere, AllFound, Laid, SameTarget, SameTargets}
use Rattle.ev_symbolic.proofs.Values.{and_left, and_right}
use Rattle.ev_symbolic.proofs.Blocks.{unsome}

-- ---- cells are found

skipped : (x : ℕ × Cell) (xs ys : Cells) → absent x.0 ys ≡ true → AllFound (cell_at xs) ys → AllFound (cell_at (x ∷ xs)) ys
skipped x xs [] h f = tt
skipped x xs (y ∷ ys) h f = pick (x.0 == y.0) refl h (λ a. skipped x xs ys a f.1)
  where
    pick : (b : Bool) → (x.0 == y.0) ≡ b → (if b then false else absent x.0 ys) ≡ true → (absent x.0 ys ≡ true → AllFound (cell_at (x ∷ xs)) ys)
        → AllFound (cell_at (x ∷ xs)) (y ∷ ys)
    pick true q a k = absurd (cc)
    pick false q a k = (ap (λ b. if b then Some x.1 else cell_at xs y.0) q ∙ f.0, k a)

pub all_found : (xs : Cells) → distinct xs ≡ true → AllFound (cell_at xs) xs
all_found [] h = tt
all_found (x ∷ xs) h = pick (absent x.0 xs) refl h (all_found xs)
  where
    pick : (b : Bool) → absent x.0 xs ≡ b → (if b then distinct xs else false) ≡ true → (distinct xs ≡ true → AllFound (cell_at xs) xs)
        → AllFound (cell_at (x ∷ xs)) (x ∷ xs)
    pick true q d k = (ap (λ b. if b then Some x.1 else cell_at xs x.0) (eq-eqb x.0 x.0 refl), skipped x xs xs q (k d))
    pick false q d k = absurd (cc)

-- behind other cells too
pub found_behind : (front xs ys : Cells) → Elsewhere front ys → AllFound (cell_at xs) ys → AllFound (cell_at (front ++ xs)) ys
found_behind [] xs ys h f = f
found_behind (x ∷ front) xs ys h f = skipped x (front ++ xs) ys h.0 (found_behind front xs ys h.1 f)

-- the first and the last of cells that are found
pub first_found : (code : Code) (xs ys : Cells) → AllFound code (xs ++ ys) → AllFound code xs
first_found code [] ys f = tt
first_found code (x ∷ xs) ys f = (f.0, first_found code xs ys f.1)

pub rest_found : (code : Code) (xs ys : Cells) → AllFound code (xs ++ ys) → AllFound code ys
rest_found code [] ys f = f
rest_found code (x ∷ xs) ys f = rest_found code xs ys f.1

-- ---- lines stand

abbrev Low : Cell → ℕ → Type 0
Low x a = (a < M) × (x.next < M)

lower : (z a : ℕ) → z ≡ 0 → a < M → (z + a) % M ≡ a
lower z a h k = omega arith

module _ (code : Code) (e : Env) (zero_base : e.base 1000 ≡ 0) where
  abbrev Both : Cells → List Line → Type 0
  Both cells lines = AllFound code cells → are_low cells ≡ true → Stands code e lines

  below_all : (x : ℕ × Cell) (xs : Cells) → are_low (x ∷ xs) ≡ true → (nat_lt x.0 M && nat_lt x.1.next M) ≡ true
  below_all x xs h = pick (nat_lt x.0 M && nat_lt x.1.next M) refl h
    where
      pick : (b : Bool) → (nat_lt x.0 M && nat_lt x.1.next M) ≡ b → (if b then are_low xs else false) ≡ true → (nat_lt x.0 M && nat_lt x.1.next M) ≡ true
      pick true q r = q
      pick false q r = absurd (cc)

  rest_low : (x : ℕ × Cell) (xs : Cells) → are_low (x ∷ xs) ≡ true → are_low xs ≡ true
  rest_low x xs h = pick (nat_lt x.0 M && nat_lt x.1.next M) h
    where
      pick : (b : Bool) → (if b then are_low xs else false) ≡ true → are_low xs ≡ true
      pick true r = r
      pick false r = absurd (cc)

  one_stands : (mark : Mark) (a next : ℕ) (o : Option Ins) (cells : Cells) (lines : List Line) → Both cells lines
      → Both (with_cell mark a next o cells) (with_line mark (absolute a) (absolute next) o lines)
  one_stands Never a next None cells lines k f h = k f h
  one_stands Always a next None cells lines k f h = k f h
  one_stands IfNonzero a next None cells lines k f h = k f h
  one_stands IfEqual a next None cells lines k f h = k f h
  one_stands Never a next (Some i) cells lines k f h =
      let low = below_all (a, edge_cell i next) cells h in
      let at : addr e (absolute a) ≡ a = lower (e.base 1000) a zero_base (ltb-true a M (and_left _ _ low)) in
      let to : addr e (absolute next) ≡ next = lower (e.base 1000) next zero_base (ltb-true next M (and_right (nat_lt a M) _ low)) in
      (ap code at ∙ f.0 ∙ ap (λ n. Some (edge_cell i n)) (sym to), k f.1 (rest_low (a, edge_cell i next) cells h))
  one_stands Always a next (Some i) cells lines k f h = k f.1 (rest_low (a, record { ins = i; next = next; mark = Always }) cells h)
  one_stands IfNonzero a next (Some i) cells lines k f h = k f.1 (rest_low (a, record { ins = i; next = next; mark = IfNonzero }) cells h)
  one_stands IfEqual a next (Some i) cells lines k f h = k f.1 (rest_low (a, record { ins = i; next = next; mark = IfEqual }) cells h)

  stands_from : (env : Places) (a : ℕ) (ls : List Marked) → Both (cells_from env a ls) (lines_from env a ls)
  stands_from env a [] f h = tt
  stands_from env a (l ∷ ls) f h = one_stands l.mark a (a + size l.stmt) (instruction env a l.stmt) (cells_from env (a + size l.stmt) ls)
      (lines_from env (a + size l.stmt) ls) (stands_from env (a + size l.stmt) ls) f h

  stands_append : (xs ys : List Line) → Stands code e xs → Stands code e ys → Stands code e (xs ++ ys)
  stands_append [] ys h k = k
  stands_append (x ∷ xs) ys h k = (h.0, stands_append xs ys h.1 k)

  first_low : (xs ys : Cells) → are_low (xs ++ ys) ≡ true → are_low xs ≡ true
  first_low [] ys h = refl
  first_low (x ∷ xs) ys h = ap (λ b. if b then are_low xs else false) (below_all x (xs ++ ys) h) ∙ first_low xs ys (rest_low x (xs ++ ys) h)

  last_low : (xs ys : Cells) → are_low (xs ++ ys) ≡ true → are_low ys ≡ true
  last_low [] ys h = h
  last_low (x ∷ xs) ys h = last_low xs ys (rest_low x (xs ++ ys) h)

  -- the lines of listings whose cells the code has
  pub stands_in : (env : Places) (bs : List Listing) → AllFound code (cells_in env bs) → are_low (cells_in env bs) ≡ true → Stands code e (lines_in env bs)
  stands_in env [] f h = tt
  stands_in env (b ∷ bs) f h =
      let xs = cells_from env b.address b.lines in
      let ys = cells_in env bs in
      stands_append (lines_from env b.address b.lines) (lines_in env bs) (stands_from env b.address b.lines (first_found code xs ys f) (first_low xs ys h))
      (stands_in env bs (rest_found code xs ys f) (last_low xs ys h))

-- ---- bytes

sizes : (env : Places) (a : ℕ) (c : Option Cond) (name : List ℕ) (n : ℕ) → size (Jump c name) ≡ length (spelling (jump c (distance (place env name) n)))
unfolding size spelling four_bytes
sizes env a None name n = refl
sizes env a (Some c) name n = refl

-- a listing's cells stand one behind the other
pub laid : (env : Places) (a : ℕ) (ls : List Marked) → Laid a (cells_from env a ls)
unfolding size
laid env a [] = tt
laid env a (l ∷ ls) = one l.stmt (laid env (a + size l.stmt) ls)
  where
    one : (s : Stmt) → Laid (a + size s) (cells_from env (a + size s) ls)
        → Laid a (with_cell l.mark a (a + size s) (instruction env a s) (cells_from env (a + size s) ls))
    one (Label name) k = subst (λ x. Laid x (cells_from env (a + size (Label name)) ls)) (let z : a + 0 ≡ a = omega arith in z) k
    one (Plain i) k = (refl, refl, k)
    one (Jump c name) k = (refl, ap (λ n. a + n) (sizes env a c name (a + size (Jump c name))), k)

-- and their bytes are the assembler's
pub bytes_spelled : (env : Places) (a : ℕ) (ls : List Marked) → code env a (stmts_of ls) ≡ spelled (cells_from env a ls)
unfolding code stmt_bytes
bytes_spelled env a [] = refl
bytes_spelled env a (l ∷ ls) = one l.stmt (bytes_spelled env (a + size l.stmt) ls)
  where
    one : (s : Stmt) → code env (a + size s) (stmts_of ls) ≡ spelled (cells_from env (a + size s) ls)
        → stmt_bytes env a s ++ code env (a + size s) (stmts_of ls) ≡ spelled
        (with_cell l.mark a (a + size s) (instruction env a s) (cells_from env (a + size s) ls))
    one (Label name) k = k
    one (Plain i) k = ap (λ x. spelling i ++ x) k
    one (Jump c name) k = ap (λ x. spelling (jump c (distance (place env name) (a + size (Jump c name)))) ++ x) k

-- each cell leads to the address behind its bytes
abbrev AllSpaced : Cells → Type 0
AllSpaced [] = Unit {0}
AllSpaced (x ∷ xs) = (x.1.next ≡ x.0 + length (spelling x.1.ins)) × AllSpaced xs

laid_spaced : (a : ℕ) (xs : Cells) → Laid a xs → AllSpaced xs
laid_spaced a [] h = tt
laid_spaced a (x ∷ xs) h = (h.1 ∙ ap (λ n. n + length (spelling x.1.ins)) (sym h.0), laid_spaced x.1.next xs h.2)

both_spaced : (xs ys : Cells) → AllSpaced xs → AllSpaced ys → AllSpaced (xs ++ ys)
both_spaced [] ys h k = k
both_spaced (x ∷ xs) ys h k = (h.0, both_spaced xs ys h.1 k)

listings_spaced : (env : Places) (bs : List Listing) → AllSpaced (cells_in env bs)
listings_spaced env [] = tt
listings_spaced env (b ∷ bs) =
    both_spaced (cells_from env b.address b.lines) (cells_in env bs) (laid_spaced b.address (cells_from env b.address b.lines) (laid env b.address b.lines))
    (listings_spaced env bs)

look_up : (xs : Cells) → AllSpaced xs → Spaced (cell_at xs)
look_up [] h a x q = absurd (cc)
look_up (y ∷ ys) h a x q = pick (y.0 == a) refl q (look_up ys h.1 a x)
  where
    pick : (t : Bool) → (y.0 == a) ≡ t → (if t then Some y.1 else cell_at ys a) ≡ Some x → (cell_at ys a ≡ Some x → x.next ≡ a + length (spelling x.ins))
        → x.next ≡ a + length (spelling x.ins)
    pick true r w k = subst (λ (z : Cell). z.next ≡ a + length (spelling z.ins)) (unsome y.1 x w)
        (h.0 ∙ ap (λ n. n + length (spelling y.1.ins)) (eqb-true y.0 a r))
    pick false r w k = k w

-- a code table of listings is spaced
pub spaced_in : (env : Places) (bs : List Listing) → Spaced (cell_at (cells_in env bs))
spaced_in env bs = look_up (cells_in env bs) (listings_spaced env bs)

-- ---- the same lines where the jumps' targets are the same, as in a table that has other code besides

instruction_same : (env env' : Places) (a : ℕ) (s : Stmt) → SameTarget env env' s → instruction env a s ≡ instruction env' a s
instruction_same env env' a (Label name) h = refl
instruction_same env env' a (Plain i) h = refl
instruction_same env env' a (Jump c name) h = ap (λ t. Some (jump c (distance t (a + size (Jump c name))))) h

pub lines_same : (env env' : Places) (a : ℕ) (ls : List Marked) → SameTargets env env' ls → lines_from env a ls ≡ lines_from env' a ls
lines_same env env' a [] h = refl
lines_same env env' a (l ∷ ls) h =
    ap (λ o. with_line l.mark (absolute a) (absolute (a + size l.stmt)) o (lines_from env (a + size l.stmt) ls)) (instruction_same env env' a l.stmt h.0)
    ∙ ap (with_line l.mark (absolute a) (absolute (a + size l.stmt)) (instruction env' a l.stmt)) (lines_same env env' (a + size l.stmt) ls h.1)

pub cells_same : (env env' : Places) (a : ℕ) (ls : List Marked) → SameTargets env env' ls → cells_from env a ls ≡ cells_from env' a ls
cells_same env env' a [] h = refl
cells_same env env' a (l ∷ ls) h =
    ap (λ o. with_cell l.mark a (a + size l.stmt) o (cells_from env (a + size l.stmt) ls)) (instruction_same env env' a l.stmt h.0)
    ∙ ap (with_cell l.mark a (a + size l.stmt) (instruction env' a l.stmt)) (cells_same env env' (a + size l.stmt) ls h.1)
