-- The bytes of listings at their addresses are the spellings of their cells.
use Rattle.std.proofs.Common.{◌≡◌, ℕ, ◌+◌, ◌-◌, ◌<◌, ◌≤◌, Bool, true, false, ◌&&◌, List, [], ◌∷◌, ◌++◌, length, get_or, Some, None, refl, sym, ap, subst, ◌∙◌, arith, length-append, ◌⊎◌, inl, inr, ⊎_elim}
use Rattle.std.specs.Prelude.{◌==◌, nat_lt, nat_le, if◌then◌else◌}
use Rattle.std.proofs.lemmas.Bool.{le-leb, lt-ltb, leb-true, ltb-true, eqb-true}
use Rattle.std.proofs.lemmas.List.{get_or_append_left, get_or-append-add}
use Rattle.ev_isa.specs.declared.instruction.Ins.{Ins}
use Rattle.ev_isa.specs.Spelling.{spelling, four_bytes}
use Rattle.ev_asm.specs.declared.statement.Stmt.{Stmt}
use Rattle.ev_asm.specs.declared.statement.Stmt.TheVariants.{Label, Plain, Jump}
use Rattle.ev_asm.specs.Assembly.{Places, size, total_size, stmt_bytes, code}
use Rattle.ev_listing.specs.Marks.{Listing, stmts_of}
use Rattle.ev_concrete.specs.Opening.{placed_code, byte_of}
use Rattle.ev_symbolic.specs.Agrees.{Cell}
use Rattle.ev_symbolic.specs.Listed.{Cells, cells_from, cells_in, spelled, cell_at, Laid}
use Rattle.ev_code.proofs.Parts.{IsBytes, bytes_append, no_bytes}
use Rattle.ev_symbolic.proofs.Values.{and_left, and_right}
use Rattle.ev_symbolic.proofs.Blocks.{unsome}
use Rattle.ev_symbolic.proofs.Listed.{laid, bytes_spelled}
use Rattle.ev_fetch.specs.Spelled.{AreSpelled}
use Rattle.ev_fetch.proofs.Spellings.{spelling_bytes}
use Rattle.ev_fetch.proofs.Regions.{and_both}

-- ---- sizes

stmt_length : (env : Places) (a : ℕ) (s : Stmt) → length (stmt_bytes env a s) ≡ size s
unfolding stmt_bytes size spelling four_bytes
stmt_length env a (Label name) = refl
stmt_length env a (Plain i) = refl
stmt_length env a (Jump None name) = refl
stmt_length env a (Jump (Some c) name) = refl

pub code_length : (env : Places) (a : ℕ) (ss : List Stmt) → length (code env a ss) ≡ total_size ss
unfolding code
code_length env a [] = refl
code_length env a (s ∷ ss) = omega (arith, length-append (stmt_bytes env a s) (code env (a + size s) ss), stmt_length env a s, code_length env (a + size s) ss)

-- ---- a cell's bytes among those of its listing

record Stands (xs : Cells) (base a : ℕ) (i : Ins) : Type 0 where
  off : ℕ
  is : a ≡ base + off
  fits : off + length (spelling i) ≤ length (spelled xs)
  same : (j : ℕ) → j < length (spelling i) → get_or (spelled xs) (off + j) 0 ≡ get_or (spelling i) j 0

stands_first : (y : ℕ × Cell) (ys : Cells) (base a : ℕ) (x : Cell) → y.0 ≡ base → y.0 ≡ a → y.1 ≡ x → Stands (y ∷ ys) base a x.ins
stands_first y ys base a x p q r = subst (λ (z : Cell). Stands (y ∷ ys) base a z.ins) r (record {
  off = 0;
  is = omega arith;
  fits = omega (arith, length-append (spelling y.1.ins) (spelled ys));
  same = λ j h. ap (λ n. get_or (spelling y.1.ins ++ spelled ys) n 0) (omega arith) ∙ get_or_append_left (spelling y.1.ins) (spelled ys) 0 j h;
})

stands_later : (y : ℕ × Cell) (ys : Cells) (base a : ℕ) (i : Ins) → y.1.next ≡ base + length (spelling y.1.ins) → Stands ys y.1.next a i
    → Stands (y ∷ ys) base a i
stands_later y ys base a i p s =
    let n = length (spelling y.1.ins) in
    let is = s.is in
    let fits = s.fits in
    record {
      off = n + s.off;
      is = omega arith;
      fits = omega (arith, length-append (spelling y.1.ins) (spelled ys));
      same = λ j h. ap (λ k. get_or (spelling y.1.ins ++ spelled ys) k 0) (let e : n + s.off + j ≡ n + (s.off + j) = omega arith in e)
          ∙ get_or-append-add (spelling y.1.ins) (spelled ys) (s.off + j) 0 ∙ s.same j h;
    }

stands_in : (xs : Cells) (base a : ℕ) (x : Cell) → Laid base xs → cell_at xs a ≡ Some x → Stands xs base a x.ins
stands_in [] base a x h q = absurd (cc)
stands_in (y ∷ ys) base a x h q = pick (y.0 == a) refl q (stands_in ys y.1.next a x h.2)
  where
    pick : (t : Bool) → (y.0 == a) ≡ t → (if t then Some y.1 else cell_at ys a) ≡ Some x → (cell_at ys a ≡ Some x → Stands ys y.1.next a x.ins)
        → Stands (y ∷ ys) base a x.ins
    pick true r w k = stands_first y ys base a x h.0 (eqb-true y.0 a r) (unsome y.1 x w)
    pick false r w k = stands_later y ys base a x.ins h.1 (k w)

-- ---- listings

abbrev pub end_of : Listing → ℕ
end_of b = b.address + total_size (stmts_of b.lines)

-- an address in a listing, and in one of some listings
abbrev pub IsWithin : Listing → ℕ → Type 0
IsWithin b a = (b.address ≤ a) × (a < end_of b)

abbrev pub Inside : List Listing → ℕ → Type 0
Inside [] a = ⊥
Inside (b ∷ bs) a = IsWithin b a ⊎ Inside bs a

-- no two have an address in common
abbrev pub Disjoint : List Listing → Type 0
Disjoint [] = Unit {0}
Disjoint (b ∷ bs) = ((a : ℕ) → IsWithin b a → Inside bs a → ⊥) × Disjoint bs

-- a cell of one listing or of the others
one_of : (xs ys : Cells) (a : ℕ) (x : Cell) → cell_at (xs ++ ys) a ≡ Some x → (cell_at xs a ≡ Some x) ⊎ (cell_at ys a ≡ Some x)
one_of [] ys a x h = inr h
one_of (y ∷ xs) ys a x h = pick (y.0 == a) h (one_of xs ys a x)
  where
    pick : (t : Bool) → (if t then Some y.1 else cell_at (xs ++ ys) a) ≡ Some x
        → (cell_at (xs ++ ys) a ≡ Some x → (cell_at xs a ≡ Some x) ⊎ (cell_at ys a ≡ Some x))
        → ((if t then Some y.1 else cell_at xs a) ≡ Some x) ⊎ (cell_at ys a ≡ Some x)
    pick true w k = inl w
    pick false w k = k w

abbrev own_cells : Places → Listing → Cells
own_cells env b = cells_from env b.address b.lines

abbrev own_code : Places → Listing → List ℕ
own_code env b = code env b.address (stmts_of b.lines)

own_length : (env : Places) (b : Listing) → length (spelled (own_cells env b)) ≡ total_size (stmts_of b.lines)
own_length env b = ap length (sym (bytes_spelled env b.address b.lines)) ∙ code_length env b.address (stmts_of b.lines)

own_stands : (env : Places) (b : Listing) (a : ℕ) (x : Cell) → cell_at (own_cells env b) a ≡ Some x → Stands (own_cells env b) b.address a x.ins
own_stands env b a x q = stands_in (own_cells env b) b.address a x (laid env b.address b.lines) q

own_within : (env : Places) (b : Listing) (a : ℕ) (x : Cell) → cell_at (own_cells env b) a ≡ Some x → (j : ℕ) → j < length (spelling x.ins) → IsWithin b (a + j)
own_within env b a x q j h =
    let s = own_stands env b a x q in
    let is = s.is in
    let fits = s.fits in
    let n = own_length env b in
    (omega arith, omega arith)

-- the bytes of a cell lie in a listing
pub inside_there : (env : Places) (bs : List Listing) (a : ℕ) (x : Cell) → cell_at (cells_in env bs) a ≡ Some x → (j : ℕ) → j < length (spelling x.ins)
    → Inside bs (a + j)
inside_there env [] a x q j h = absurd (cc)
inside_there env (b ∷ bs) a x q j h = ⊎_elim (λ l. inl (own_within env b a x l j h)) (λ r. inr (inside_there env bs a x r j h))
    (one_of (own_cells env b) (cells_in env bs) a x q)

-- a byte of the first listing, and one of a later listing
first_byte : (env : Places) (b : Listing) (bs : List Listing) (a : ℕ) → IsWithin b a
    → byte_of (placed_code env (b ∷ bs)) a ≡ get_or (own_code env b) (a - b.address) 0
first_byte env b bs a w =
    let n = code_length env b.address (stmts_of b.lines) in
    let l = w.0 in
    let k = w.1 in
    ap (λ t. if t then get_or (own_code env b) (a - b.address) 0 else byte_of (placed_code env bs) a)
    (and_both (nat_le b.address a) (nat_lt a (b.address + length (own_code env b))) (le-leb b.address a l)
    (lt-ltb a (b.address + length (own_code env b)) (omega arith)))

later_byte : (env : Places) (b : Listing) (bs : List Listing) (a : ℕ) → (IsWithin b a → ⊥)
    → byte_of (placed_code env (b ∷ bs)) a ≡ byte_of (placed_code env bs) a
later_byte env b bs a w = pick (nat_le b.address a && nat_lt a (b.address + length (own_code env b))) refl
  where
    pick : (t : Bool) → (nat_le b.address a && nat_lt a (b.address + length (own_code env b))) ≡ t
        → (if t then get_or (own_code env b) (a - b.address) 0 else byte_of (placed_code env bs) a) ≡ byte_of (placed_code env bs) a
    pick true q = absurd (w (
      let l = leb-true b.address a (and_left _ _ q) in l,
      let k = ltb-true a (b.address + length (own_code env b)) (and_right (nat_le b.address a) _ q) in let n =
          code_length env b.address (stmts_of b.lines) in omega arith,
    ))
    pick false q = refl

own_byte : (env : Places) (b : Listing) (bs : List Listing) (a : ℕ) (x : Cell) → cell_at (own_cells env b) a ≡ Some x → (j : ℕ) → j < length (spelling x.ins)
    → byte_of (placed_code env (b ∷ bs)) (a + j) ≡ get_or (spelling x.ins) j 0
own_byte env b bs a x q j h =
    let s = own_stands env b a x q in
    let is = s.is in
    first_byte env b bs (a + j) (own_within env b a x q j h) ∙ ap (λ y. get_or y (a + j - b.address) 0) (bytes_spelled env b.address b.lines)
    ∙ ap (λ n. get_or (spelled (own_cells env b)) n 0) (let e : a + j - b.address ≡ s.off + j = omega arith in e) ∙ s.same j h

-- the bytes of a cell are its instruction's
pub byte_there : (env : Places) (bs : List Listing) (a : ℕ) (x : Cell) → Disjoint bs → cell_at (cells_in env bs) a ≡ Some x → (j : ℕ)
    → j < length (spelling x.ins)
    → byte_of (placed_code env bs) (a + j) ≡ get_or (spelling x.ins) j 0
byte_there env [] a x d q j h = absurd (cc)
byte_there env (b ∷ bs) a x d q j h = ⊎_elim
    (λ l. own_byte env b bs a x l j h)
    (λ r. later_byte env b bs (a + j) (λ w. d.0 (a + j) w (inside_there env bs a x r j h)) ∙ byte_there env bs a x d.1 r j h)
    (one_of (own_cells env b) (cells_in env bs) a x q)

-- ---- all bytes are below 256

first_spelled : (xs ys : Cells) → AreSpelled (xs ++ ys) → AreSpelled xs
first_spelled [] ys h = tt
first_spelled (x ∷ xs) ys h = (h.0, first_spelled xs ys h.1)

rest_spelled : (xs ys : Cells) → AreSpelled (xs ++ ys) → AreSpelled ys
rest_spelled [] ys h = h
rest_spelled (x ∷ xs) ys h = rest_spelled xs ys h.1

spelled_bytes : (xs : Cells) → AreSpelled xs → IsBytes (spelled xs)
spelled_bytes [] h = no_bytes
spelled_bytes (x ∷ xs) h = bytes_append (spelling x.1.ins) (spelled xs) (spelling_bytes x.1.ins h.0) (spelled_bytes xs h.1)

pub byte_small : (env : Places) (bs : List Listing) → AreSpelled (cells_in env bs) → (a : ℕ) → byte_of (placed_code env bs) a < 256
byte_small env [] h a = omega arith
byte_small env (b ∷ bs) h a = pick (nat_le b.address a && nat_lt a (b.address + length (own_code env b)))
    (byte_small env bs (rest_spelled (own_cells env b) (cells_in env bs) h) a)
  where
    pick : (t : Bool) → byte_of (placed_code env bs) a < 256 → (if t then get_or (own_code env b) (a - b.address) 0 else byte_of (placed_code env bs) a) < 256
    pick true k = subst (λ (y : List ℕ). get_or y (a - b.address) 0 < 256) (sym (bytes_spelled env b.address b.lines))
        (spelled_bytes (own_cells env b) (first_spelled (own_cells env b) (cells_in env bs) h) (a - b.address))
    pick false k = k
