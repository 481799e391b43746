-- What holds of the code of a body's items holds of each item's own, at its address.
use Rattle.std.proofs.Common.{◌≡◌, ℕ, zero, suc, ◌+◌, List, [], ◌∷◌, ◌++◌, take, Some, refl, sym, ap, ◌∙◌, subst, arith}
use Rattle.std.specs.Prelude.{slice_get}
use Rattle.ev_isa.specs.declared.mode.Mode.{Mode}
use Rattle.ev_body.specs.declared.key.Key.{Key}
use Rattle.ev_body.specs.declared.item.Item.{Item}
use Rattle.ev_asm.specs.declared.statement.Stmt.{Stmt}
use Rattle.ev_asm.specs.declared.statement.Stmt.TheVariants.{Label, Plain, Jump}
use Rattle.ev_asm.specs.Assembly.{Places, size, total_size}
use Rattle.ev_listing.specs.Expansion.{item_label, expansion, expansions}
use Rattle.ev_listing.specs.Marks.{Marked, stmts_of}
use Rattle.ev_listing.specs.Statements.{label}
use Rattle.ev_concrete.specs.ConcreteRun.{Marks}
use Rattle.ev_symbolic.specs.Agrees.{Code}
use Rattle.ev_symbolic.specs.Listed.{Cells, instruction, with_cell, cells_from, AllFound}
use Rattle.ev_table.specs.Table.{AreMarked}
use Rattle.ev_table.proofs.Cells.{found_first, found_rest}
use Rattle.ev_table.proofs.Expanded.{size_cons}

-- ---- cells and marks of lines one behind the other

with_append : (l : Marked) (a b : ℕ) (env : Places) (xs ys : Cells)
    → with_cell l.mark a b (instruction env a l.stmt) xs ++ ys ≡ with_cell l.mark a b (instruction env a l.stmt) (xs ++ ys)
with_append l a b env xs ys = one l.stmt
  where
    one : (s : Stmt) → with_cell l.mark a b (instruction env a s) xs ++ ys ≡ with_cell l.mark a b (instruction env a s) (xs ++ ys)
    one (Label name) = refl
    one (Plain i) = refl
    one (Jump c name) = refl

cells_append : (env : Places) (a : ℕ) (xs ys : List Marked)
    → cells_from env a (xs ++ ys) ≡ cells_from env a xs ++ cells_from env (a + total_size (stmts_of xs)) ys
cells_append env a [] ys = ap (λ (x : ℕ). cells_from env x ys) (let e : a ≡ a + 0 = omega arith in e)
cells_append env a (x ∷ xs) ys =
    let b : ℕ = a + size x.stmt in
    ap (with_cell x.mark a b (instruction env a x.stmt)) (cells_append env b xs ys)
    ∙ sym (with_append x a b env (cells_from env b xs) (cells_from env (b + total_size (stmts_of xs)) ys))
    ∙ ap (λ (c : ℕ). with_cell x.mark a b (instruction env a x.stmt) (cells_from env b xs) ++ cells_from env c ys)
    (let e : a + size x.stmt + total_size (stmts_of xs) ≡ a + (size x.stmt + total_size (stmts_of xs)) = omega arith in e)

-- what holds of lines from an address on, and of both parts where it holds of them one behind the other
record Parts (P : ℕ → List Marked → Type 0) : Type 0 where
  first : (a : ℕ) (xs ys : List Marked) → P a (xs ++ ys) → P a xs
  rest : (a : ℕ) (xs ys : List Marked) → P a (xs ++ ys) → P (a + total_size (stmts_of xs)) ys

found_parts : (code : Code) (env : Places) → Parts (λ a ls. AllFound code (cells_from env a ls))
found_parts code env = record {
  first = λ a xs ys h. found_first code (cells_from env a xs) (cells_from env (a + total_size (stmts_of xs)) ys)
      (subst (AllFound code) (cells_append env a xs ys) h);
  rest = λ a xs ys h. found_rest code (cells_from env a xs) (cells_from env (a + total_size (stmts_of xs)) ys)
      (subst (AllFound code) (cells_append env a xs ys) h);
}

marked_first : (ms : Marks) (a : ℕ) (xs ys : List Marked) → AreMarked ms a (xs ++ ys) → AreMarked ms a xs
marked_first ms a [] ys h = tt
marked_first ms a (x ∷ xs) ys h = (h.0, marked_first ms (a + size x.stmt) xs ys h.1)

marked_rest : (ms : Marks) (a : ℕ) (xs ys : List Marked) → AreMarked ms a (xs ++ ys) → AreMarked ms (a + total_size (stmts_of xs)) ys
marked_rest ms a [] ys h = subst (λ (x : ℕ). AreMarked ms x ys) (let e : a ≡ a + 0 = omega arith in e) h
marked_rest ms a (x ∷ xs) ys h = subst (λ (y : ℕ). AreMarked ms y ys)
    (let e : a + size x.stmt + total_size (stmts_of xs) ≡ a + (size x.stmt + total_size (stmts_of xs)) = omega arith in e)
    (marked_rest ms (a + size x.stmt) xs ys h.1)

marked_parts : (ms : Marks) → Parts (λ a ls. AreMarked ms a ls)
marked_parts ms = record { first = marked_first ms; rest = marked_rest ms }

-- ---- of one item

module _ (mode : Mode) (b : ℕ) (key : Key) (f : ℕ → ℕ) where
  -- the first item's lines behind its label, and those of the others
  behind_label : (P : ℕ → List Marked → Type 0) → Parts P → (a n : ℕ) (item : Item) (items : List Item) → P a (expansions mode b key f n (item ∷ items))
      → P a (expansion mode b key f n item ++ expansions mode b key f (suc n) items)
  unfolding size
  behind_label P parts a n item items h =
      subst (λ (x : ℕ). P x (expansion mode b key f n item ++ expansions mode b key f (suc n) items)) (let e : a + (0 + 0) ≡ a = omega arith in e)
      (parts.rest a (label (item_label b n) ∷ []) (expansion mode b key f n item ++ expansions mode b key f (suc n) items) h)

  part_at : (P : ℕ → List Marked → Type 0) → Parts P → (a n : ℕ) (items : List Item) → P a (expansions mode b key f n items) → (i : ℕ) (item : Item)
      → slice_get items i ≡ Some item
      → P (a + total_size (stmts_of (expansions mode b key f n (take i items)))) (expansion mode b key f (n + i) item)
  part_at P parts a n [] h i item q = absurd (cc)
  part_at P parts a n (x ∷ xs) h zero item q =
      let e : x ≡ item = cc in
      let here = parts.first a (expansion mode b key f n x) (expansions mode b key f (suc n) xs) (behind_label P parts a n x xs h) in
      subst (λ (k : ℕ). P (a + 0) (expansion mode b key f k item)) (let z : n ≡ n + 0 = omega arith in z)
      (subst (λ (y : ℕ). P y (expansion mode b key f n item)) (let z : a ≡ a + 0 = omega arith in z)
      (subst (λ (y : Item). P a (expansion mode b key f n y)) e here))
  part_at P parts a n (x ∷ xs) h (suc i) item q =
      let rest = parts.rest a (expansion mode b key f n x) (expansions mode b key f (suc n) xs) (behind_label P parts a n x xs h) in
      let one : ℕ = total_size (stmts_of (expansion mode b key f n x)) in
      let more : ℕ = total_size (stmts_of (expansions mode b key f (suc n) (take i xs))) in
      subst (λ (k : ℕ). P (a + total_size (stmts_of (expansions mode b key f n (take (suc i) (x ∷ xs))))) (expansion mode b key f k item))
      (let z : suc n + i ≡ n + suc i = omega arith in z)
      (subst (λ (y : ℕ). P y (expansion mode b key f (suc n + i) item))
      (let z : (a + one) + more ≡ a + total_size (stmts_of (expansions mode b key f n (take (suc i) (x ∷ xs)))) =
      omega (arith, size_cons mode b key f n x (take i xs)) in z)
      (part_at P parts (a + one) (suc n) xs rest i item q))

  pub item_found : (code : Code) (env : Places) (a : ℕ) (items : List Item) → AllFound code (cells_from env a (expansions mode b key f 0 items))
      → (i : ℕ) (item : Item) → slice_get items i ≡ Some item
      → AllFound code (cells_from env (a + total_size (stmts_of (expansions mode b key f 0 (take i items)))) (expansion mode b key f i item))
  item_found code env a items h i item q =
      subst (λ (k : ℕ). AllFound code (cells_from env (a + total_size (stmts_of (expansions mode b key f 0 (take i items)))) (expansion mode b key f k item)))
      (let z : 0 + i ≡ i = omega arith in z)
      (part_at (λ a ls. AllFound code (cells_from env a ls)) (found_parts code env) a 0 items h i item q)

  pub item_marked : (ms : Marks) (a : ℕ) (items : List Item) → AreMarked ms a (expansions mode b key f 0 items) → (i : ℕ) (item : Item)
      → slice_get items i ≡ Some item
      → AreMarked ms (a + total_size (stmts_of (expansions mode b key f 0 (take i items)))) (expansion mode b key f i item)
  item_marked ms a items h i item q =
      subst (λ (k : ℕ). AreMarked ms (a + total_size (stmts_of (expansions mode b key f 0 (take i items)))) (expansion mode b key f k item))
      (let z : 0 + i ≡ i = omega arith in z)
      (part_at (λ a ls. AreMarked ms a ls) (marked_parts ms) a 0 items h i item q)

  -- the items up to the next one
  size_next : (n i : ℕ) (items : List Item) (item : Item) → slice_get items i ≡ Some item
      → total_size (stmts_of (expansions mode b key f n (take (suc i) items)))
      ≡ total_size (stmts_of (expansions mode b key f n (take i items))) + total_size (stmts_of (expansion mode b key f (n + i) item))
  size_next n i [] item q = absurd (cc)
  size_next n zero (x ∷ xs) item q =
      let e : x ≡ item = cc in
      let same = ap (λ (y : Item). total_size (stmts_of (expansion mode b key f n y))) e in
      let at = ap (λ (k : ℕ). total_size (stmts_of (expansion mode b key f k item))) (let z : n ≡ n + 0 = omega arith in z) in
      omega (arith, size_cons mode b key f n x [], same, at)
  size_next n (suc i) (x ∷ xs) item q =
      let at = ap (λ (k : ℕ). total_size (stmts_of (expansion mode b key f k item))) (let z : suc n + i ≡ n + suc i = omega arith in z) in
      omega (arith, size_cons mode b key f n x (take (suc i) xs), size_cons mode b key f n x (take i xs), size_next (suc n) i xs item q, at)

  pub next_size : (i : ℕ) (items : List Item) (item : Item) → slice_get items i ≡ Some item
      → total_size (stmts_of (expansions mode b key f 0 (take (suc i) items)))
      ≡ total_size (stmts_of (expansions mode b key f 0 (take i items))) + total_size (stmts_of (expansion mode b key f i item))
  next_size i items item q = size_next 0 i items item q
      ∙ ap (λ (k : ℕ). total_size (stmts_of (expansions mode b key f 0 (take i items))) + total_size (stmts_of (expansion mode b key f k item)))
      (let z : 0 + i ≡ i = omega arith in z)
