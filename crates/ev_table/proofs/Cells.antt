-- What a table of distinct cells gives.
use Rattle.std.proofs.Common.{◌≡◌, ℕ, Bool, true, false, [], ◌∷◌, ◌++◌, Some, refl, sym, ap, ◌∙◌, eqb-true}
use Rattle.std.specs.Prelude.{◌==◌, if◌then◌else◌}
use Rattle.ev_symbolic.specs.Agrees.{Cell, Code}
use Rattle.ev_symbolic.specs.Listed.{Cells, cell_at, absent, distinct, Elsewhere, AllFound}

-- ---- distinct addresses

absent_append : (a : ℕ) (xs ys : Cells) → absent a xs ≡ true → absent a ys ≡ true → absent a (xs ++ ys) ≡ true
absent_append a [] ys h k = k
absent_append a (x ∷ xs) ys h k = pick (a == x.0) h (absent_append a xs ys)
  where
    pick : (b : Bool) → (if b then false else absent a xs) ≡ true → (absent a xs ≡ true → absent a ys ≡ true → absent a (xs ++ ys) ≡ true)
        → (if b then false else absent a (xs ++ ys)) ≡ true
    pick true q r = q
    pick false q r = r q k

first_absent : (x : ℕ × Cell) (xs : Cells) → distinct (x ∷ xs) ≡ true → absent x.0 xs ≡ true
first_absent x xs h = pick (absent x.0 xs) h
  where
    pick : (b : Bool) → (if b then distinct xs else false) ≡ true → b ≡ true
    pick true q = refl
    pick false q = q

rest_distinct : (x : ℕ × Cell) (xs : Cells) → distinct (x ∷ xs) ≡ true → distinct xs ≡ true
rest_distinct x xs h = pick (absent x.0 xs) h
  where
    pick : (b : Bool) → (if b then distinct xs else false) ≡ true → distinct xs ≡ true
    pick true q = q
    pick false q = absurd (cc)

pub distinct_cons : (x : ℕ × Cell) (xs : Cells) → absent x.0 xs ≡ true → distinct xs ≡ true → distinct (x ∷ xs) ≡ true
distinct_cons x xs a d = ap (λ b. if b then distinct xs else false) a ∙ d

pub distinct_append : (xs ys : Cells) → distinct xs ≡ true → distinct ys ≡ true → Elsewhere xs ys → distinct (xs ++ ys) ≡ true
distinct_append [] ys d e f = e
distinct_append (x ∷ xs) ys d e f = distinct_cons x (xs ++ ys) (absent_append x.0 xs ys (first_absent x xs d) f.0)
    (distinct_append xs ys (rest_distinct x xs d) e f.1)

-- ---- what is found

pub found_first : (code : Code) (xs ys : Cells) → AllFound code (xs ++ ys) → AllFound code xs
found_first code [] ys f = tt
found_first code (x ∷ xs) ys f = (f.0, found_first code xs ys f.1)

pub found_rest : (code : Code) (xs ys : Cells) → AllFound code (xs ++ ys) → AllFound code ys
found_rest code [] ys f = f
found_rest code (x ∷ xs) ys f = found_rest code xs ys f.1

-- a cell of a list all of whose cells are found
pub found_at : (code : Code) (xs : Cells) → AllFound code xs → (a : ℕ) (c : Cell) → cell_at xs a ≡ Some c → code a ≡ Some c
found_at code [] f a c h = absurd (cc)
found_at code (x ∷ xs) f a c h = pick (x.0 == a) refl h (found_at code xs f.1 a c)
  where
    pick : (b : Bool) → (x.0 == a) ≡ b → (if b then Some x.1 else cell_at xs a) ≡ Some c → (cell_at xs a ≡ Some c → code a ≡ Some c) → code a ≡ Some c
    pick true q r k = ap code (sym (eqb-true x.0 a q)) ∙ f.0 ∙ r
    pick false q r k = k r
