-- The labels that statements give are places in the code.
use Rattle.std.proofs.Common.{◌≡◌, ℕ, ◌+◌, ◌-◌, ◌≤◌, Bool, true, false, ◌&&◌, List, [], ◌∷◌, ◌++◌, Option, Some, None, refl, ap, subst, ◌∙◌, arith, ◌⊎◌, inl, inr, ⊎_elim}
use Rattle.std.specs.Prelude.{zero, suc, pos, negsuc, nat_le, if◌then◌else◌, slice_get}
use Rattle.std.specs.Int.{w32}
use Rattle.std.specs.Int.RustNames.{FitsSigned}
use Rattle.std.proofs.lemmas.Bool.{eq-eqb, leb-true, leb-false}
use Rattle.ev_isa.specs.declared.instruction.Cond.{Cond}
use Rattle.ev_isa.specs.Instruction.{is_instruction}
use Rattle.ev_asm.specs.declared.statement.Stmt.{Stmt}
use Rattle.ev_asm.specs.declared.statement.Stmt.TheVariants.{Label, Plain, Jump}
use Rattle.ev_asm.specs.Assembly.{Name, Places, is_name, place, places, size, total_size, distance, jump}
use Rattle.ev_listing.specs.Marks.{Marked, Listing, stmts_of, all_places}
use Rattle.ev_code.specs.Coding.{IsEncodable}
use Rattle.ev_symbolic.specs.Listed.{Cells, instruction, with_cell, cells_from, cells_in}
use Rattle.ev_fetch.specs.Spelled.{AreSpelled}
use Rattle.ev_fetch.proofs.Regions.{Each, each_append}
use Rattle.ev_fetch.proofs.Placed.{end_of}

-- an address of the kernel's code or just behind it: any two are less than 2 ^ 31 apart
abbrev pub InCode : ℕ → Type 0
InCode a = (0xffffffff81000000 ≤ a) × (a ≤ 0xffffffff82800000)

-- ---- names

same_name : (name : Name) → is_name name name ≡ true
same_name [] = refl
same_name (x ∷ xs) = ap (λ t. t && is_name xs xs) (eq-eqb x x refl) ∙ same_name xs

abbrev pub has_place : Places → Name → Bool
has_place [] name = false
has_place (e ∷ es) name = if is_name e.0 name then true else has_place es name

abbrev AllInCode : Places → Type 0
AllInCode env = Each (λ (e : Name × ℕ). InCode e.1) env

pub place_in_code : (env : Places) (name : Name) → AllInCode env → has_place env name ≡ true → InCode (place env name)
place_in_code [] name h q = absurd (cc)
place_in_code (e ∷ es) name h q = pick (is_name e.0 name) q (place_in_code es name h.1)
  where
    pick : (t : Bool) → (if t then true else has_place es name) ≡ true → (has_place es name ≡ true → InCode (place es name))
        → InCode (if t then e.1 else place es name)
    pick true w k = h.0
    pick false w k = k w

pub has_first : (xs ys : Places) (name : Name) → has_place xs name ≡ true → has_place (xs ++ ys) name ≡ true
has_first [] ys name h = absurd (cc)
has_first (x ∷ xs) ys name h = pick (is_name x.0 name) h (has_first xs ys name)
  where
    pick : (t : Bool) → (if t then true else has_place xs name) ≡ true → (has_place xs name ≡ true → has_place (xs ++ ys) name ≡ true)
        → (if t then true else has_place (xs ++ ys) name) ≡ true
    pick true w k = refl
    pick false w k = k w

has_behind : (x : Name × ℕ) (xs : Places) (name : Name) → has_place xs name ≡ true → has_place (x ∷ xs) name ≡ true
has_behind x xs name h = pick (is_name x.0 name)
  where
    pick : (t : Bool) → (if t then true else has_place xs name) ≡ true
    pick true = refl
    pick false = h

pub has_rest : (xs ys : Places) (name : Name) → has_place ys name ≡ true → has_place (xs ++ ys) name ≡ true
has_rest [] ys name h = h
has_rest (x ∷ xs) ys name h = has_behind x (xs ++ ys) name (has_rest xs ys name h)

-- ---- labels

-- some statement gives the label
abbrev pub Gives : Name → List Marked → Type 0
Gives name [] = ⊥
Gives name (l ∷ ls) = (l.stmt ≡ Label name) ⊎ Gives name ls

pub gives_first : (name : Name) (xs ys : List Marked) → Gives name xs → Gives name (xs ++ ys)
gives_first name [] ys h = absurd h
gives_first name (x ∷ xs) ys h = ⊎_elim (λ l. inl l) (λ r. inr (gives_first name xs ys r)) h

pub gives_rest : (name : Name) (xs ys : List Marked) → Gives name ys → Gives name (xs ++ ys)
gives_rest name [] ys h = h
gives_rest name (x ∷ xs) ys h = inr (gives_rest name xs ys h)

-- statement number k
pub gives_at : (name : Name) (ls : List Marked) (k : ℕ) (l : Marked) → slice_get ls k ≡ Some l → l.stmt ≡ Label name → Gives name ls
gives_at name [] k l h q = absurd (cc)
gives_at name (x ∷ xs) zero l h q = let e : x ≡ l = cc in inl (ap (λ (y : Marked). y.stmt) e ∙ q)
gives_at name (x ∷ xs) (suc k) l h q = inr (gives_at name xs k l h q)

same_label : (name other : Name) → (let s : Stmt = Label other in s) ≡ Label name → other ≡ name
same_label name other h = cc

pub label_placed : (a : ℕ) (ls : List Marked) (name : Name) → Gives name ls → has_place (places a (stmts_of ls)) name ≡ true
unfolding places
label_placed a [] name h = absurd h
label_placed a (l ∷ ls) name h = one l.stmt h (λ b. label_placed b ls name)
  where
    one : (s : Stmt) → (s ≡ Label name) ⊎ Gives name ls → ((b : ℕ) → Gives name ls → has_place (places b (stmts_of ls)) name ≡ true)
        → has_place (places a (s ∷ stmts_of ls)) name ≡ true
    one (Label other) (inl e) k = ap (λ t. if t then true else has_place (places a (stmts_of ls)) name) (ap (λ x. is_name x name) (same_label name other e)
        ∙ same_name name)
    one (Label other) (inr g) k = has_behind (other, a) (places a (stmts_of ls)) name (k a g)
    one (Plain i) (inl e) k = absurd (cc)
    one (Plain i) (inr g) k = k (a + size (Plain i)) g
    one (Jump c n) (inl e) k = absurd (cc)
    one (Jump c n) (inr g) k = k (a + size (Jump c n)) g

labels_in_code : (a : ℕ) (ss : List Stmt) → 0xffffffff81000000 ≤ a → a + total_size ss ≤ 0xffffffff82800000 → AllInCode (places a ss)
unfolding places size
labels_in_code a [] l h = tt
labels_in_code a (s ∷ ss) l h = one s (omega arith) (labels_in_code (a + size s) ss (omega arith) (omega arith))
  where
    one : (s : Stmt) → a ≤ 0xffffffff82800000 → AllInCode (places (a + size s) ss) → AllInCode (places a (s ∷ ss))
    one (Label name) u k = ((l, u), subst (λ x. AllInCode (places x ss)) (let e : a + 0 ≡ a = omega arith in e) k)
    one (Plain i) u k = k
    one (Jump c n) u k = k

-- ---- listings

-- the listing lies in the code
abbrev pub LiesInCode : Listing → Type 0
LiesInCode b = (0xffffffff81000000 ≤ b.address) × (end_of b ≤ 0xffffffff82800000)

pub places_in_code : (bs : List Listing) → Each LiesInCode bs → AllInCode (all_places bs)
places_in_code [] h = tt
places_in_code (b ∷ bs) h = each_append (λ (e : Name × ℕ). InCode e.1) (places b.address (stmts_of b.lines)) (all_places bs)
    (labels_in_code b.address (stmts_of b.lines) h.0.0 h.0.1) (places_in_code bs h.1)

-- ---- statements that are spelled

abbrev pub IsSpelledWith : Places → Stmt → Type 0
IsSpelledWith env (Label name) = Unit {0}
IsSpelledWith env (Plain i) = IsEncodable i
IsSpelledWith env (Jump c name) = InCode (place env name)

far : (target next : ℕ) → InCode target → InCode next → FitsSigned w32 (distance target next)
unfolding distance
far target next t n = pick (nat_le next target) refl
  where
    pick : (b : Bool) → nat_le next target ≡ b → FitsSigned w32 (if b then pos (target - next) else negsuc (next - target - 1))
    pick true q = let t1 = t.1 in let n0 = n.0 in let le = leb-true next target q in record { sfits = omega arith }
    pick false q = let t0 = t.0 in let n1 = n.1 in let lt = leb-false next target q in record { sfits = omega arith }

jump_spelled : (c : Option Cond) (target next : ℕ) → InCode target → InCode next → IsEncodable (jump c (distance target next))
unfolding is_instruction
jump_spelled None target next t n = record { fields = far target next t n; counts = refl }
jump_spelled (Some c) target next t n = record { fields = far target next t n; counts = refl }

-- statements at an address of the code
pub cells_spelled : (env : Places) (a : ℕ) (ls : List Marked) → Each (λ l. IsSpelledWith env l.stmt) ls → 0xffffffff81000000 ≤ a
    → a + total_size (stmts_of ls) ≤ 0xffffffff82800000 → AreSpelled (cells_from env a ls)
cells_spelled env a [] g l h = tt
cells_spelled env a (x ∷ xs) g l h = one x.stmt g.0 (omega arith) (omega arith) (cells_spelled env (a + size x.stmt) xs g.1 (omega arith) (omega arith))
  where
    one : (s : Stmt) → IsSpelledWith env s → 0xffffffff81000000 ≤ a + size s → a + size s ≤ 0xffffffff82800000 → AreSpelled (cells_from env (a + size s) xs)
        → AreSpelled (with_cell x.mark a (a + size s) (instruction env a s) (cells_from env (a + size s) xs))
    one (Label name) g l h k = k
    one (Plain i) g l h k = (g, k)
    one (Jump c name) g l h k = (jump_spelled c (place env name) (a + size (Jump c name)) g (l, h), k)

pub spelled_append : (xs ys : Cells) → AreSpelled xs → AreSpelled ys → AreSpelled (xs ++ ys)
spelled_append [] ys h k = k
spelled_append (x ∷ xs) ys h k = (h.0, spelled_append xs ys h.1 k)

-- the statements of each listing are good
pub listings_spelled : (env : Places) (bs : List Listing) → Each LiesInCode bs → Each (λ b. Each (λ l. IsSpelledWith env l.stmt) b.lines) bs
    → AreSpelled (cells_in env bs)
listings_spelled env [] h g = tt
listings_spelled env (b ∷ bs) h g =
    spelled_append (cells_from env b.address b.lines) (cells_in env bs) (cells_spelled env b.address b.lines g.0 h.0.0 h.0.1) (listings_spelled env bs h.1 g.1)
