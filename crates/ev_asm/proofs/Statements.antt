-- What the definitions say of a list of statements, one statement further.
use Rattle.std.proofs.Common.{◌≡◌, ℕ, zero, suc, ◌+◌, ◌-◌, ◌<◌, ◌≤◌, Bool, true, false, ◌&&◌, cond, ltb, List, [], ◌∷◌, ◌++◌, length, get_or, take, drop, Option, Some, None, refl, sym, ap, ◌∙◌, arith, drop-cons, append_assoc}
use Rattle.std.proofs.lemmas.List.{drop_all, append-nil}
use Rattle.std.specs.Prelude.{nat_le}
use Rattle.std.proofs.lemmas.Bool.{lt-ltb, le-ltb, ltb-false, le-leb}
use Rattle.std.proofs.Math.Seq.{take-suc}
use Rattle.std.specs.List.{list_all}
use Rattle.std.specs.Str.{bytes_eq}
use Rattle.ev_isa.specs.declared.instruction.Cond.{Cond}
use Rattle.ev_isa.specs.Spelling.{spelling, four_bytes}
use Rattle.ev_asm.specs.declared.statement.Stmt.{Stmt}
use Rattle.ev_asm.specs.declared.statement.Stmt.TheVariants.{Label, Plain, Jump}
use Rattle.ev_asm.specs.Assembly.{Name, Places, is_name, size, total_size, places, place, stmt_bytes, code}
use Rattle.ev_asm.specs.Assembled.{is_encoded, are_instructions, stmt_labels, is_new_name, first_at, first_too_large, leads_nowhere, addresses_of}
use Rattle.ev_asm.specs.Linked.{reaches}

-- the statement at n, and those behind it
pub split_at : (stmts : List Stmt) (n : ℕ) (s : Stmt) → n < length stmts → s ≡ get_or stmts n s → drop n stmts ≡ s ∷ drop (suc n) stmts
split_at stmts n s lt e = drop-cons stmts n s lt ∙ ap (λ (x : Stmt). x ∷ drop (suc n) stmts) (sym e)

pub front_at : (stmts : List Stmt) (n : ℕ) (s : Stmt) → n < length stmts → s ≡ get_or stmts n s → take (suc n) stmts ≡ take n stmts ++ s ∷ []
front_at stmts n s lt e = take-suc stmts n s lt ∙ ap (λ (x : Stmt). take n stmts ++ x ∷ []) (sym e)

both : (a b : Bool) → (a && b) ≡ true → (a ≡ true) × (b ≡ true)
both true b h = (refl, h)
both false b h = absurd cc

pub encoded_at : (stmts : List Stmt) (n : ℕ) (s : Stmt) → n < length stmts → s ≡ get_or stmts n s → are_instructions stmts ≡ true → is_encoded s ≡ true
encoded_at [] n s lt e h = absurd (omega arith)
encoded_at (x ∷ xs) zero s lt e h = ap is_encoded e ∙ (both (is_encoded x) (list_all is_encoded xs) h).0
encoded_at (x ∷ xs) (suc n) s lt e h = encoded_at xs n s (omega arith) e ((both (is_encoded x) (list_all is_encoded xs) h).1)

-- ---- names

pub same_name : (a b : List ℕ) → bytes_eq a b ≡ is_name a b
same_name [] [] = refl
same_name [] (y ∷ ys) = refl
same_name (x ∷ xs) [] = refl
same_name (x ∷ xs) (y ∷ ys) = rw (same_name xs ys) refl

-- ---- the first statement with a test

pub first_at_step : (t : List Stmt → Stmt → Bool) (stmts : List Stmt) (n m : ℕ) (s : Stmt) (W : Option ℕ) → n < length stmts → m ≡ suc n
    → s ≡ get_or stmts n s → t (take n stmts) s ≡ false
    → first_at t n (take n stmts) (drop n stmts) ≡ W → first_at t m (take m stmts) (drop m stmts) ≡ W
unfolding first_at
first_at_step t stmts n m s W lt k e h w =
    let d = split_at stmts n s lt e in
    let f = front_at stmts n s lt e in
    let here : first_at t n (take n stmts) (s ∷ drop (suc n) stmts) ≡ first_at t (suc n) (take n stmts ++ s ∷ []) (drop (suc n) stmts) =
    rw (h, first_at) refl in
    rw (k, f) (sym here ∙ ap (first_at t n (take n stmts)) (sym d) ∙ w)

pub first_at_stop : (t : List Stmt → Stmt → Bool) (stmts : List Stmt) (n : ℕ) (s : Stmt) (W : Option ℕ) → n < length stmts → s ≡ get_or stmts n s
    → t (take n stmts) s ≡ true
    → first_at t n (take n stmts) (drop n stmts) ≡ W → Some n ≡ W
unfolding first_at
first_at_stop t stmts n s W lt e h w =
    let d = split_at stmts n s lt e in
    let here : first_at t n (take n stmts) (s ∷ drop (suc n) stmts) ≡ Some n = rw (h, first_at) refl in
    sym here ∙ ap (first_at t n (take n stmts)) (sym d) ∙ w

pub first_at_end : (t : List Stmt → Stmt → Bool) (stmts : List Stmt) (n : ℕ) (W : Option ℕ) → length stmts ≤ n
    → first_at t n (take n stmts) (drop n stmts) ≡ W → None ≡ W
unfolding first_at
first_at_end t stmts n W le w = sym (ap (first_at t n (take n stmts)) (drop_all n stmts le)) ∙ w

-- ---- the first that is too large

pub large_step : (stmts : List Stmt) (n m left less : ℕ) (s : Stmt) (W : Option ℕ) → n < length stmts → m ≡ suc n → s ≡ get_or stmts n s → size s ≤ left
    → less ≡ left - size s
    → first_too_large n left (drop n stmts) ≡ W → first_too_large m less (drop m stmts) ≡ W
unfolding first_too_large
large_step stmts n m left less s W lt k e le l w =
    let d = split_at stmts n s lt e in
    let h : ltb left (size s) ≡ false = le-ltb _ _ le in
    let here : first_too_large n left (s ∷ drop (suc n) stmts) ≡ first_too_large (suc n) (left - size s) (drop (suc n) stmts) = rw (h, first_too_large) refl
    in
    rw (k, l) (sym here ∙ ap (first_too_large n left) (sym d) ∙ w)

pub large_stop : (stmts : List Stmt) (n left : ℕ) (s : Stmt) (W : Option ℕ) → n < length stmts → s ≡ get_or stmts n s → left < size s
    → first_too_large n left (drop n stmts) ≡ W → Some n ≡ W
unfolding first_too_large
large_stop stmts n left s W lt e le w =
    let d = split_at stmts n s lt e in
    let h : ltb left (size s) ≡ true = lt-ltb _ _ le in
    let here : first_too_large n left (s ∷ drop (suc n) stmts) ≡ Some n = rw (h, first_too_large) refl in
    sym here ∙ ap (first_too_large n left) (sym d) ∙ w

pub large_end : (stmts : List Stmt) (n left : ℕ) (W : Option ℕ) → length stmts ≤ n → first_too_large n left (drop n stmts) ≡ W → None ≡ W
unfolding first_too_large
large_end stmts n left W le w = sym (ap (first_too_large n left) (drop_all n stmts le)) ∙ w

-- what is nowhere too large fits
pub fits_by : (t : Bool) (n left : ℕ) (s : Stmt) (ss : List Stmt) → ltb left (size s) ≡ t
    → (let u : Option ℕ = elim t [ true ↦ Some n | false ↦ first_too_large (suc n) (left - size s) ss ] in u) ≡ None
    → (size s ≤ left) × (first_too_large (suc n) (left - size s) ss ≡ None)
fits_by true n left s ss e h = absurd cc
fits_by false n left s ss e h = (ltb-false _ _ e, h)

pub total_fits : (stmts : List Stmt) (n left : ℕ) → first_too_large n left stmts ≡ None → total_size stmts ≤ left
unfolding first_too_large
total_fits [] n left h = omega arith
total_fits (s ∷ ss) n left h =
    let k = fits_by (ltb left (size s)) n left s ss refl h in
    let r = total_fits ss (suc n) (left - size s) k.1 in
    omega (arith, k.0, r)

-- ---- labels

-- whether a statement gives this label
abbrev gives_label : Stmt → Name → Bool
gives_label (Label n) name = is_name n name
gives_label s name = false

gives_not : (s : Stmt) (ss : List Stmt) (name : Name) → gives_label s name ≡ false
    → is_new_name (stmt_labels (s ∷ ss)) name ≡ is_new_name (stmt_labels ss) name
gives_not (Label n) ss name h = rw h refl
gives_not (Plain i) ss name h = refl
gives_not (Jump c n) ss name h = refl

gives_yes : (s : Stmt) (ss : List Stmt) (name : Name) → gives_label s name ≡ true → is_new_name (stmt_labels (s ∷ ss)) name ≡ false
gives_yes (Label n) ss name h = rw h refl
gives_yes (Plain i) ss name h = absurd cc
gives_yes (Jump c n) ss name h = absurd cc

-- ---- places

place_not : (s : Stmt) (ss : List Stmt) (a : ℕ) (name : Name) → gives_label s name ≡ false
    → place (places a (s ∷ ss)) name ≡ place (places (a + size s) ss) name
unfolding places size
place_not (Label n) ss a name h = let e : a + 0 ≡ a = omega arith in rw (h, e) refl
place_not (Plain i) ss a name h = refl
place_not (Jump c n) ss a name h = refl

place_yes : (s : Stmt) (ss : List Stmt) (a : ℕ) (name : Name) → gives_label s name ≡ true → place (places a (s ∷ ss)) name ≡ a
unfolding places
place_yes (Label n) ss a name h = rw h refl
place_yes (Plain i) ss a name h = absurd cc
place_yes (Jump c n) ss a name h = absurd cc

pub total_step : (stmts : List Stmt) (n m : ℕ) (s : Stmt) → n < length stmts → m ≡ suc n → s ≡ get_or stmts n s
    → total_size (drop n stmts) ≡ size s + total_size (drop m stmts)
total_step stmts n m s lt k e = rw k (ap total_size (split_at stmts n s lt e))

-- a label that is there stands between the first address and the last
place_bounds_by : (t : Bool) (s : Stmt) (ss : List Stmt) (a : ℕ) (name : Name) → gives_label s name ≡ t
    → (is_new_name (stmt_labels ss) name ≡ false → (a + size s ≤ place (places (a + size s) ss) name)
    × (place (places (a + size s) ss) name ≤ (a + size s) + total_size ss))
    → is_new_name (stmt_labels (s ∷ ss)) name ≡ false → (a ≤ place (places a (s ∷ ss)) name) × (place (places a (s ∷ ss)) name ≤ a + total_size (s ∷ ss))
place_bounds_by true s ss a name e below h = let k = place_yes s ss a name e in (omega (arith, k), omega (arith, k))
place_bounds_by false s ss a name e below h =
    let k = place_not s ss a name e in
    let r = below (sym (gives_not s ss name e) ∙ h) in
    (omega (arith, k, r.0), omega (arith, k, r.1))

pub place_bounds : (stmts : List Stmt) (a : ℕ) (name : Name) → is_new_name (stmt_labels stmts) name ≡ false → (a ≤ place (places a stmts) name)
    × (place (places a stmts) name ≤ a + total_size stmts)
place_bounds [] a name h = absurd cc
place_bounds (s ∷ ss) a name h = place_bounds_by (gives_label s name) s ss a name refl (λ k. place_bounds ss (a + size s) name k) h

-- no statement that stands there jumps nowhere
pub none_lost_by : (t : List Stmt → Stmt → Bool) (n : ℕ) (before : List Stmt) (s : Stmt) (ss : List Stmt) (b : Bool) → t before s ≡ b
    → (let u : Option ℕ = elim b [ true ↦ Some n | false ↦ first_at t (suc n) (before ++ s ∷ []) ss ] in u) ≡ None
    → (t before s ≡ false) × (first_at t (suc n) (before ++ s ∷ []) ss ≡ None)
none_lost_by t n before s ss true e h = absurd cc
none_lost_by t n before s ss false e h = (e, h)

pub none_at : (t : Stmt → Bool) (stmts : List Stmt) (n : ℕ) (before : List Stmt) (k : ℕ) (s : Stmt) → first_at (λ x y. t y) n before stmts ≡ None
    → k < length stmts → s ≡ get_or stmts k s → t s ≡ false
unfolding first_at
none_at t [] n before k s h lt e = absurd (omega arith)
none_at t (x ∷ xs) n before zero s h lt e = ap t e ∙ (none_lost_by (λ y z. t z) n before x xs (t x) refl h).0
none_at t (x ∷ xs) n before (suc k) s h lt e = none_at t xs (suc n) (before ++ x ∷ []) k s ((none_lost_by (λ y z. t z) n before x xs (t x) refl h).1)
    (omega arith) e

-- ---- bytes

pub bytes_size : (env : Places) (a : ℕ) (s : Stmt) → length (stmt_bytes env a s) ≡ size s
unfolding stmt_bytes size spelling four_bytes
bytes_size env a (Label name) = refl
bytes_size env a (Plain i) = refl
bytes_size env a (Jump None name) = refl
bytes_size env a (Jump (Some c) name) = refl

pub code_step : (env : Places) (stmts : List Stmt) (n m a b : ℕ) (s : Stmt) (done more W : List ℕ) → n < length stmts → m ≡ suc n → s ≡ get_or stmts n s
    → b ≡ a + size s → more ≡ done ++ stmt_bytes env a s
    → done ++ code env a (drop n stmts) ≡ W → more ++ code env b (drop m stmts) ≡ W
unfolding code
code_step env stmts n m a b s done more W lt k e l g w =
    rw (k, l, g) (append_assoc done (stmt_bytes env a s) (code env (a + size s) (drop (suc n) stmts)) ∙ ap (λ (x : List Stmt). done ++ code env a x)
    (sym (split_at stmts n s lt e)) ∙ w)

pub addresses_step : (stmts : List Stmt) (n m a b : ℕ) (s : Stmt) (done more W : List ℕ) → n < length stmts → m ≡ suc n → s ≡ get_or stmts n s
    → b ≡ a + size s → more ≡ done ++ a ∷ []
    → done ++ addresses_of a (drop n stmts) ≡ W → more ++ addresses_of b (drop m stmts) ≡ W
unfolding addresses_of
addresses_step stmts n m a b s done more W lt k e l g w =
    rw (k, l, g) (append_assoc done (a ∷ []) (addresses_of (a + size s) (drop (suc n) stmts)) ∙ ap (λ (x : List Stmt). done ++ addresses_of a x)
    (sym (split_at stmts n s lt e)) ∙ w)

pub code_end : (env : Places) (stmts : List Stmt) (n a : ℕ) (done W : List ℕ) → length stmts ≤ n → done ++ code env a (drop n stmts) ≡ W → done ≡ W
unfolding code
code_end env stmts n a done W le w = sym (append-nil done) ∙ ap (λ (x : List Stmt). done ++ code env a x) (sym (drop_all n stmts le)) ∙ w

pub addresses_end : (stmts : List Stmt) (n a : ℕ) (done W : List ℕ) → length stmts ≤ n → done ++ addresses_of a (drop n stmts) ≡ W → done ≡ W
unfolding addresses_of
addresses_end stmts n a done W le w = sym (append-nil done) ∙ ap (λ (x : List Stmt). done ++ addresses_of a x) (sym (drop_all n stmts le)) ∙ w

-- ---- jumps

leads_to : (names : List Name) (s : Stmt) (c : Option Cond) (name : Name) → s ≡ Jump c name → leads_nowhere names s ≡ false → is_new_name names name ≡ false
unfolding leads_nowhere
leads_to names s c name e h = sym (ap (leads_nowhere names) e) ∙ h

-- a jump and its label are no further apart than all statements
pub near : (stmts : List Stmt) (base at k : ℕ) (s : Stmt) (c : Option Cond) (name : Name) (p : ℕ) → s ≡ Jump c name → k ≡ size s
    → leads_nowhere (stmt_labels stmts) s ≡ false → total_size stmts ≤ 131072
    → base ≤ at → at + size s ≤ base + total_size stmts → p ≡ place (places base stmts) name → (p ≤ at + k + 131072) × (at + k ≤ p + 131072)
near stmts base at k s c name p e l h t starts ends q =
    let r = place_bounds stmts base name (leads_to (stmt_labels stmts) s c name e h) in
    (omega (arith, r.0, r.1), omega (arith, r.0, r.1))

-- so 32 bits reach from it to its label
pub reached : (stmts : List Stmt) (base at : ℕ) (s : Stmt) → leads_nowhere (stmt_labels stmts) s ≡ false → total_size stmts ≤ 131072
    → base ≤ at → at + size s ≤ base + total_size stmts → reaches (places base stmts) at s ≡ true
unfolding reaches
reached stmts base at (Label n) h t starts ends = refl
reached stmts base at (Plain i) h t starts ends = refl
reached stmts base at (Jump c name) h t starts ends =
    let r = near stmts base at (size (Jump c name)) (Jump c name) c name (place (places base stmts) name) refl refl h t starts ends refl in
    let forward : nat_le (place (places base stmts) name) (at + size (Jump c name) + 2147483647) ≡ true = le-leb _ _ (omega (arith, r.0)) in
    let back : nat_le (at + size (Jump c name)) (place (places base stmts) name + 2147483647) ≡ true = le-leb _ _ (omega (arith, r.1)) in
    rw (forward, back) refl

-- what holds of every statement of the list holds where none stands in the way
pub all_lead : (stmts : List Stmt) → first_at (λ before s. leads_nowhere (stmt_labels stmts) s) 0 [] stmts ≡ None → (k : ℕ) (s : Stmt) → k < length stmts
    → s ≡ get_or stmts k s → leads_nowhere (stmt_labels stmts) s ≡ false
all_lead stmts h k s lt e = none_at (λ y. leads_nowhere (stmt_labels stmts) y) stmts 0 [] k s h lt e

pub kept : {X : Type 0} (t : Bool) (x a b : X) → t ≡ true → x ≡ cond t a b → x ≡ a
kept t x a b e h = h ∙ ap (λ (u : Bool). cond u a b) e
