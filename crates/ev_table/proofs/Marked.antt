-- The mark of each line of listings that have no address in common and whose labels bear no mark is the mark at the line's address.
use Rattle.std.proofs.Common.{◌≡◌, ℕ, ◌+◌, ◌<◌, ◌≤◌, ◌⊎◌, ⊎_elim, inl, inr, Bool, true, false, List, [], ◌∷◌, ◌++◌, Some, refl, sym, ap, ◌∙◌, arith, ne_eqb, eq-eqb, eqb-true, subst}
use Rattle.std.specs.List.{list_all}
use Rattle.std.specs.Prelude.{◌==◌, ◌&&◌, nat_lt, nat_le, if◌then◌else◌, None}
use Rattle.std.proofs.lemmas.Bool.{leb-true, leb-false, ltb-true, ltb-false}
use Rattle.ev_asm.specs.declared.statement.Stmt.{Stmt}
use Rattle.ev_asm.specs.declared.statement.Stmt.TheVariants.{Label, Plain, Jump}
use Rattle.ev_asm.specs.Assembly.{Places, size, total_size}
use Rattle.ev_listing.specs.Marks.{Mark, Never, Always, IfNonzero, IfEqual, Marked, Listing, stmts_of, with_mark, marks, all_marks}
use Rattle.ev_concrete.specs.ConcreteRun.{Marks, mark_at}
use Rattle.ev_symbolic.specs.Agrees.{Cell}
use Rattle.ev_symbolic.specs.Listed.{Cells, instruction, with_cell, cells_from, cells_in, cell_at}
use Rattle.ev_symbolic.proofs.Values.{and_left, and_right}
use Rattle.ev_symbolic.proofs.Blocks.{unsome}
use Rattle.ev_fetch.proofs.Regions.{Each, each_append}
use Rattle.ev_fetch.proofs.Placed.{end_of, IsWithin, Inside, Disjoint}
use Rattle.ev_fetch.proofs.Spellings.{spelling_some}
use Rattle.ev_table.specs.Table.{MarkedAt, AreMarked, reads_no_memory}
use Rattle.ev_table.proofs.Expanded.{is_never, is_unmarked, are_unmarked}

-- ---- entries of other addresses

skipped : (m : Mark) (a q : ℕ) (rest : Marks) → (a ≡ q → ⊥) → mark_at (with_mark m a rest) q ≡ mark_at rest q
skipped Never a q rest h = refl
skipped Always a q rest h = ap (λ b. if b then Always else mark_at rest q) (ne_eqb a q h)
skipped IfNonzero a q rest h = ap (λ b. if b then IfNonzero else mark_at rest q) (ne_eqb a q h)
skipped IfEqual a q rest h = ap (λ b. if b then IfEqual else mark_at rest q) (ne_eqb a q h)

never_is : (m : Mark) → is_never m ≡ true → m ≡ Never
never_is Never h = refl
never_is _ h = absurd (cc)

with_never : (m : Mark) (a : ℕ) (rest : Marks) → m ≡ Never → with_mark m a rest ≡ rest
with_never m a rest h = ap (λ (x : Mark). with_mark x a rest) h

with_append : (m : Mark) (a : ℕ) (xs ys : Marks) → with_mark m a xs ++ ys ≡ with_mark m a (xs ++ ys)
with_append Never a xs ys = refl
with_append Always a xs ys = refl
with_append IfNonzero a xs ys = refl
with_append IfEqual a xs ys = refl

-- ---- the marks of one listing

outside_marks : (a q : ℕ) (ls : List Marked) (ys : Marks) → are_unmarked ls ≡ true → (q < a) ⊎ (a + total_size (stmts_of ls) ≤ q)
    → mark_at (marks a ls ++ ys) q ≡ mark_at ys q
unfolding marks size
outside_marks a q [] ys h o = refl
outside_marks a q (l ∷ ls) ys h o = one l.stmt (and_left _ _ h) o (λ b k. outside_marks b q ls ys (and_right (is_unmarked l.mark l.stmt) _ h) k)
  where
    further : (s : Stmt) → 0 < size s → (q < a) ⊎ (a + (size s + total_size (stmts_of ls)) ≤ q)
        → ((b : ℕ) → (q < b) ⊎ (b + total_size (stmts_of ls) ≤ q) → mark_at (marks b ls ++ ys) q ≡ mark_at ys q)
        → mark_at (with_mark l.mark a (marks (a + size s) ls) ++ ys) q ≡ mark_at ys q
    further s some o k =
        ap (λ (ms : Marks). mark_at ms q) (with_append l.mark a (marks (a + size s) ls) ys)
        ∙ skipped l.mark a q (marks (a + size s) ls ++ ys) (λ e. ⊎_elim (λ x. omega arith) (λ x. omega arith) o)
        ∙ k (a + size s) (⊎_elim (λ x. inl (omega arith)) (λ x. inr (omega arith)) o)

    one : (s : Stmt) → is_unmarked l.mark s ≡ true → (q < a) ⊎ (a + (size s + total_size (stmts_of ls)) ≤ q)
        → ((b : ℕ) → (q < b) ⊎ (b + total_size (stmts_of ls) ≤ q) → mark_at (marks b ls ++ ys) q ≡ mark_at ys q)
        → mark_at (with_mark l.mark a (marks (a + size s) ls) ++ ys) q ≡ mark_at ys q
    one (Label name) u o k =
        ap (λ (ms : Marks). mark_at (ms ++ ys) q) (with_never l.mark a (marks (a + 0) ls) (never_is l.mark u))
        ∙ k (a + 0) (⊎_elim (λ x. inl (omega arith)) (λ x. inr (omega arith)) o)
    one (Plain i) u o k = further (Plain i) (spelling_some i) o k
    one (Jump None name) u o k = further (Jump None name) (omega arith) o k
    one (Jump (Some c) name) u o k = further (Jump (Some c) name) (omega arith) o k

-- lines are marked by other marks that are the same where the lines stand
marked_change : (ms ns : Marks) (a hi : ℕ) (ls : List Marked) → ((q : ℕ) → a ≤ q → q < hi → mark_at ns q ≡ mark_at ms q)
    → a + total_size (stmts_of ls) ≤ hi → AreMarked ms a ls → AreMarked ns a ls
unfolding size
marked_change ms ns a hi [] f e h = tt
marked_change ms ns a hi (l ∷ ls) f e h =
    (one l.stmt e h.0, marked_change ms ns (a + size l.stmt) hi ls (λ q k t. f q (omega arith) t) (omega arith) h.1)
  where
    one : (s : Stmt) → a + (size s + total_size (stmts_of ls)) ≤ hi → MarkedAt ms a l.mark s → MarkedAt ns a l.mark s
    one (Label name) e k = tt
    one (Plain i) e k = let some = spelling_some i in f a (omega arith) (omega arith) ∙ k
    one (Jump None name) e k = f a (omega arith) (omega arith) ∙ k
    one (Jump (Some c) name) e k = f a (omega arith) (omega arith) ∙ k

here : (m : Mark) (a : ℕ) (rest : Marks) → mark_at rest a ≡ Never → mark_at (with_mark m a rest) a ≡ m
here Never a rest h = h
here Always a rest h = ap (λ b. if b then Always else mark_at rest a) (eq-eqb a a refl)
here IfNonzero a rest h = ap (λ b. if b then IfNonzero else mark_at rest a) (eq-eqb a a refl)
here IfEqual a rest h = ap (λ b. if b then IfEqual else mark_at rest a) (eq-eqb a a refl)

own_marked : (a : ℕ) (ls : List Marked) (ys : Marks) → are_unmarked ls ≡ true
    → ((q : ℕ) → a ≤ q → q < a + total_size (stmts_of ls) → mark_at ys q ≡ Never) → AreMarked (marks a ls ++ ys) a ls
unfolding marks size
own_marked a [] ys h f = tt
own_marked a (l ∷ ls) ys h f =
    one l.stmt (and_left _ _ h) f (own_marked (a + size l.stmt) ls ys unmarked (λ q k t. f q (omega arith) (omega arith)))
  where
    unmarked : are_unmarked ls ≡ true
    unmarked = and_right (is_unmarked l.mark l.stmt) _ h

    further : (s : Stmt) → 0 < size s → ((q : ℕ) → a ≤ q → q < a + (size s + total_size (stmts_of ls)) → mark_at ys q ≡ Never)
        → (mark_at (with_mark l.mark a (marks (a + size s) ls) ++ ys) a ≡ l.mark)
        × (AreMarked (marks (a + size s) ls ++ ys) (a + size s) ls → AreMarked (with_mark l.mark a (marks (a + size s) ls) ++ ys) (a + size s) ls)
    further s some f =
        let rest : Marks = marks (a + size s) ls in (
          ap (λ (ms : Marks). mark_at ms a) (with_append l.mark a rest ys)
              ∙ here l.mark a (rest ++ ys) (outside_marks (a + size s) a ls ys unmarked (inl (omega arith)) ∙ f a (omega arith) (omega arith)),
          marked_change (rest ++ ys) (with_mark l.mark a rest ++ ys) (a + size s) (a + size s + total_size (stmts_of ls)) ls
              (λ q k t. ap (λ (ms : Marks). mark_at ms q) (with_append l.mark a rest ys) ∙ skipped l.mark a q (rest ++ ys) (λ e. omega arith))
              (omega arith),
        )

    one : (s : Stmt) → is_unmarked l.mark s ≡ true → ((q : ℕ) → a ≤ q → q < a + (size s + total_size (stmts_of ls)) → mark_at ys q ≡ Never)
        → AreMarked (marks (a + size s) ls ++ ys) (a + size s) ls
        → MarkedAt (with_mark l.mark a (marks (a + size s) ls) ++ ys) a l.mark s
        × AreMarked (with_mark l.mark a (marks (a + size s) ls) ++ ys) (a + size s) ls
    one (Label name) u f k = (
      tt,
      subst (λ (ms : Marks). AreMarked (ms ++ ys) (a + 0) ls) (sym (with_never l.mark a (marks (a + 0) ls) (never_is l.mark u))) k,
    )
    one (Plain i) u f k = let t = further (Plain i) (spelling_some i) f in (t.0, t.1 k)
    one (Jump None name) u f k = let t = further (Jump None name) (omega arith) f in (t.0, t.1 k)
    one (Jump (Some c) name) u f k = let t = further (Jump (Some c) name) (omega arith) f in (t.0, t.1 k)

-- ---- those of several

abbrev pub all_unmarked : List Listing → Bool
all_unmarked [] = true
all_unmarked (b ∷ bs) = are_unmarked b.lines && all_unmarked bs

side : (b : Listing) (q : ℕ) → (IsWithin b q → ⊥) → (q < b.address) ⊎ (end_of b ≤ q)
side b q h = pick (nat_le b.address q) (nat_lt q (end_of b)) refl refl
  where
    pick : (x y : Bool) → nat_le b.address q ≡ x → nat_lt q (end_of b) ≡ y → (q < b.address) ⊎ (end_of b ≤ q)
    pick false y e f = inl (leb-false b.address q e)
    pick true false e f = inr (ltb-false q (end_of b) f)
    pick true true e f = absurd (h (leb-true b.address q e, ltb-true q (end_of b) f))

none_at : (bs : List Listing) (q : ℕ) → all_unmarked bs ≡ true → (Inside bs q → ⊥) → mark_at (all_marks bs) q ≡ Never
none_at [] q u h = refl
none_at (b ∷ bs) q u h = outside_marks b.address q b.lines (all_marks bs) (and_left _ _ u) (side b q (λ w. h (inl w)))
    ∙ none_at bs q (and_right (are_unmarked b.lines) _ u) (λ i. h (inr i))

abbrev pub EachMarked : Marks → List Listing → Type 0
EachMarked ms bs = Each (λ (b : Listing). AreMarked ms b.address b.lines) bs

change_all : (ms ns : Marks) (bs : List Listing) → ((q : ℕ) → Inside bs q → mark_at ns q ≡ mark_at ms q) → EachMarked ms bs → EachMarked ns bs
change_all ms ns [] f h = tt
change_all ms ns (b ∷ bs) f h =
    (marked_change ms ns b.address (end_of b) b.lines (λ q l k. f q (inl (l, k))) (omega arith) h.0, change_all ms ns bs (λ q i. f q (inr i)) h.1)

pub each_marked : (bs : List Listing) → Disjoint bs → all_unmarked bs ≡ true → EachMarked (all_marks bs) bs
each_marked [] d u = tt
each_marked (b ∷ bs) d u =
    let own = and_left _ _ u in
    let rest = and_right (are_unmarked b.lines) _ u in (
      own_marked b.address b.lines (all_marks bs) own (λ q l k. none_at bs q rest (λ i. d.0 q (l, k) i)),
      change_all (all_marks bs) (marks b.address b.lines ++ all_marks bs) bs
          (λ q i. outside_marks b.address q b.lines (all_marks bs) own (side b q (λ w. d.0 q w i))) (each_marked bs d.1 rest),
    )

-- ---- the marks of cells

abbrev HasMark : Marks → ℕ × Cell → Type 0
HasMark ms x = mark_at ms x.0 ≡ x.1.mark

cells_marked : (ms : Marks) (env : Places) (a : ℕ) (ls : List Marked) → AreMarked ms a ls → Each (HasMark ms) (cells_from env a ls)
cells_marked ms env a [] h = tt
cells_marked ms env a (l ∷ ls) h = one l.stmt h.0 (cells_marked ms env (a + size l.stmt) ls h.1)
  where
    one : (s : Stmt) → MarkedAt ms a l.mark s → Each (HasMark ms) (cells_from env (a + size s) ls)
        → Each (HasMark ms) (with_cell l.mark a (a + size s) (instruction env a s) (cells_from env (a + size s) ls))
    one (Label name) h k = k
    one (Plain i) h k = (h, k)
    one (Jump c name) h k = (h, k)

all_marked : (ms : Marks) (env : Places) (bs : List Listing) → EachMarked ms bs → Each (HasMark ms) (cells_in env bs)
all_marked ms env [] h = tt
all_marked ms env (b ∷ bs) h = each_append (HasMark ms) (cells_from env b.address b.lines) (cells_in env bs) (cells_marked ms env b.address b.lines h.0)
    (all_marked ms env bs h.1)

found_marked : (ms : Marks) (xs : Cells) (a : ℕ) (x : Cell) → Each (HasMark ms) xs → cell_at xs a ≡ Some x → mark_at ms a ≡ x.mark
found_marked ms [] a x h q = absurd (cc)
found_marked ms (y ∷ ys) a x h q = pick (y.0 == a) refl q (found_marked ms ys a x h.1)
  where
    pick : (b : Bool) → (y.0 == a) ≡ b → (if b then Some y.1 else cell_at ys a) ≡ Some x → (cell_at ys a ≡ Some x → mark_at ms a ≡ x.mark)
        → mark_at ms a ≡ x.mark
    pick true r w k = subst (λ (b : ℕ). mark_at ms b ≡ x.mark) (eqb-true y.0 a r) (h.0 ∙ ap (λ (z : Cell). z.mark) (unsome y.1 x w))
    pick false r w k = k w

-- a cell's mark is that of its address
pub cell_mark : (env : Places) (bs : List Listing) → Disjoint bs → all_unmarked bs ≡ true → (a : ℕ) (x : Cell) → cell_at (cells_in env bs) a ≡ Some x
    → mark_at (all_marks bs) a ≡ x.mark
cell_mark env bs d u a x q = found_marked (all_marks bs) (cells_in env bs) a x (all_marked (all_marks bs) env bs (each_marked bs d u)) q

-- ---- marks that depend on no memory

abbrev pub read_no_memory : List Marked → Bool
read_no_memory ls = list_all (λ (l : Marked). reads_no_memory l.mark) ls

abbrev pub all_plain : List Listing → Bool
all_plain [] = true
all_plain (b ∷ bs) = read_no_memory b.lines && all_plain bs

abbrev PlainAt : Marks → ℕ → Type 0
PlainAt ms q = reads_no_memory (mark_at ms q) ≡ true

plain_with : (m : Mark) (a q : ℕ) (rest : Marks) → reads_no_memory m ≡ true → PlainAt rest q → PlainAt (with_mark m a rest) q
plain_with Never a q rest h k = k
plain_with Always a q rest h k = pick (a == q) k
  where
    pick : (b : Bool) → reads_no_memory (mark_at rest q) ≡ true → reads_no_memory (if b then Always else mark_at rest q) ≡ true
    pick true k = refl
    pick false k = k
plain_with IfNonzero a q rest h k = absurd (cc)
plain_with IfEqual a q rest h k = absurd (cc)

plain_lines : (a q : ℕ) (ls : List Marked) (ys : Marks) → read_no_memory ls ≡ true → PlainAt ys q → PlainAt (marks a ls ++ ys) q
unfolding marks
plain_lines a q [] ys h k = k
plain_lines a q (l ∷ ls) ys h k = subst (λ (ms : Marks). PlainAt ms q) (sym (with_append l.mark a (marks (a + size l.stmt) ls) ys))
    (plain_with l.mark a q (marks (a + size l.stmt) ls ++ ys) (and_left _ _ h)
    (plain_lines (a + size l.stmt) q ls ys (and_right (reads_no_memory l.mark) _ h) k))

pub plain_at : (bs : List Listing) (q : ℕ) → all_plain bs ≡ true → reads_no_memory (mark_at (all_marks bs) q) ≡ true
plain_at [] q h = refl
plain_at (b ∷ bs) q h = plain_lines b.address q b.lines (all_marks bs) (and_left _ _ h) (plain_at bs q (and_right (read_no_memory b.lines) _ h))

-- ---- listings that stand above an address

pub skipped_all : (bs cs : List Listing) (q : ℕ) → all_unmarked bs ≡ true → Each (λ (b : Listing). q < b.address) bs
    → mark_at (all_marks (bs ++ cs)) q ≡ mark_at (all_marks cs) q
skipped_all [] cs q u h = refl
skipped_all (b ∷ bs) cs q u h =
    outside_marks b.address q b.lines (all_marks (bs ++ cs)) (and_left _ _ u) (inl h.0) ∙ skipped_all bs cs q (and_right (are_unmarked b.lines) _ u) h.1
