-- The cells of listings that have no address in common stand at distinct addresses, one behind the other.
use Rattle.std.proofs.Common.{◌≡◌, ℕ, ◌+◌, ◌<◌, ◌≤◌, true, false, List, [], ◌∷◌, length, refl, sym, ap, ◌∙◌, arith, ne_eqb, subst, inl, inr, length-append}
use Rattle.std.specs.Prelude.{if◌then◌else◌}
use Rattle.ev_isa.specs.Spelling.{spelling}
use Rattle.ev_asm.specs.Assembly.{Places, total_size}
use Rattle.ev_listing.specs.Marks.{Listing, stmts_of}
use Rattle.ev_symbolic.specs.Agrees.{Cell}
use Rattle.ev_symbolic.specs.Listed.{Cells, cells_from, cells_in, spelled, absent, distinct, Elsewhere, Laid}
use Rattle.ev_symbolic.proofs.Listed.{laid, bytes_spelled}
use Rattle.ev_fetch.proofs.Regions.{Each, each_append}
use Rattle.ev_fetch.proofs.Placed.{code_length, IsWithin, Inside, Disjoint}
use Rattle.ev_fetch.proofs.Spellings.{spelling_some}
use Rattle.ev_table.proofs.Cells.{distinct_cons, distinct_append}

each_map : (P Q : ℕ × Cell → Type 0) → ((x : ℕ × Cell) → P x → Q x) → (xs : Cells) → Each P xs → Each Q xs
each_map P Q f [] h = tt
each_map P Q f (x ∷ xs) h = (f x h.0, each_map P Q f xs h.1)

each_both : (P Q : ℕ × Cell → Type 0) (xs : Cells) → Each P xs → Each Q xs → Each (λ x. P x × Q x) xs
each_both P Q [] h k = tt
each_both P Q (x ∷ xs) h k = ((h.0, k.0), each_both P Q xs h.1 k.1)

absent_by : (a : ℕ) (xs : Cells) → Each (λ x. x.0 ≡ a → ⊥) xs → absent a xs ≡ true
absent_by a [] h = refl
absent_by a (x ∷ xs) h = ap (λ b. if b then false else absent a xs) (ne_eqb a x.0 (λ e. h.0 (sym e))) ∙ absent_by a xs h.1

elsewhere_by : (xs ys : Cells) → Each (λ x. absent x.0 ys ≡ true) xs → Elsewhere xs ys
elsewhere_by [] ys h = tt
elsewhere_by (x ∷ xs) ys h = (h.0, elsewhere_by xs ys h.1)

-- ---- the cells of one listing

laid_from : (a : ℕ) (xs : Cells) → Laid a xs → Each (λ x. a ≤ x.0) xs
laid_from a [] h = tt
laid_from a (x ∷ xs) h =
    let at = h.0 in
    let next = h.1 in
    (omega arith, each_map (λ y. x.1.next ≤ y.0) (λ y. a ≤ y.0) (λ y l. omega arith) xs (laid_from x.1.next xs h.2))

laid_below : (a : ℕ) (xs : Cells) → Laid a xs → Each (λ x. x.0 < a + length (spelled xs)) xs
laid_below a [] h = tt
laid_below a (x ∷ xs) h =
    let at = h.0 in
    let next = h.1 in
    let some = spelling_some x.1.ins in
    let sum = length-append (spelling x.1.ins) (spelled xs) in (
      omega arith,
      each_map (λ y. y.0 < x.1.next + length (spelled xs)) (λ y. y.0 < a + length (spelled (x ∷ xs))) (λ y l. omega arith) xs
          (laid_below x.1.next xs h.2),
    )

laid_distinct : (a : ℕ) (xs : Cells) → Laid a xs → distinct xs ≡ true
laid_distinct a [] h = refl
laid_distinct a (x ∷ xs) h =
    let at = h.0 in
    let next = h.1 in
    let some = spelling_some x.1.ins in
    distinct_cons x xs
    (absent_by x.0 xs (each_map (λ y. x.1.next ≤ y.0) (λ y. y.0 ≡ x.0 → ⊥) (λ y l e. omega arith) xs (laid_from x.1.next xs h.2)))
    (laid_distinct x.1.next xs h.2)

own_within : (env : Places) (b : Listing) → Each (λ x. IsWithin b x.0) (cells_from env b.address b.lines)
own_within env b =
    let xs : Cells = cells_from env b.address b.lines in
    let size : length (spelled xs) ≡ total_size (stmts_of b.lines) =
    ap length (sym (bytes_spelled env b.address b.lines)) ∙ code_length env b.address (stmts_of b.lines) in
    each_map (λ x. (b.address ≤ x.0) × (x.0 < b.address + length (spelled xs))) (λ x. IsWithin b x.0)
    (λ x h. let l = h.0 in let k = h.1 in (l, omega arith)) xs
    (each_both (λ x. b.address ≤ x.0) (λ x. x.0 < b.address + length (spelled xs)) xs (laid_from b.address xs (laid env b.address b.lines))
    (laid_below b.address xs (laid env b.address b.lines)))

-- ---- those of several

each_inside : (env : Places) (bs : List Listing) → Each (λ x. Inside bs x.0) (cells_in env bs)
each_inside env [] = tt
each_inside env (b ∷ bs) =
    each_append (λ x. Inside (b ∷ bs) x.0) (cells_from env b.address b.lines) (cells_in env bs)
    (each_map (λ x. IsWithin b x.0) (λ x. Inside (b ∷ bs) x.0) (λ x w. inl w) (cells_from env b.address b.lines) (own_within env b))
    (each_map (λ x. Inside bs x.0) (λ x. Inside (b ∷ bs) x.0) (λ x i. inr i) (cells_in env bs) (each_inside env bs))

pub listings_distinct : (env : Places) (bs : List Listing) → Disjoint bs → distinct (cells_in env bs) ≡ true
listings_distinct env [] d = refl
listings_distinct env (b ∷ bs) d =
    let own : Cells = cells_from env b.address b.lines in
    let rest : Cells = cells_in env bs in
    distinct_append own rest (laid_distinct b.address own (laid env b.address b.lines)) (listings_distinct env bs d.1)
    (elsewhere_by own rest (each_map (λ x. IsWithin b x.0) (λ x. absent x.0 rest ≡ true)
    (λ x w. absent_by x.0 rest (each_map (λ y. Inside bs y.0) (λ y. y.0 ≡ x.0 → ⊥) (λ y i e. d.0 x.0 w (subst (Inside bs) e i)) rest (each_inside env bs)))
    own (own_within env b)))
