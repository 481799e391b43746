-- Lines and listings: their statements and sections, what these keep, and their marks.
use Rattle.std.proofs.Common.{◌≡◌, ℕ, zero, suc, ◌+◌, ◌<◌, ◌≤◌, Bool, true, false, ◌&&◌, List, [], ◌∷◌, ◌++◌, length, get_or, drop, map, refl, sym, ap, ◌∙◌, arith, drop-cons, append_assoc}
use Rattle.std.proofs.lemmas.List.{drop_all, append-nil}
use Rattle.std.specs.List.{list_all}
use Rattle.ev_asm.specs.declared.block.Block.{Block}
use Rattle.ev_asm.specs.declared.statement.Stmt.{Stmt}
use Rattle.ev_asm.specs.Assembly.{Places, size, total_size, places}
use Rattle.ev_asm.specs.Assembled.{is_encoded, are_instructions}
use Rattle.ev_asm.specs.Linked.{section_places, block_in, linked, is_linkable}
use Rattle.ev_asm.proofs.Sections.{IsLinkable, linkable_at}
use Rattle.ev_listing.specs.Marks
use Rattle.ev_listing.specs.Marks.{Mark, stmts_of, all_places, with_mark, marks}
use Rattle.ev_stub.specs.declared.line.Line.{Line}
use Rattle.ev_stub.specs.declared.listing.Listing.{Listing}
use Rattle.ev_stub.specs.Blocks.{section_of, block_of, blocks_of}
use Rattle.ev_stub.specs.Lines.{marked_of, stmt_of, listing_of, listings_of}

both : (a b : Bool) → (a && b) ≡ true → (a ≡ true) × (b ≡ true)
both true b h = (refl, h)
both false b h = absurd cc

pub item_at : {A : Type 0} (ls : List A) (n : ℕ) (l : A) → n < length ls → l ≡ get_or ls n l → drop n ls ≡ l ∷ drop (suc n) ls
item_at {A} ls n l lt e = drop-cons ls n l lt ∙ ap (λ (x : A). x ∷ drop (suc n) ls) (sym e)

pub stmts_same : (ls : List Line) → map stmt_of ls ≡ stmts_of (map marked_of ls)
stmts_same [] = refl
stmts_same (l ∷ ls) = ap (λ (x : List Stmt). stmt_of l ∷ x) (stmts_same ls)

-- ---- sections

pub sections_places : (bs : List Marks.Listing) → section_places (map section_of bs) ≡ all_places bs
sections_places [] = refl
sections_places (b ∷ bs) = ap (λ (x : Places). places b.address (stmts_of b.lines) ++ x) (sections_places bs)

blocks_same : (env : Places) (bs : List Marks.Listing) → map (block_in env) (map section_of bs) ≡ map (block_of env) bs
blocks_same env [] = refl
blocks_same env (b ∷ bs) = ap (λ (x : List Block). block_of env b ∷ x) (blocks_same env bs)

pub linked_is : (bs : List Marks.Listing) → linked (map section_of bs) ≡ blocks_of bs
linked_is bs = blocks_same (section_places (map section_of bs)) bs ∙ ap (λ (env : Places). map (block_of env) bs) (sections_places bs)

pub listing_linkable : (env : Places) (ls : List Listing) (n : ℕ) (l : Listing) → list_all (is_linkable env) (map section_of (listings_of ls)) ≡ true
    → n < length ls → l ≡ get_or ls n l
    → IsLinkable env (section_of (listing_of l))
listing_linkable env [] n l h lt e = absurd (omega arith)
listing_linkable env (x ∷ xs) zero l h lt e = linkable_at env (map section_of (listings_of (x ∷ xs))) 0 (section_of (listing_of l)) h (omega arith)
    (ap (λ (y : Listing). section_of (listing_of y)) e)
listing_linkable env (x ∷ xs) (suc n) l h lt e =
    listing_linkable env xs n l ((both (is_linkable env (section_of (listing_of x))) (list_all (is_linkable env) (map section_of (listings_of xs))) h).1)
    (omega arith) e

-- ---- visible instructions

marks_before : (m : Mark) (a : ℕ) (rest : List (ℕ × Mark)) → with_mark m a [] ++ rest ≡ with_mark m a rest
marks_before Mark.Never a rest = refl
marks_before Mark.Always a rest = refl
marks_before Mark.IfNonzero a rest = refl
marks_before Mark.IfEqual a rest = refl

pub marks_step : (ls : List Line) (n m a b : ℕ) (l : Line) (done more W : List (ℕ × Mark)) → n < length ls → m ≡ suc n → l ≡ get_or ls n l
    → b ≡ a + size (stmt_of l) → more ≡ done ++ with_mark (marked_of l).mark a []
    → done ++ marks a (map marked_of (drop n ls)) ≡ W → more ++ marks b (map marked_of (drop m ls)) ≡ W
unfolding marks
marks_step ls n m a b l done more W lt k e f g w =
    let rest : List (ℕ × Mark) = marks (a + size (stmt_of l)) (map marked_of (drop (suc n) ls)) in
    rw (k, f, g) (append_assoc done (with_mark (marked_of l).mark a []) rest ∙ ap (λ (x : List (ℕ × Mark)). done ++ x) (marks_before (marked_of l).mark a rest)
    ∙ ap (λ (x : List Line). done ++ marks a (map marked_of x)) (sym (item_at ls n l lt e)) ∙ w)

pub marks_end : (ls : List Line) (n a : ℕ) (done W : List (ℕ × Mark)) → length ls ≤ n → done ++ marks a (map marked_of (drop n ls)) ≡ W → done ≡ W
unfolding marks
marks_end ls n a done W le w = sym (append-nil done) ∙ ap (λ (x : List Line). done ++ marks a (map marked_of x)) (sym (drop_all n ls le)) ∙ w

pub room_step : (ls : List Line) (n m : ℕ) (l : Line) → n < length ls → m ≡ suc n → l ≡ get_or ls n l
    → total_size (map stmt_of (drop n ls)) ≡ size (stmt_of l) + total_size (map stmt_of (drop m ls))
room_step ls n m l lt k e = rw k (ap (λ (x : List Line). total_size (map stmt_of x)) (item_at ls n l lt e))

pub encoded_at : (ls : List Line) (n : ℕ) (l : Line) → are_instructions (map stmt_of ls) ≡ true → n < length ls → l ≡ get_or ls n l
    → is_encoded (stmt_of l) ≡ true
encoded_at [] n l h lt e = absurd (omega arith)
encoded_at (x ∷ xs) zero l h lt e = ap (λ (y : Line). is_encoded (stmt_of y)) e ∙ (both (is_encoded (stmt_of x)) (are_instructions (map stmt_of xs)) h).0
encoded_at (x ∷ xs) (suc n) l h lt e = encoded_at xs n l ((both (is_encoded (stmt_of x)) (are_instructions (map stmt_of xs)) h).1) (omega arith) e
