-- The code of items and bodies, one item and one body further.
use Rattle.std.proofs.Common.{◌≡◌, ℕ, suc, ◌+◌, ◌<◌, ◌≤◌, List, [], ◌∷◌, ◌++◌, length, get_or, drop, map, sym, ap, ◌∙◌, arith, append_assoc}
use Rattle.std.proofs.lemmas.List.{drop_all, append-nil, map-append}
use Rattle.ev_isa.specs.declared.mode.Mode.{Mode}
use Rattle.ev_body.specs.declared.body.Body.{Body}
use Rattle.ev_body.specs.declared.item.Item.{Item}
use Rattle.ev_body.specs.declared.key.Key.{Key}
use Rattle.ev_body.specs.declared.image.Image.{Image}
use Rattle.ev_asm.specs.declared.linking.Section.{Section}
use Rattle.ev_asm.specs.declared.statement.Stmt.{Stmt}
use Rattle.ev_asm.specs.Assembly.{size, total_size}
use Rattle.ev_listing.specs.AddressMap.{body_code}
use Rattle.ev_listing.specs.Expansion.{item_label, expansion, expansions, body_stmts}
use Rattle.ev_listing.specs.Marks.{Marked, stmts_of}
use Rattle.ev_listing.specs.Statements.{label}
use Rattle.ev_stub.specs.Blocks.{section_of}
use Rattle.ev_stub.proofs.Listed.{item_at}
use Rattle.ev_concrete.specs.Opening.{body_listings}

pub total_append : (xs ys : List Stmt) → total_size (xs ++ ys) ≡ total_size xs + total_size ys
total_append [] ys = omega arith
total_append (x ∷ xs) ys = omega (arith, total_append xs ys)

-- ---- items

module _ (mode : Mode) (b : ℕ) (key : Key) (f : ℕ → ℕ) where
  -- an item's label and lines
  abbrev here : ℕ → Item → List Marked
  here n item = label (item_label b n) ∷ expansion mode b key f n item

  pub stmts_step : (is : List Item) (n m : ℕ) (item : Item) (done more W : List Stmt) → n < length is → m ≡ suc n → item ≡ get_or is n item
      → more ≡ done ++ stmts_of (label (item_label b n) ∷ expansion mode b key f n item) → done ++ stmts_of (expansions mode b key f n (drop n is)) ≡ W
      → more ++ stmts_of (expansions mode b key f m (drop m is)) ≡ W
  stmts_step is n m item done more W lt k e g w =
      let rest : List Marked = expansions mode b key f (suc n) (drop (suc n) is) in
      rw (k, g) (append_assoc done (stmts_of (here n item)) (stmts_of rest)
      ∙ ap (λ (x : List Stmt). done ++ x) (sym (map-append (λ (l : Marked). l.stmt) (here n item) rest))
      ∙ ap (λ (x : List Item). done ++ stmts_of (expansions mode b key f n x)) (sym (item_at is n item lt e)) ∙ w)

  pub stmts_end : (is : List Item) (n : ℕ) (done W : List Stmt) → length is ≤ n → done ++ stmts_of (expansions mode b key f n (drop n is)) ≡ W → done ≡ W
  stmts_end is n done W le w = sym (append-nil done) ∙ ap (λ (x : List Item). done ++ stmts_of (expansions mode b key f n x)) (sym (drop_all n is le)) ∙ w

  -- an item's size beside that of the items behind it
  size_here : (n : ℕ) (item : Item) (rest : List Marked)
      → total_size (stmts_of (label (item_label b n) ∷ (expansion mode b key f n item ++ rest)))
      ≡ total_size (stmts_of (expansion mode b key f n item)) + total_size (stmts_of rest)
  unfolding size
  size_here n item rest =
      let first : List Marked = expansion mode b key f n item in
      let e = ap total_size (map-append (λ (l : Marked). l.stmt) first rest) ∙ total_append (stmts_of first) (stmts_of rest) in
      omega (arith, e)

  pub size_step : (is : List Item) (n m : ℕ) (item : Item) (done more W : ℕ) → n < length is → m ≡ suc n → item ≡ get_or is n item
      → more ≡ done + total_size (stmts_of (expansion mode b key f n item)) → done + total_size (stmts_of (expansions mode b key f n (drop n is))) ≡ W
      → more + total_size (stmts_of (expansions mode b key f m (drop m is))) ≡ W
  size_step is n m item done more W lt k e g w =
      let rest : List Marked = expansions mode b key f (suc n) (drop (suc n) is) in
      let now = ap (λ (x : List Item). total_size (stmts_of (expansions mode b key f n x))) (item_at is n item lt e) ∙ size_here n item rest in
      let next = ap (λ (x : ℕ). total_size (stmts_of (expansions mode b key f x (drop x is)))) k in
      omega (arith, now, next)

  pub size_end : (is : List Item) (n done W : ℕ) → length is ≤ n → done + total_size (stmts_of (expansions mode b key f n (drop n is))) ≡ W → done ≡ W
  size_end is n done W le w =
      let none : total_size (stmts_of (expansions mode b key f n (drop n is))) ≡ 0 =
      ap (λ (x : List Item). total_size (stmts_of (expansions mode b key f n x))) (drop_all n is le) in
      omega (arith, none)

-- ---- bodies

pub section_is : (mode : Mode) (image : Image) (n a : ℕ) (b : Body) (stmts : List Stmt) → a ≡ body_code n → stmts ≡ stmts_of (body_stmts mode image n b)
    → record { address = a; stmts = stmts } ≡ section_of (record { address = body_code n; lines = body_stmts mode image n b })
section_is mode image n a b stmts p q = λ i. record { address = p i; stmts = q i }

pub sections_step : (mode : Mode) (image : Image) (bs : List Body) (n m : ℕ) (b : Body) (s : Section) (done more W : List Section) → n < length bs
    → m ≡ suc n → b ≡ get_or bs n b
    → s ≡ section_of (record { address = body_code n; lines = body_stmts mode image n b }) → more ≡ done ++ s ∷ []
    → done ++ map section_of (body_listings mode image n (drop n bs)) ≡ W → more ++ map section_of (body_listings mode image m (drop m bs)) ≡ W
sections_step mode image bs n m b s done more W lt k e f g w =
    let rest : List Section = map section_of (body_listings mode image (suc n) (drop (suc n) bs)) in
    let here : Section = section_of (record { address = body_code n; lines = body_stmts mode image n b }) in
    rw (k, g, f) (append_assoc done (here ∷ []) rest ∙ ap (λ (x : List Body). done ++ map section_of (body_listings mode image n x))
    (sym (item_at bs n b lt e)) ∙ w)

pub sections_end : (mode : Mode) (image : Image) (bs : List Body) (n : ℕ) (done W : List Section) → length bs ≤ n
    → done ++ map section_of (body_listings mode image n (drop n bs)) ≡ W → done ≡ W
sections_end mode image bs n done W le w = sym (append-nil done) ∙ ap (λ (x : List Body). done ++ map section_of (body_listings mode image n x))
    (sym (drop_all n bs le)) ∙ w
