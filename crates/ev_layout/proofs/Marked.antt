-- The marks of code, one line, one item and one body further.
use Rattle.std.proofs.Common.{◌≡◌, ℕ, suc, ◌+◌, ◌<◌, ◌≤◌, List, [], ◌∷◌, ◌++◌, length, get_or, drop, refl, sym, ap, ◌∙◌, arith, append_assoc}
use Rattle.std.proofs.lemmas.List.{drop_all, append-nil}
use Rattle.ev_isa.specs.declared.mode.Mode.{Mode}
use Rattle.ev_body.specs.declared.body.Body.{Body}
use Rattle.ev_body.specs.declared.image.Image.{Image}
use Rattle.ev_body.specs.declared.item.Item.{Item}
use Rattle.ev_body.specs.declared.key.Key.{Key}
use Rattle.ev_asm.specs.Assembly.{size, total_size}
use Rattle.ev_listing.specs.AddressMap.{body_code}
use Rattle.ev_listing.specs.Expansion.{expansion, expansions, body_stmts}
use Rattle.ev_listing.specs.Marks.{Mark, Marked, Listing, stmts_of, with_mark, marks, all_marks}
use Rattle.ev_stub.proofs.Listed.{item_at}
use Rattle.ev_concrete.specs.Opening.{body_listings, kernel_listings, listings}
use Rattle.ev_concrete.specs.ConcreteRun.{marks_of}
use Rattle.ev_items.specs.declared.line.ItemLine.{ItemLine}
use Rattle.ev_items.specs.Lines.{marked_of, lines_of}

abbrev pub Found : Type 0
Found = List (ℕ × Mark)

before : (m : Mark) (a : ℕ) (rest : Found) → with_mark m a [] ++ rest ≡ with_mark m a rest
before Mark.Never a rest = refl
before Mark.Always a rest = refl
before Mark.IfNonzero a rest = refl
before Mark.IfEqual a rest = refl

-- ---- lines

module _ (mode : Mode) (b : ℕ) (key : Key) (n : ℕ) where
  pub line_step : (ls : List ItemLine) (k m : ℕ) (l : ItemLine) (mark : Mark) (a c : ℕ) (done more W : Found) → k < length ls → m ≡ suc k
      → l ≡ get_or ls k l → mark ≡ (marked_of mode b key n l).mark → c ≡ a + size (marked_of mode b key n l).stmt → more ≡ done ++ with_mark mark a []
      → done ++ marks a (lines_of mode b key n (drop k ls)) ≡ W → more ++ marks c (lines_of mode b key n (drop m ls)) ≡ W
  unfolding marks
  line_step ls k m l mark a c done more W lt q e g h i w =
      let x : Marked = marked_of mode b key n l in
      let rest : Found = marks (a + size x.stmt) (lines_of mode b key n (drop (suc k) ls)) in
      rw (q, h, i, g) (append_assoc done (with_mark x.mark a []) rest ∙ ap (λ (y : Found). done ++ y) (before x.mark a rest)
      ∙ ap (λ (y : List ItemLine). done ++ marks a (lines_of mode b key n y)) (sym (item_at ls k l lt e)) ∙ w)

  pub line_end : (ls : List ItemLine) (k a : ℕ) (done W : Found) → length ls ≤ k → done ++ marks a (lines_of mode b key n (drop k ls)) ≡ W → done ≡ W
  unfolding marks
  line_end ls k a done W le w = sym (append-nil done) ∙ ap (λ (x : List ItemLine). done ++ marks a (lines_of mode b key n x)) (sym (drop_all k ls le)) ∙ w

-- ---- items

marks_behind : (a : ℕ) (xs ys : List Marked) → marks a (xs ++ ys) ≡ marks a xs ++ marks (a + total_size (stmts_of xs)) ys
unfolding marks
marks_behind a [] ys = ap (λ (x : ℕ). marks x ys) (let e : a ≡ a + 0 = omega arith in e)
marks_behind a (x ∷ xs) ys =
    let rest : Found = marks (a + size x.stmt + total_size (stmts_of xs)) ys in
    ap (with_mark x.mark a) (marks_behind (a + size x.stmt) xs ys)
    ∙ sym (before x.mark a (marks (a + size x.stmt) xs ++ rest))
    ∙ sym (append_assoc (with_mark x.mark a []) (marks (a + size x.stmt) xs) rest)
    ∙ ap (λ (f : Found). f ++ rest) (before x.mark a (marks (a + size x.stmt) xs))
    ∙ ap (λ (c : ℕ). with_mark x.mark a (marks (a + size x.stmt) xs) ++ marks c ys)
    (let e : a + size x.stmt + total_size (stmts_of xs) ≡ a + (size x.stmt + total_size (stmts_of xs)) = omega arith in e)

module _ (mode : Mode) (b : ℕ) (key : Key) (f : ℕ → ℕ) where
  item_marks : (n a : ℕ) (item : Item) (items : List Item)
      → marks a (expansions mode b key f n (item ∷ items))
      ≡ marks a (expansion mode b key f n item) ++ marks (a + total_size (stmts_of (expansion mode b key f n item))) (expansions mode b key f (suc n) items)
  unfolding marks size
  item_marks n a item items =
      ap (λ (x : ℕ). marks x (expansion mode b key f n item ++ expansions mode b key f (suc n) items)) (let e : a + 0 ≡ a = omega arith in e)
      ∙ marks_behind a (expansion mode b key f n item) (expansions mode b key f (suc n) items)

  pub items_step : (is : List Item) (n m : ℕ) (item : Item) (a c : ℕ) (done more W : Found) → n < length is → m ≡ suc n → item ≡ get_or is n item
      → c ≡ a + total_size (stmts_of (expansion mode b key f n item)) → more ≡ done ++ marks a (expansion mode b key f n item)
      → done ++ marks a (expansions mode b key f n (drop n is)) ≡ W → more ++ marks c (expansions mode b key f m (drop m is)) ≡ W
  items_step is n m item a c done more W lt k e g h w =
      let here : Found = marks a (expansion mode b key f n item) in
      let rest : Found = marks (a + total_size (stmts_of (expansion mode b key f n item))) (expansions mode b key f (suc n) (drop (suc n) is)) in
      rw (k, g, h) (append_assoc done here rest ∙ ap (λ (x : Found). done ++ x) (sym (item_marks n a item (drop (suc n) is)))
      ∙ ap (λ (x : List Item). done ++ marks a (expansions mode b key f n x)) (sym (item_at is n item lt e)) ∙ w)

  pub items_end : (is : List Item) (n a : ℕ) (done W : Found) → length is ≤ n → done ++ marks a (expansions mode b key f n (drop n is)) ≡ W → done ≡ W
  unfolding marks
  items_end is n a done W le w = sym (append-nil done) ∙ ap (λ (x : List Item). done ++ marks a (expansions mode b key f n x)) (sym (drop_all n is le)) ∙ w

-- ---- bodies

pub bodies_step : (mode : Mode) (image : Image) (bs : List Body) (n m : ℕ) (b : Body) (done more W : Found) → n < length bs → m ≡ suc n → b ≡ get_or bs n b
    → more ≡ done ++ marks (body_code n) (body_stmts mode image n b)
    → done ++ all_marks (body_listings mode image n (drop n bs)) ≡ W → more ++ all_marks (body_listings mode image m (drop m bs)) ≡ W
bodies_step mode image bs n m b done more W lt k e g w =
    let here : Found = marks (body_code n) (body_stmts mode image n b) in
    let rest : Found = all_marks (body_listings mode image (suc n) (drop (suc n) bs)) in
    rw (k, g) (append_assoc done here rest ∙ ap (λ (x : List Body). done ++ all_marks (body_listings mode image n x)) (sym (item_at bs n b lt e)) ∙ w)

pub bodies_end : (mode : Mode) (image : Image) (bs : List Body) (n : ℕ) (done W : Found) → length bs ≤ n
    → done ++ all_marks (body_listings mode image n (drop n bs)) ≡ W → done ≡ W
bodies_end mode image bs n done W le w = sym (append-nil done) ∙ ap (λ (x : List Body). done ++ all_marks (body_listings mode image n x))
    (sym (drop_all n bs le)) ∙ w

-- ---- all code

marks_append : (xs ys : List Listing) → all_marks (xs ++ ys) ≡ all_marks xs ++ all_marks ys
marks_append [] ys = refl
marks_append (x ∷ xs) ys = ap (λ (l : Found). marks x.address x.lines ++ l) (marks_append xs ys)
    ∙ sym (append_assoc (marks x.address x.lines) (all_marks xs) (all_marks ys))

pub marks_are : (mode : Mode) (image : Image) → all_marks (body_listings mode image 0 image.bodies) ++ all_marks (kernel_listings mode) ≡ marks_of mode image
unfolding listings
marks_are mode image = sym (marks_append (body_listings mode image 0 image.bodies) (kernel_listings mode))
