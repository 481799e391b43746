-- Where a name is placed that an item gives, and no item before it: as far behind the item's beginning as in the item's lines.
use Rattle.std.proofs.Common.{◌≡◌, ℕ, zero, suc, ◌+◌, ◌<◌, false, List, [], ◌∷◌, ◌++◌, take, Some, refl, sym, ap, ◌∙◌, subst, arith, append_assoc}
use Rattle.std.specs.Prelude.{if◌then◌else◌, slice_get}
use Rattle.ev_isa.specs.declared.mode.Mode.{Mode}
use Rattle.ev_body.specs.declared.key.Key.{Key}
use Rattle.ev_body.specs.declared.item.Item.{Item}
use Rattle.ev_body.specs.declared.body.Body.{Body}
use Rattle.ev_body.specs.declared.image.Image.{Image}
use Rattle.ev_body.specs.Bodies.{body_items}
use Rattle.ev_asm.specs.Assembly.{Name, Places, is_name, place, places, size, total_size}
use Rattle.ev_listing.specs.AddressMap.{body_code}
use Rattle.ev_listing.specs.Expansion.{item_label, expansion, expansions, item_address, function_address, body_stmts}
use Rattle.ev_listing.specs.Statements.{label}
use Rattle.ev_listing.specs.Marks.{Marked, stmts_of, all_places}
use Rattle.ev_concrete.specs.Opening.{body_listings, kernel_listings}
use Rattle.ev_fetch.proofs.Regions.{Each}
use Rattle.ev_table.specs.Table.{places_of}
use Rattle.ev_table.proofs.Expanded.{size_cons}
use Rattle.ev_table.proofs.Whole.{first_each, places_split, address}
use Rattle.ev_table.proofs.LabelPlaces.{Other, Lack, place_behind, places_append, same_name}

-- lines give a name so many bytes behind their beginning, whatever comes behind them
abbrev pub Gives : List Marked → Name → ℕ → Type 0
Gives ls name off = (a : ℕ) (rest : Places) → place (places a (stmts_of ls) ++ rest) name ≡ a + off

last_each : {X : Type 0} (P : X → Type 0) (xs ys : List X) → Each P (xs ++ ys) → Each P ys
last_each P [] ys h = h
last_each P (x ∷ xs) ys h = last_each P xs ys h.1

-- so they do where it is the first label of that name
pub first_label : (front back : List Marked) (name : Name) → Lack name front → Gives (front ++ label name ∷ back) name (total_size (stmts_of front))
unfolding places size
first_label front back name lack a rest =
    let here : ℕ = a + total_size (stmts_of front) in
    ap (λ (ps : Places). place ps name) (places_append a front (label name ∷ back) rest)
    ∙ place_behind a front (places here (stmts_of (label name ∷ back)) ++ rest) name lack
    ∙ ap (λ b. if b then here else place (places here (stmts_of back) ++ rest) name) (same_name name)

module _ (mode : Mode) (name : Name) (off : ℕ) where
  -- ---- among items

  module _ (n : ℕ) (key : Key) (f : ℕ → ℕ) where
    first_item : (a k : ℕ) (items : List Item) (i : ℕ) (item : Item) (rest : Places) → slice_get items i ≡ Some item
        → Lack name (expansions mode n key f k (take i items)) → is_name (item_label n (k + i)) name ≡ false
        → Gives (expansion mode n key f (k + i) item) name off
        → place (places a (stmts_of (expansions mode n key f k items)) ++ rest) name
        ≡ a + total_size (stmts_of (expansions mode n key f k (take i items))) + off
    unfolding places size
    first_item a k [] i item rest h lack other gives = absurd (cc)
    first_item a k (y ∷ items) zero item rest h lack other gives =
        let here : List Marked = expansion mode n key f k y in
        let more : List Marked = expansions mode n key f (suc k) items in
        let one : ℕ = total_size (stmts_of here) in
        let same : y ≡ item = cc in
        ap (λ b. if b then a else place (places a (stmts_of (here ++ more)) ++ rest) name)
        (subst (λ j. is_name (item_label n j) name ≡ false) (sym plus) other)
        ∙ ap (λ (ps : Places). place ps name) (places_append a here more rest)
        ∙ (λ j. place (places a (stmts_of (expansion mode n key f (plus j) (same j))) ++ (places (a + one) (stmts_of more) ++ rest)) name)
        ∙ gives a (places (a + one) (stmts_of more) ++ rest) ∙ (let e : a + off ≡ a + 0 + off = omega arith in e)
      where
        plus : k ≡ k + 0
        plus = omega arith
    first_item a k (y ∷ items) (suc i) item rest h lack other gives =
        let here : List Marked = expansion mode n key f k y in
        let more : List Marked = expansions mode n key f (suc k) items in
        let before : List Marked = expansions mode n key f (suc k) (take i items) in
        let one : ℕ = total_size (stmts_of here) in
        let next : k + suc i ≡ suc k + i = omega arith in
        ap (λ b. if b then a else place (places a (stmts_of (here ++ more)) ++ rest) name) lack.0
        ∙ ap (λ (ps : Places). place ps name) (places_append a here more rest)
        ∙ place_behind a here (places (a + one) (stmts_of more) ++ rest) name (first_each (λ (l : Marked). Other name l.stmt) here before lack.1)
        ∙ first_item (a + one) (suc k) items i item rest h (last_each (λ (l : Marked). Other name l.stmt) here before lack.1)
        (subst (λ j. is_name (item_label n j) name ≡ false) next other) (subst (λ j. Gives (expansion mode n key f j item) name off) next gives)
        ∙ (let e : (a + one) + total_size (stmts_of before) + off ≡ a + total_size (stmts_of (expansions mode n key f k (take (suc i) (y ∷ items)))) + off
        = omega (arith, size_cons mode n key f k y (take i items)) in e)

  -- ---- among bodies

  module _ (image : Image) (n i : ℕ) (b : Body) (item : Item) (is_item : slice_get (body_items b) i ≡ Some item) where
    abbrev lines : ℕ → Body → List Item → List Marked
    lines m y items = expansions mode m y.key (function_address mode image) 0 items

    first_body : (m : ℕ) (bs : List Body) (rest : Places) (j : ℕ) → slice_get bs j ≡ Some b → m + j ≡ n
        → ((k : ℕ) (y : Body) → slice_get bs k ≡ Some y → m + k < n → Lack name (lines (m + k) y (body_items y)))
        → Lack name (lines n b (take i (body_items b))) → is_name (item_label n i) name ≡ false
        → Gives (expansion mode n b.key (function_address mode image) i item) name off
        → place (all_places (body_listings mode image m bs) ++ rest) name ≡ body_code n + total_size (stmts_of (lines n b (take i (body_items b)))) + off
    unfolding body_stmts
    first_body m [] rest j h number lacks lack other gives = absurd (cc)
    first_body m (y ∷ ys) rest zero h number lacks lack other gives =
        let e : y ≡ b = cc in
        let same : m ≡ n = omega (arith, number) in
        let behind : Places = all_places (body_listings mode image (suc m) ys) ++ rest in
        ap (λ (ps : Places). place ps name)
        (append_assoc (places (body_code m) (stmts_of (body_stmts mode image m y))) (all_places (body_listings mode image (suc m) ys)) rest)
        ∙ (λ t. place (places (body_code (same t)) (stmts_of (body_stmts mode image (same t) (e t))) ++ behind) name)
        ∙ first_item n b.key (function_address mode image) (body_code n) 0 (body_items b) i item behind is_item lack
        (subst (λ z. is_name (item_label n z) name ≡ false) zeroth other)
        (subst (λ z. Gives (expansion mode n b.key (function_address mode image) z item) name off) zeroth gives)
      where
        zeroth : i ≡ 0 + i
        zeroth = omega arith
    first_body m (y ∷ ys) rest (suc j) h number lacks lack other gives =
        let behind : Places = all_places (body_listings mode image (suc m) ys) ++ rest in
        let same : m + 0 ≡ m = omega arith in
        ap (λ (ps : Places). place ps name)
        (append_assoc (places (body_code m) (stmts_of (body_stmts mode image m y))) (all_places (body_listings mode image (suc m) ys)) rest)
        ∙ place_behind (body_code m) (body_stmts mode image m y) behind name
        (subst (λ z. Lack name (lines z y (body_items y))) same (lacks 0 y refl (omega (arith, number))))
        ∙ first_body (suc m) ys rest j h (omega (arith, number))
        (λ k x q l. subst (λ z. Lack name (lines z x (body_items x))) (let e : m + suc k ≡ suc m + k = omega arith in e) (lacks (suc k) x q (omega arith)))
        lack other gives

    pub first_placed : slice_get image.bodies n ≡ Some b
        → ((m : ℕ) (y : Body) → slice_get image.bodies m ≡ Some y → m < n → Lack name (lines m y (body_items y)))
        → Lack name (lines n b (take i (body_items b))) → is_name (item_label n i) name ≡ false
        → Gives (expansion mode n b.key (function_address mode image) i item) name off
        → place (places_of mode image) name ≡ item_address mode n b i + off
    first_placed h lacks lack other gives =
        ap (λ (ps : Places). place ps name) (places_split mode image)
        ∙ first_body 0 image.bodies (all_places (kernel_listings mode)) n h (omega arith)
        (λ k y q l. subst (λ z. Lack name (lines z y (body_items y))) (let e : k ≡ 0 + k = omega arith in e) (lacks k y q (omega arith)))
        lack other gives
        ∙ ap (λ a. a + off) (sym (address mode image n i b))
