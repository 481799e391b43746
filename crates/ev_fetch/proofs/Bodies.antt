-- The statements of bodies and of the kernel's own code have spellings.
use Rattle.std.proofs.Common.{◌≡◌, ℕ, zero, suc, ◌+◌, ◌^◌, ◌<◌, ◌≤◌, Bool, true, false, not, ◌&&◌, ◌||◌, List, [], ◌∷◌, length, take, Option, Some, None, refl, ap, subst, arith, length-append, ◌⊎◌, inl, inr, ⊎_elim}
use Rattle.std.specs.Prelude.{nat_le, slice_get, flat_map}
use Rattle.std.specs.List.{list_all, list_any}
use Rattle.std.proofs.lemmas.List.{length-take}
use Rattle.std.proofs.lemmas.Option.{slice_get_within}
use Rattle.std.proofs.lemmas.Bool.{leb-true}
use Rattle.ev_isa.specs.declared.mode.Mode.{Mode}
use Rattle.ev_isa.specs.Spelling.{spelling, four_bytes}
use Rattle.ev_body.specs.declared.key.Key.{Key}
use Rattle.ev_body.specs.declared.key.Side.TheVariants.{User}
use Rattle.ev_body.specs.declared.item.Item.{Item}
use Rattle.ev_body.specs.declared.item.Item.TheVariants.{Take}
use Rattle.ev_body.specs.declared.body.Part.{Part}
use Rattle.ev_body.specs.declared.body.Body.{Body}
use Rattle.ev_body.specs.declared.image.Image.{Image}
use Rattle.ev_body.specs.Bodies.{body_items, first_body, function_start}
use Rattle.ev_body.specs.WellFormed.{IsImage, is_body, has_operands, are_parts, is_finish}
use Rattle.ev_abstract.specs.Rules.{breaks_slots, is_take}
use Rattle.ev_asm.specs.declared.statement.Stmt.{Stmt}
use Rattle.ev_asm.specs.declared.statement.Stmt.TheVariants.{Label, Plain, Jump}
use Rattle.ev_asm.specs.Assembly.{Name, Places, place, places, size}
use Rattle.ev_listing.specs.AddressMap.{fred_page, body_code, code_end}
use Rattle.ev_listing.specs.Marks.{Marked, Listing, stmts_of, all_places}
use Rattle.ev_listing.specs.Expansion.{expansion, expansions, body_stmts, function_address, address_in, item_label, taken_label, exit_of}
use Rattle.ev_listing.specs.FredCode.{fred_listings}
use Rattle.ev_concrete.specs.Opening.{body_listings}
use Rattle.ev_symbolic.proofs.Values.{and_left, and_right}
use Rattle.ev_fetch.specs.Spelled.{has_spelling}
use Rattle.ev_fetch.proofs.Regions.{Each, each_append}
use Rattle.ev_fetch.proofs.Placed.{end_of}
use Rattle.ev_fetch.proofs.Sizes.{items_size, body_size, few_items, idt_code, are_between}
use Rattle.ev_fetch.proofs.Encodes.{and_parts, encodes, encodable}
use Rattle.ev_fetch.proofs.Labels.{InCode, has_place, has_first, has_rest, Gives, gives_first, gives_rest, gives_at, label_placed, LiesInCode, IsSpelledWith}
use Rattle.ev_fetch.proofs.Items.{item_spelled}

or_first : (x y : Bool) → x ≡ true → (x || y) ≡ true
or_first true y h = refl
or_first false y h = absurd (cc)

or_second : (x y : Bool) → y ≡ true → (x || y) ≡ true
or_second true y h = refl
or_second false y h = h

either : (x y : Bool) → (x || y) ≡ true → (x ≡ true) ⊎ (y ≡ true)
either true y h = inl refl
either false y h = inr h

all_at : {X : Type 0} (p : X → Bool) (xs : List X) (k : ℕ) (x : X) → list_all p xs ≡ true → slice_get xs k ≡ Some x → p x ≡ true
all_at p [] k x h q = absurd (cc)
all_at p (y ∷ ys) zero x h q = let e : y ≡ x = cc in subst (λ z. p z ≡ true) e (and_left _ _ h)
all_at p (y ∷ ys) (suc k) x h q = all_at p ys k x (and_right (p y) _ h) q

-- ---- labels of bodies

module _ (mode : Mode) (b : ℕ) (key : Key) (function : ℕ → ℕ) where
  label_there : (n : ℕ) (items : List Item) (i : ℕ) → i < length items → Gives (item_label b (n + i)) (expansions mode b key function n items)
  label_there n [] i h = absurd (omega arith)
  label_there n (item ∷ items) zero h = inl (ap (λ x. Label (item_label b x)) (let e : n ≡ n + 0 = omega arith in e))
  label_there n (item ∷ items) (suc i) h =
      inr (gives_rest (item_label b (n + suc i)) (expansion mode b key function n item) (expansions mode b key function (suc n) items)
      (subst (λ x. Gives (item_label b x) (expansions mode b key function (suc n) items)) (let e : suc n + i ≡ n + suc i = omega arith in e)
      (label_there (suc n) items i (omega arith))))

  take_here : (n : ℕ) (item : Item) → is_take item ≡ true → Gives (taken_label b) (expansion mode b key function n item)
  unfolding is_take expansion
  take_here n Take h = gives_at (taken_label b) (expansion mode b key function n Take) 12 _ refl refl
  take_here n item h = absurd (cc)

  take_there : (n : ℕ) (items : List Item) → list_any is_take items ≡ true → Gives (taken_label b) (expansions mode b key function n items)
  take_there n [] h = absurd (cc)
  take_there n (item ∷ items) h = ⊎_elim
      (λ l. inr (gives_first (taken_label b) (expansion mode b key function n item) (expansions mode b key function (suc n) items) (take_here n item l)))
      (λ r. inr (gives_rest (taken_label b) (expansion mode b key function n item) (expansions mode b key function (suc n) items) (take_there (suc n) items r)))
      (either (is_take item) (list_any is_take items) h)

-- ---- operands

-- an item's operands are in range, and its jumps lead to items of the body
record Bounded (bytes total : ℕ) (item : Item) : Type 0 where
  low : ℕ
  high : ℕ
  operands : has_operands bytes low high item ≡ true
  ends : high ≤ total

each_bounded : (bytes total low high : ℕ) (items : List Item) → list_all (has_operands bytes low high) items ≡ true → high ≤ total
    → Each (Bounded bytes total) items
each_bounded bytes total low high [] h l = tt
each_bounded bytes total low high (item ∷ items) h l = (
  record { low = low; high = high; operands = and_left _ _ h; ends = l },
  each_bounded bytes total low high items
      (and_right (has_operands bytes low high item) _ h) l,
)

parts_bounded : (bytes total n : ℕ) (parts : List Part) → are_parts bytes n parts ≡ true → n + length (flat_map (λ (part : Part). part.items) parts) ≤ total
    → Each (Bounded bytes total) (flat_map (λ (part : Part). part.items) parts)
parts_bounded bytes total n [] h l = tt
parts_bounded bytes total n (part ∷ parts) h l =
    let rest = flat_map (λ (part : Part). part.items) parts in
    let sum = length-append part.items rest in
    let front = and_left _ (are_parts bytes (n + length part.items) parts) h in
    each_append (Bounded bytes total) part.items rest
    (each_bounded bytes total n (n + length part.items) part.items (and_right _ (list_all (has_operands bytes n (n + length part.items)) part.items) front)
    (omega arith))
    (parts_bounded bytes total (n + length part.items) parts (and_right _ (are_parts bytes (n + length part.items) parts) h) (omega arith))

body_bounded : (bytes : ℕ) (b : Body) → is_body bytes b ≡ true → Each (Bounded bytes (length (body_items b))) (body_items b)
body_bounded bytes b h =
    let rest = flat_map (λ (part : Part). part.items) b.parts in
    let sum = length-append b.items rest in
    let total = length (body_items b) in
    let h6 = and_left _ (nat_le total 256) h in
    let h5 = and_left _ (are_parts bytes (length b.items) b.parts) h6 in
    let h4 = and_left _ _ h5 in
    each_append (Bounded bytes total) b.items rest
    (each_bounded bytes total 0 (length b.items) b.items (and_right _ (list_all (has_operands bytes 0 (length b.items)) b.items) h4) (omega arith))
    (parts_bounded bytes total (length b.items) b.parts (and_right _ (are_parts bytes (length b.items) b.parts) h6) (omega arith))

-- ---- functions

function_small : (mode : Mode) (image : Image) → IsImage image → (f : ℕ) → function_address mode image f < 2 ^ 64
function_small mode image is f = by (first_body 0 image.bodies 0xfb User)
  where
    at : (n : ℕ) (o : Option Body) → slice_get image.bodies n ≡ o → address_in mode image (Some n) f < 2 ^ 64
    at n None q = rw q (omega arith)
    at n (Some b) q = rw q
        (let k = slice_get_within image.bodies n b q in
        let most = is.bodies_given.0 in
        let items = take (function_start b f) (body_items b) in
        let few = few_items (length image.text) b (all_at (is_body (length image.text)) image.bodies n b is.bodies_given.1 q) in
        let long = length-take (function_start b f) (body_items b) in
        let bound = items_size mode n b.key (λ f. 0) 0 items in
        omega arith)

    by : (o : Option ℕ) → address_in mode image o f < 2 ^ 64
    by None = omega arith
    by (Some n) = at n (slice_get image.bodies n) refl

-- ---- bodies

module _ (mode : Mode) (image : Image) (is : IsImage image) (env : Places) where
  module _ (b : ℕ) (key : Key) (total : ℕ) (target : (i : ℕ) → i < total → InCode (place env (item_label b i)))
      (exit : InCode (place env (exit_of mode key))) where
    items_spelled : (n : ℕ) (items : List Item) → Each (Bounded (length image.text) total) items
        → list_all (λ item. not (breaks_slots image.processors item)) items ≡ true
        → (list_any is_finish items ≡ true → InCode (place env (taken_label b)))
        → ((name : Name) → Gives name (expansions mode b key (function_address mode image) n items) → InCode (place env name))
        → Each (λ l. IsSpelledWith env l.stmt) (expansions mode b key (function_address mode image) n items)
    items_spelled n [] h k t g = tt
    items_spelled n (item ∷ items) h k t g =
        let here = expansion mode b key (function_address mode image) n item in
        let rest = expansions mode b key (function_address mode image) (suc n) items in
        let few = is.count.1 in (
          tt,
          each_append (λ l. IsSpelledWith env l.stmt) here rest
              (item_spelled mode b key (function_address mode image) n env (length image.text) h.0.low h.0.high total image.processors is.text_fits few
              h.0.ends (function_small mode image is) target exit item h.0.operands
              (not_broken (breaks_slots image.processors item) (and_left _ _ k))
              (λ f. t (or_first (is_finish item) (list_any is_finish items) f)) (λ name own. g name (inr (gives_first name here rest own))))
              (items_spelled (suc n) items h.1 (and_right (not (breaks_slots image.processors item)) _ k)
              (λ f. t (or_second (is_finish item) (list_any is_finish items) f)) (λ name own. g name (inr (gives_rest name here rest own)))),
        )
      where
        not_broken : (t : Bool) → not t ≡ true → t ≡ false
        not_broken true h = absurd (cc)
        not_broken false h = refl

  body_spelled : (n : ℕ) (b : Body) → is_body (length image.text) b ≡ true → has_spelling image.processors b ≡ true → InCode (place env (exit_of mode b.key))
      → ((name : Name) → Gives name (body_stmts mode image n b) → InCode (place env name)) → Each (λ l. IsSpelledWith env l.stmt) (body_stmts mode image n b)
  unfolding body_stmts
  body_spelled n b h s exit g =
      let k = and_parts (list_all (λ item. not (breaks_slots image.processors item)) (body_items b))
      (list_any is_take (body_items b) || not (list_any is_finish (body_items b))) s in
      items_spelled n b.key (length (body_items b))
      (λ i l. g (item_label n i) (subst (λ x. Gives (item_label n x) (expansions mode n b.key (function_address mode image) 0 (body_items b)))
      (let e : 0 + i ≡ i = omega arith in e) (label_there mode n b.key (function_address mode image) 0 (body_items b) i l)))
      exit 0 (body_items b) (body_bounded (length image.text) b h) k.0
      (λ f. g (taken_label n) (take_there mode n b.key (function_address mode image) 0 (body_items b)
      (has_take (list_any is_take (body_items b)) (list_any is_finish (body_items b)) k.1 f))) g
    where
      has_take : (x y : Bool) → (x || not y) ≡ true → y ≡ true → x ≡ true
      has_take true y h q = refl
      has_take false true h q = absurd (cc)
      has_take false false h q = absurd (cc)

  pub bodies_spelled : (n : ℕ) (bs : List Body) → list_all (is_body (length image.text)) bs ≡ true → list_all (has_spelling image.processors) bs ≡ true
      → ((key : Key) → InCode (place env (exit_of mode key)))
      → ((name : Name) → has_place (all_places (body_listings mode image n bs)) name ≡ true → InCode (place env name))
      → Each (λ b. Each (λ l. IsSpelledWith env l.stmt) b.lines) (body_listings mode image n bs)
  bodies_spelled n [] h s exit g = tt
  bodies_spelled n (b ∷ bs) h s exit g =
      let own = places (body_code n) (stmts_of (body_stmts mode image n b)) in
      let rest = all_places (body_listings mode image (suc n) bs) in (
        body_spelled n b (and_left _ _ h) (and_left _ _ s) (exit b.key)
            (λ name l. g name (has_first own rest name (label_placed (body_code n) (body_stmts mode image n b) name l))),
        bodies_spelled (suc n) bs (and_right (is_body (length image.text) b) _ h) (and_right (has_spelling image.processors b) _ s) exit
            (λ name l. g name (has_rest own rest name l)),
      )

pub bodies_lie : (mode : Mode) (image : Image) (bytes n : ℕ) (bs : List Body) → list_all (is_body bytes) bs ≡ true → n + length bs ≤ 64
    → Each LiesInCode (body_listings mode image n bs)
bodies_lie mode image bytes n [] h l = tt
bodies_lie mode image bytes n (b ∷ bs) h l =
    let few = body_size mode image n b (few_items bytes b (and_left _ _ h)) in
    ((omega arith, omega arith), bodies_lie mode image bytes (suc n) bs (and_right (is_body bytes b) _ h) (omega arith))

-- ---- the kernel's own code

pub lie : (bs : List Listing) → are_between fred_page code_end bs ≡ true → Each LiesInCode bs
lie [] h = tt
lie (b ∷ bs) h =
    let p = and_left (nat_le fred_page b.address && nat_le (end_of b) code_end) _ h in
    let from = leb-true fred_page b.address (and_left _ _ p) in
    let to = leb-true (end_of b) code_end (and_right (nat_le fred_page b.address) _ p) in
    ((omega arith, omega arith), lie bs (and_right (nat_le fred_page b.address && nat_le (end_of b) code_end) _ h))

-- closed statements, with the places of closed code
abbrev is_spelled_with : Places → Stmt → Bool
is_spelled_with own (Label name) = true
is_spelled_with own (Plain i) = encodes i
is_spelled_with own (Jump c name) = has_place own name

abbrev lines_are_spelled : Places → List Marked → Bool
lines_are_spelled own ls = list_all (λ (l : Marked). is_spelled_with own l.stmt) ls

abbrev listings_are_spelled : Places → List Listing → Bool
listings_are_spelled own bs = list_all (λ (b : Listing). lines_are_spelled own b.lines) bs

module _ (env own : Places) (known : (name : Name) → has_place own name ≡ true → InCode (place env name)) where
  closed_statement : (s : Stmt) → is_spelled_with own s ≡ true → IsSpelledWith env s
  closed_statement (Label name) h = tt
  closed_statement (Plain i) h = encodable i h
  closed_statement (Jump c name) h = known name h

  closed_lines : (ls : List Marked) → lines_are_spelled own ls ≡ true → Each (λ l. IsSpelledWith env l.stmt) ls
  closed_lines [] h = tt
  closed_lines (l ∷ ls) h = (closed_statement l.stmt (and_left _ _ h), closed_lines ls (and_right (is_spelled_with own l.stmt) _ h))

  pub closed_listings : (bs : List Listing) → listings_are_spelled own bs ≡ true → Each (λ b. Each (λ l. IsSpelledWith env l.stmt) b.lines) bs
  closed_listings [] h = tt
  closed_listings (b ∷ bs) h = (closed_lines b.lines (and_left _ _ h), closed_listings bs (and_right (lines_are_spelled own b.lines) _ h))

pub fred_spelled : listings_are_spelled (all_places fred_listings) fred_listings ≡ true
unfolding fred_listings size spelling four_bytes places
fred_spelled = refl

pub idt_spelled : listings_are_spelled (all_places idt_code) idt_code ≡ true
unfolding size spelling four_bytes places
idt_spelled = refl
