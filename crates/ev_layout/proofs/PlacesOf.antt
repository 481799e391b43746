-- Positions in the code of bodies: one item and one body further, and at addresses outside.
use Rattle.std.proofs.Common.{◌≡◌, ℕ, zero, suc, ◌+◌, ◌*◌, ◌<◌, ◌≤◌, true, List, [], ◌∷◌, length, get_or, drop, map, Option, Some, None, refl, sym, ap, ◌∙◌, arith}
use Rattle.std.specs.Prelude.{nat_le}
use Rattle.std.specs.Option.{option_or}
use Rattle.std.specs.List.{list_all}
use Rattle.std.proofs.lemmas.Bool.{leb-true}
use Rattle.std.proofs.lemmas.List.{drop_all}
use Rattle.ev_isa.specs.declared.mode.Mode.{Mode}
use Rattle.ev_body.specs.declared.key.Key.{Key}
use Rattle.ev_body.specs.declared.item.Item.{Item}
use Rattle.ev_body.specs.declared.body.Body.{Body}
use Rattle.ev_body.specs.declared.image.Image.{Image}
use Rattle.ev_body.specs.Bodies.{body_items}
use Rattle.ev_asm.specs.Assembly.{total_size}
use Rattle.ev_listing.specs.AddressMap.{body_code}
use Rattle.ev_listing.specs.Expansion.{expansion, function_address}
use Rattle.ev_listing.specs.Marks.{stmts_of}
use Rattle.ev_stub.specs.Position.{in_block, index_from, position_in}
use Rattle.ev_stub.proofs.Listed.{item_at}
use Rattle.ev_stub.proofs.Positions.{none_before, none_behind}
use Rattle.ev_stub_idt.proofs.Positions.{position_append}
use Rattle.ev_fetch.proofs.Sizes.{item_size}
use Rattle.ev_layout.specs.KeptCode.{is_code}
use Rattle.ev_layout.specs.CodePlaces.{item_blocks, body_blocks}
use Rattle.ev_layout.proofs.Among.{split}

-- ---- the items of a body

module _ (mode : Mode) (f : ℕ → ℕ) (b : ℕ) (key : Key) where
  -- the position in the items from number i on, which begin at address a
  abbrev pub in_items : (i a rip : ℕ) → List Item → Option ((ℕ × ℕ) × ℕ)
  in_items i a rip items = position_in rip (item_blocks mode f b key i a items)

  -- in that of the first and in those behind it
  first_item : (i a rip : ℕ) (item : Item) (items : List Item) (o : Option ℕ) → o ≡ index_from 0 a rip (expansion mode b key f i item)
      → in_items i a rip (item ∷ items)
      ≡ option_or (in_block (b, i) o) (in_items (suc i) (a + total_size (stmts_of (expansion mode b key f i item))) rip items)
  first_item i a rip item items o e =
      ap (λ (x : Option ℕ). option_or (in_block (b, i) x) (in_items (suc i) (a + total_size (stmts_of (expansion mode b key f i item))) rip items)) (sym e)

  pub item_step : (items : List Item) (i j a c rip : ℕ) (item : Item) (W : Option ((ℕ × ℕ) × ℕ)) → i < length items → j ≡ suc i → item ≡ get_or items i item
      → c ≡ a + total_size (stmts_of (expansion mode b key f i item)) → None ≡ index_from 0 a rip (expansion mode b key f i item)
      → in_items i a rip (drop i items) ≡ W → in_items j c rip (drop j items) ≡ W
  item_step items i j a c rip item W lt k e l none w =
      rw (k, l) (sym (first_item i a rip item (drop (suc i) items) None none) ∙ ap (in_items i a rip) (sym (item_at items i item lt e)) ∙ w)

  pub item_stop : (items : List Item) (i a rip n : ℕ) (item : Item) (W : Option ((ℕ × ℕ) × ℕ)) → i < length items → item ≡ get_or items i item
      → Some n ≡ index_from 0 a rip (expansion mode b key f i item)
      → in_items i a rip (drop i items) ≡ W → Some ((b, i), n) ≡ W
  item_stop items i a rip n item W lt e found w =
      sym (first_item i a rip item (drop (suc i) items) (Some n) found) ∙ ap (in_items i a rip) (sym (item_at items i item lt e)) ∙ w

  pub items_end : (items : List Item) (i a rip : ℕ) (W : Option ((ℕ × ℕ) × ℕ)) → length items ≤ i → in_items i a rip (drop i items) ≡ W → None ≡ W
  items_end items i a rip W le w = ap (in_items i a rip) (sym (drop_all i items le)) ∙ w

  pub items_before : (i a rip : ℕ) (items : List Item) → rip < a → in_items i a rip items ≡ None
  items_before i a rip [] lt = refl
  items_before i a rip (item ∷ items) lt =
      first_item i a rip item items None (sym (none_before 0 a rip (expansion mode b key f i item) lt))
      ∙ items_before (suc i) (a + total_size (stmts_of (expansion mode b key f i item))) rip items (omega arith)

  pub items_behind : (i a rip : ℕ) (items : List Item) → a + 510 * length items < rip → in_items i a rip items ≡ None
  items_behind i a rip [] lt = refl
  items_behind i a rip (item ∷ items) lt =
      let small = item_size mode b key f i item in
      first_item i a rip item items None (sym (none_behind 0 a rip (expansion mode b key f i item) (omega arith)))
      ∙ items_behind (suc i) (a + total_size (stmts_of (expansion mode b key f i item))) rip items (omega arith)

-- ---- bodies

-- how many items a body has whose code the program keeps
pub few_items : (items : List Item) → is_code items ≡ true → length items ≤ 256
few_items items h = leb-true (length items) 256 (split (nat_le (length items) 256) _ h).0

or_none : {A : Type 0} (x : Option A) → option_or x None ≡ x
or_none None = refl
or_none (Some x) = refl

module _ (mode : Mode) (image : Image) where
  -- the position in the bodies from number b on
  abbrev pub in_bodies : (b rip : ℕ) → List Body → Option ((ℕ × ℕ) × ℕ)
  in_bodies b rip bodies = position_in rip (body_blocks mode image b bodies)

  -- the position in one body
  abbrev pub in_body : (b rip : ℕ) → Body → Option ((ℕ × ℕ) × ℕ)
  in_body b rip body = in_items mode (function_address mode image) b body.key 0 (body_code b) rip (body_items body)

  first_body : (b rip : ℕ) (body : Body) (bodies : List Body)
      → in_bodies b rip (body ∷ bodies) ≡ option_or (in_body b rip body) (in_bodies (suc b) rip bodies)
  first_body b rip body bodies =
      sym (position_append rip (item_blocks mode (function_address mode image) b body.key 0 (body_code b) (body_items body))
      (body_blocks mode image (suc b) bodies))

  pub bodies_before : (b rip : ℕ) (bodies : List Body) → rip < body_code b → in_bodies b rip bodies ≡ None
  bodies_before b rip [] lt = refl
  bodies_before b rip (body ∷ bodies) lt =
      first_body b rip body bodies
      ∙ ap (λ x. option_or x (in_bodies (suc b) rip bodies))
      (items_before mode (function_address mode image) b body.key 0 (body_code b) rip (body_items body) lt)
      ∙ bodies_before (suc b) rip bodies (omega arith)

  body_behind : (b rip : ℕ) (body : Body) → is_code (body_items body) ≡ true → body_code (suc b) ≤ rip → in_body b rip body ≡ None
  body_behind b rip body h le =
      let few = few_items (body_items body) h in
      items_behind mode (function_address mode image) b body.key 0 (body_code b) rip (body_items body) (omega arith)

  pub bodies_behind : (b rip : ℕ) (bodies : List Body) → list_all is_code (map body_items bodies) ≡ true → body_code (b + length bodies) ≤ rip
      → in_bodies b rip bodies ≡ None
  bodies_behind b rip [] h le = refl
  bodies_behind b rip (body ∷ bodies) h le =
      let s = split (is_code (body_items body)) _ h in
      first_body b rip body bodies
      ∙ ap (λ x. option_or x (in_bodies (suc b) rip bodies)) (body_behind b rip body s.0 (omega arith))
      ∙ bodies_behind (suc b) rip bodies s.1 (omega arith)

  -- an address in the part of a body has its position there
  pub only_body : (bodies : List Body) (b k w rip : ℕ) (body : Body) → list_all is_code (map body_items bodies) ≡ true → w ≡ b + k → k < length bodies
      → body ≡ get_or bodies k body → body_code w ≤ rip → rip < body_code (suc w) → in_bodies b rip bodies ≡ in_body w rip body
  only_body [] b k w rip body h q lt e from to = absurd (omega arith)
  only_body (x ∷ xs) b zero w rip body h q lt e from to =
      let same : b ≡ w = omega arith in
      first_body b rip x xs
      ∙ ap (option_or (in_body b rip x)) (bodies_before (suc b) rip xs (omega arith)) ∙ or_none (in_body b rip x)
      ∙ ap (in_body b rip) (sym e) ∙ ap (λ n. in_body n rip body) same
  only_body (x ∷ xs) b (suc k) w rip body h q lt e from to =
      let s = split (is_code (body_items x)) _ h in
      first_body b rip x xs
      ∙ ap (λ y. option_or y (in_bodies (suc b) rip xs)) (body_behind b rip x s.0 (omega arith))
      ∙ only_body xs (suc b) k w rip body s.1 (omega arith) (omega arith) e from to

-- the body whose items these are
pub nth_body : (bs : List Body) (n : ℕ) (items : List Item) → n < length (map body_items bs) → items ≡ get_or (map body_items bs) n items
    → (body : Body) × (n < length bs) × (body ≡ get_or bs n body) × (items ≡ body_items body)
nth_body [] n items lt e = absurd (omega arith)
nth_body (b ∷ bs) zero items lt e = (b, omega arith, refl, e)
nth_body (b ∷ bs) (suc n) items lt e = let r = nth_body bs n items (omega arith) e in (r.0, omega (arith, r.1), r.2, r.3)

pub code_at : (bodies : List (List Item)) (n : ℕ) (items : List Item) → list_all is_code bodies ≡ true → n < length bodies → items ≡ get_or bodies n items
    → is_code items ≡ true
code_at [] n items h lt e = absurd (omega arith)
code_at (x ∷ xs) zero items h lt e = ap is_code e ∙ (split (is_code x) _ h).0
code_at (x ∷ xs) (suc n) items h lt e = code_at xs n items ((split (is_code x) _ h).1) (omega arith) e
