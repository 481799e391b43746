-- Where the labels are placed that items have of their own: each as far behind its item's beginning as in that item's lines.
use Rattle.std.proofs.Common.{◌≡◌, ℕ, suc, ◌+◌, ◌<◌, ◌≤◌, Bool, List, [], ◌∷◌, length, take, Some, arith}
use Rattle.std.specs.Prelude.{slice_get}
use Rattle.std.proofs.lemmas.List.{length-take}
use Rattle.std.proofs.lemmas.Option.{slice_get_within}
use Rattle.ev_isa.specs.declared.mode.Mode.{Mode}
use Rattle.ev_body.specs.declared.key.Key.{Key}
use Rattle.ev_body.specs.declared.item.Item.{Item}
use Rattle.ev_body.specs.declared.body.Body.{Body}
use Rattle.ev_body.specs.declared.image.Image.{Image}
use Rattle.ev_body.specs.Bodies.{body_items}
use Rattle.ev_body.specs.WellFormed.{IsImage, is_body}
use Rattle.ev_abstract.specs.Rules.{is_take}
use Rattle.ev_asm.specs.declared.statement.Stmt.{Stmt}
use Rattle.ev_asm.specs.declared.statement.Stmt.TheVariants.{Label, Plain, Jump}
use Rattle.ev_asm.specs.Assembly.{Name, place}
use Rattle.ev_listing.specs.Expansion.{own_label, expansion, expansions, item_address, function_address}
use Rattle.ev_listing.specs.Marks.{Marked}
use Rattle.ev_fetch.proofs.Regions.{Each, each_append}
use Rattle.ev_fetch.proofs.Sizes.{few_items}
use Rattle.ev_table.specs.Table.{places_of, IsPlacedIn}
use Rattle.ev_table.proofs.Names.{NoDigit, own_apart, item_apart}
use Rattle.ev_table.proofs.Whole.{all_at}
use Rattle.ev_table.proofs.LabelPlaces.{Owns, Other, Lack, Small, item_owns}
use Rattle.ev_table.proofs.FirstPlaces.{first_placed}

-- ---- a label of an item's own, and the labels of others

module _ (n i : ℕ) (x : Name) (hn : Small n) (hi : Small i) (nd : NoDigit x) (some : 0 < length x) where
  abbrev name : Name
  name = own_label n i x

  item_lacks : (m k : ℕ) (t : Bool) → Small m → Small k → ((m ≡ n) → (k ≡ i) → ⊥) → (ls : List Marked) → Each (λ (l : Marked). Owns m k t l.stmt) ls
      → Lack name ls
  item_lacks m k t hm hk d [] h = tt
  item_lacks m k t hm hk d (l ∷ ls) h = (one l.stmt h.0, item_lacks m k t hm hk d ls h.1)
    where
      one : (s : Stmt) → Owns m k t s → Other name s
      one (Label other) q = own_apart m k n i t other x hm hk hn hi nd some d q
      one (Plain y) q = tt
      one (Jump c other) q = tt

  -- items of another body, or before item i
  items_lack : (mode : Mode) (m : ℕ) (key : Key) (f : ℕ → ℕ) → Small m → (k : ℕ) (items : List Item) → Small (k + length items)
      → ((m ≡ n) → k + length items ≤ i) → Lack name (expansions mode m key f k items)
  items_lack mode m key f hm k [] small before = tt
  items_lack mode m key f hm k (item ∷ items) small before = (
    item_apart m k n i x hm (omega arith) hn hi nd some,
    each_append (λ (l : Marked). Other name l.stmt) (expansion mode m key f k item) (expansions mode m key f (suc k) items)
        (item_lacks m k (is_take item) hm (omega arith) (λ e q. let l = before e in omega (arith, q)) (expansion mode m key f k item)
        (item_owns mode m key f k item))
        (items_lack mode m key f hm (suc k) items (omega arith) (λ e. let l = before e in omega arith)),
  )

-- ---- where they stand

module _ (mode : Mode) (image : Image) (i c : ℕ) (cs : Name) (high : 58 ≤ c) (item : Item) (off : ℕ) where
  abbrev x : Name
  x = c ∷ cs

  nd : NoDigit x
  nd d = let u = d.1 in omega arith

  pub own_labels_placed : IsImage image → (n : ℕ) (b : Body) → slice_get image.bodies n ≡ Some b → slice_get (body_items b) i ≡ Some item
      → IsPlacedIn mode n b.key (function_address mode image) i item x off → place (places_of mode image) (own_label n i x) ≡ item_address mode n b i + off
  own_labels_placed is n b h k found =
      first_placed mode (own_label n i x) off image n i b item k h
      (λ m y q l. let s = short m y q in
      items_lack n i x small near nd (omega arith) mode m y.key (function_address mode image) (omega (arith, small)) 0 (body_items y) (omega (arith, s))
      (λ e. absurd (omega (arith, e))))
      (items_lack n i x small near nd (omega arith) mode n b.key (function_address mode image) small 0 (take i (body_items b))
      (omega (arith, before, within, short n b h)) (λ e. omega (arith, before, within)))
      (item_apart n i n i x small near small near nd (omega arith))
      found
    where
      few : n < length image.bodies
      few = slice_get_within image.bodies n b h

      within : i < length (body_items b)
      within = slice_get_within (body_items b) i item k

      short : (m : ℕ) (y : Body) → slice_get image.bodies m ≡ Some y → length (body_items y) ≤ 256
      short m y q = few_items (length image.text) y (all_at (is_body (length image.text)) image.bodies m y is.bodies_given.1 q)

      small : Small n
      small = let most = is.bodies_given.0 in omega (arith, few)

      near : Small i
      near = omega (arith, within, short n b h)

      before : length (take i (body_items b)) ≤ i
      before = let e = length-take i (body_items b) in omega (arith, e)
