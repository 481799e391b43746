-- Where the label behind the exchange of `take` is placed: it is the body's and no item's, and the body's first `take` gives it.
use Rattle.std.proofs.Common.{◌≡◌, ℕ, suc, ◌+◌, ◌<◌, Bool, true, false, ◌||◌, List, [], ◌∷◌, length, take, Some, refl, arith}
use Rattle.std.specs.Prelude.{codes, drop, slice_get}
use Rattle.std.specs.List.{list_any}
use Rattle.std.proofs.lemmas.Option.{slice_get_within}
use Rattle.ev_isa.specs.Spelling.{spelling, four_bytes}
use Rattle.ev_isa.specs.declared.mode.Mode.{Mode}
use Rattle.ev_body.specs.declared.key.Key.{Key}
use Rattle.ev_body.specs.declared.item.Item.{Item}
use Rattle.ev_body.specs.declared.item.Item.TheVariants.{Take}
use Rattle.ev_body.specs.declared.body.Body.{Body}
use Rattle.ev_body.specs.declared.image.Image.{Image}
use Rattle.ev_body.specs.Bodies.{body_items}
use Rattle.ev_body.specs.WellFormed.{IsImage}
use Rattle.ev_abstract.specs.Rules.{is_take}
use Rattle.ev_asm.specs.declared.statement.Stmt.{Stmt}
use Rattle.ev_asm.specs.declared.statement.Stmt.TheVariants.{Label, Plain, Jump}
use Rattle.ev_asm.specs.Assembly.{is_name, place, places, size}
use Rattle.ev_listing.specs.Expansion.{own_label, taken_label, expansion, expansions, item_address, function_address}
use Rattle.ev_listing.specs.Marks.{Marked}
use Rattle.ev_fetch.proofs.Regions.{Each, each_append}
use Rattle.ev_blocks.specs.Calls.{at_taken}
use Rattle.ev_table.specs.Table.{places_of}
use Rattle.ev_table.proofs.Names.{item_not_taken, own_not_taken}
use Rattle.ev_table.proofs.LabelPlaces.{Owns, Other, Lack, Small, own, past, past4, item_owns}
use Rattle.ev_table.proofs.FirstPlaces.{Gives, first_label, first_placed}

-- ---- items that don't give it

module _ (m n : ℕ) (hm : Small m) (hn : Small n) where
  item_lacks : (k : ℕ) (t : Bool) → ((m ≡ n) → t ≡ false) → (ls : List Marked) → Each (λ (l : Marked). Owns m k t l.stmt) ls → Lack (taken_label n) ls
  item_lacks k t d [] h = tt
  item_lacks k t d (l ∷ ls) h = (one l.stmt h.0, item_lacks k t d ls h.1)
    where
      one : (s : Stmt) → Owns m k t s → Other (taken_label n) s
      one (Label name) q = own_not_taken m k n t name hm hn d q
      one (Plain x) q = tt
      one (Jump c name) q = tt

  -- items of another body, or before the body's first `take`
  items_lack : (mode : Mode) (key : Key) (f : ℕ → ℕ) (k : ℕ) (items : List Item) → ((m ≡ n) → list_any is_take items ≡ false)
      → Lack (taken_label n) (expansions mode m key f k items)
  items_lack mode key f k [] d = tt
  items_lack mode key f k (item ∷ items) d = (
    item_not_taken m k n hm hn,
    each_append (λ (l : Marked). Other (taken_label n) l.stmt) (expansion mode m key f k item) (expansions mode m key f (suc k) items)
        (item_lacks k (is_take item) (λ e. first (is_take item) (d e)) (expansion mode m key f k item) (item_owns mode m key f k item))
        (items_lack mode key f (suc k) items (λ e. rest (is_take item) (d e))),
  )
    where
      first : (t : Bool) → (t || list_any is_take items) ≡ false → t ≡ false
      first true h = absurd (cc)
      first false h = refl

      rest : (t : Bool) → (t || list_any is_take items) ≡ false → list_any is_take items ≡ false
      rest true h = absurd (cc)
      rest false h = h

-- ---- the `take` that does

take_gives : (mode : Mode) (n : ℕ) (key : Key) (f : ℕ → ℕ) (i : ℕ) → Small n → Gives (expansion mode n key f i Take) (taken_label n) at_taken
unfolding expansion places size spelling four_bytes
take_gives mode n key f i hn =
    let lines : List Marked = expansion mode n key f i Take in
    let turn : is_name (own_label n i (codes "T1")) (taken_label n) ≡ false
    = own_not_taken n i n false (own_label n i (codes "T1")) hn hn (λ e. refl) (own n i false (codes "T1") 84 49 refl (omega arith)) in
    first_label (take 12 lines) (drop 13 lines) (taken_label n) (past4 (turn, past4 (past (past (past tt)))))

pub taken_placed : (mode : Mode) (image : Image) → IsImage image → (n i : ℕ) (b : Body) → slice_get image.bodies n ≡ Some b
    → slice_get (body_items b) i ≡ Some Take → list_any is_take (take i (body_items b)) ≡ false
    → place (places_of mode image) (taken_label n) ≡ item_address mode n b i + at_taken
taken_placed mode image is n i b h k first =
    first_placed mode (taken_label n) at_taken image n i b Take k h
    (λ m y q l. items_lack m n (omega (arith, small)) small mode y.key (function_address mode image) 0 (body_items y) (λ e. absurd (omega (arith, e))))
    (items_lack n n small small mode b.key (function_address mode image) 0 (take i (body_items b)) (λ e. first))
    (item_not_taken n i n small small)
    (take_gives mode n b.key (function_address mode image) i small)
  where
    few : n < length image.bodies
    few = slice_get_within image.bodies n b h

    small : Small n
    small = let most = is.bodies_given.0 in omega (arith, few)
