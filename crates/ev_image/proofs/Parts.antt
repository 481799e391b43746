-- The items of a part that is ended and whose jumps lead to its labels.
use Rattle.std.proofs.Common.{◌≡◌, ℕ, suc, ◌+◌, ◌≤◌, ◌<◌, Bool, true, false, not, ◌&&◌, List, [], ◌∷◌, ◌++◌, length, filter_map, Option, Some, None, refl, ap, ◌∙◌, arith}
use Rattle.std.specs.Prelude.{◌||◌, if◌then◌else◌}
use Rattle.std.specs.List.{list_all}
use Rattle.std.proofs.lemmas.Bool.{and_parts, and_from}
use Rattle.ev_isa.specs.declared.instruction.Cond.{Cond}
use Rattle.ev_body.specs.WellFormed.{has_operands, is_ret, is_finish, ends_with}
use Rattle.ev_body.specs.declared.item.Item.{Item}
use Rattle.ev_io.specs.Tokens.{Token}
use Rattle.ev_asm.specs.Assembly.{Places, is_name, place}
use Rattle.ev_line.specs.Operands.{has_label}
use Rattle.ev_part.specs.declared.line.BodyLine.{BodyLine}
use Rattle.ev_part.specs.declared.line.BodyLine.TheVariants.{Here, Does, Jumps}
use Rattle.ev_part.specs.PartItems.{PartView, is_end, ends_part, is_ended, count_items, labels_from, labels_of, leads, jump_to, item_at, part_leads, items_of}
use Rattle.ev_image.specs.Head.{is_main}
use Rattle.ev_image.proofs.Kept.{ends_as, may_jump, IsLine, AllLines, ends_last, IsPartOf}
use Rattle.ev_image.proofs.Lists.{less, at_most, not_true}

-- ---- how many items

counted : (labels : Places) (ls : List BodyLine) → length (filter_map (item_at labels) ls) ≡ count_items ls
unfolding item_at
counted labels [] = refl
counted labels (Here name ∷ ls) = counted labels ls
counted labels (Does i ∷ ls) = ap suc (counted labels ls)
counted labels (Jumps cond name ∷ ls) = ap suc (counted labels ls)

-- ---- labels lie before the item that ends the part

ends_some : (ls : List BodyLine) → is_ended ls ≡ true → 0 < count_items ls
unfolding ends_part
ends_some [] h = absurd cc
ends_some (Here name ∷ []) h = absurd cc
ends_some (Does i ∷ []) h = omega arith
ends_some (Jumps cond name ∷ []) h = absurd cc
ends_some (Here name ∷ k ∷ ls) h = ends_some (k ∷ ls) h
ends_some (Does i ∷ k ∷ ls) h = omega arith
ends_some (Jumps cond name ∷ k ∷ ls) h = omega arith

-- an item of the part from n on
abbrev Within : ℕ → ℕ → ℕ → Type 0
Within n count a = (n ≤ a) × (a < n + count)

label_by : (b : Bool) (n a count : ℕ) (has : Bool) → 0 < count → (b || has) ≡ true → (has ≡ true → Within n count a) → Within n count (if b then n else a)
label_by true n a count has c h go = (omega arith, omega arith)
label_by false n a count has c h go = go h

label_within : (n : ℕ) (ls : List BodyLine) (name : Token) → is_ended ls ≡ true → has_label (labels_from n ls) name ≡ true
    → Within n (count_items ls) (place (labels_from n ls) name)
unfolding ends_part
label_within n [] name h g = absurd cc
label_within n (Here l ∷ []) name h g = absurd cc
label_within n (Does i ∷ []) name h g = absurd cc
label_within n (Jumps cond l ∷ []) name h g = absurd cc
label_within n (Here l ∷ k ∷ ls) name h g =
    label_by (is_name l name) n (place (labels_from n (k ∷ ls)) name) (count_items (k ∷ ls)) (has_label (labels_from n (k ∷ ls)) name)
    (ends_some (k ∷ ls) h) g (label_within n (k ∷ ls) name h)
label_within n (Does i ∷ k ∷ ls) name h g = let r = label_within (suc n) (k ∷ ls) name h g in (omega (arith, r.0), omega (arith, r.1))
label_within n (Jumps cond l ∷ k ∷ ls) name h g = let r = label_within (suc n) (k ∷ ls) name h g in (omega (arith, r.0), omega (arith, r.1))

-- ---- operands

jump_fits : (bytes low count : ℕ) (cond : Option Cond) (a : ℕ) → may_jump cond ≡ true → Within low count a
    → has_operands bytes low (low + count) (jump_to cond a) ≡ true
unfolding has_operands
jump_fits bytes low count None a h g = and_from _ _ (at_most low a g.0) (less a (low + count) g.1)
jump_fits bytes low count (Some c) a h g = and_from _ _ (and_from _ _ h (at_most low a g.0)) (less a (low + count) g.1)

items_fit : (bytes low count : ℕ) (main : Bool) (labels : Places) (ls : List BodyLine)
    → ((name : Token) → has_label labels name ≡ true → Within low count (place labels name)) → AllLines bytes main ls → list_all (leads labels) ls ≡ true
    → list_all (has_operands bytes low (low + count)) (filter_map (item_at labels) ls) ≡ true
unfolding item_at leads
items_fit bytes low count main labels [] w g h = refl
items_fit bytes low count main labels (Here name ∷ ls) w g h = items_fit bytes low count main labels ls w g.1 h
items_fit bytes low count main labels (Does i ∷ ls) w g h =
    and_from (has_operands bytes low (low + count) i) (list_all (has_operands bytes low (low + count)) (filter_map (item_at labels) ls))
    (g.0.operands low (low + count)) (items_fit bytes low count main labels ls w g.1 h)
items_fit bytes low count main labels (Jumps cond name ∷ ls) w g h =
    let k = and_parts (has_label labels name) (list_all (leads labels) ls) h in
    and_from (has_operands bytes low (low + count) (jump_to cond (place labels name)))
    (list_all (has_operands bytes low (low + count)) (filter_map (item_at labels) ls))
    (jump_fits bytes low count cond (place labels name) g.0 (w name k.0)) (items_fit bytes low count main labels ls w g.1 k.1)

-- ---- the end

-- an item that ends no part is neither of the two that do
neither_end : (i : Item) → is_end i ≡ false → (not (is_ret i) && not (is_finish i)) ≡ true
unfolding is_end is_ret is_finish
neither_end Item.Ret h = absurd cc
neither_end Item.Finish h = absurd cc
neither_end _ h = refl

before_more : (test : Item → Bool) (i : Item) (items : List Item) → is_end i ≡ false → ends_with test items ≡ true → ends_with test (i ∷ items) ≡ true
unfolding ends_with
before_more test i [] h g = absurd cc
before_more test i (x ∷ xs) h g = and_from _ _ (neither_end i h) g

jump_open : (cond : Option Cond) (a : ℕ) → is_end (jump_to cond a) ≡ false
unfolding is_end
jump_open None a = refl
jump_open (Some c) a = refl

items_end : (bytes : ℕ) (main : Bool) (labels : Places) (ls : List BodyLine) → AllLines bytes main ls → ends_last ls ≡ true → is_ended ls ≡ true
    → ends_with (ends_as main) (filter_map (item_at labels) ls) ≡ true
unfolding item_at ends_part ends_with
items_end bytes main labels [] g h e = absurd cc
items_end bytes main labels (Here name ∷ []) g h e = absurd cc
items_end bytes main labels (Does i ∷ []) g h e = g.0.ends e
items_end bytes main labels (Jumps cond name ∷ []) g h e = absurd cc
items_end bytes main labels (Here name ∷ k ∷ ls) g h e = items_end bytes main labels (k ∷ ls) g.1 h e
items_end bytes main labels (Does i ∷ k ∷ ls) g h e =
    let p = and_parts (not (is_end i)) (ends_last (k ∷ ls)) h in
    before_more (ends_as main) i (filter_map (item_at labels) (k ∷ ls)) (not_true (is_end i) p.0) (items_end bytes main labels (k ∷ ls) g.1 p.1 e)
items_end bytes main labels (Jumps cond name ∷ k ∷ ls) g h e =
    before_more (ends_as main) (jump_to cond (place labels name)) (filter_map (item_at labels) (k ∷ ls)) (jump_open cond (place labels name))
    (items_end bytes main labels (k ∷ ls) g.1 h e)

-- ---- a part

-- What the items of a part are: as many as are counted, each with its operands, and the last ends the part.
pub record HasItems (bytes : ℕ) (p : PartView) : Type 0 where
  pub count : length (items_of p) ≡ count_items p.lines
  pub ends : ends_with (ends_as (is_main p)) (items_of p) ≡ true
  pub operands : list_all (has_operands bytes p.first (p.first + length (items_of p))) (items_of p) ≡ true

pub part_items : (bytes : ℕ) (p : PartView) → IsPartOf bytes p → is_ended p.lines ≡ true → part_leads p ≡ true → HasItems bytes p
part_items bytes p g e h =
    let many = counted (labels_of p) p.lines in
    record {
      count = many;
      ends = items_end bytes (is_main p) (labels_of p) p.lines g.lines g.last e;
      operands = ap (λ (n : ℕ). list_all (has_operands bytes p.first (p.first + n)) (items_of p)) many
          ∙ items_fit bytes p.first (count_items p.lines) (is_main p) (labels_of p) p.lines (λ name k. label_within p.first p.lines name e k) g.lines h;
    }

-- ---- a line more

no_end : (ls : List BodyLine) → ends_last ls ≡ true → is_ended ls ≡ false → list_all (λ l. not (ends_part l)) ls ≡ true
no_end [] h e = refl
no_end (l ∷ []) h e = and_from (not (ends_part l)) true (ap not e) refl
no_end (l ∷ k ∷ ls) h e =
    let p = and_parts (not (ends_part l)) (ends_last (k ∷ ls)) h in
    and_from (not (ends_part l)) (list_all (λ m. not (ends_part m)) (k ∷ ls)) p.0 (no_end (k ∷ ls) p.1 e)

last_more : (ls : List BodyLine) (l : BodyLine) → list_all (λ m. not (ends_part m)) ls ≡ true → ends_last (ls ++ l ∷ []) ≡ true
last_more [] l h = refl
last_more (x ∷ []) l h = and_from (not (ends_part x)) true (and_parts (not (ends_part x)) true h).0 refl
last_more (x ∷ k ∷ ls) l h =
    let p = and_parts (not (ends_part x)) (list_all (λ m. not (ends_part m)) (k ∷ ls)) h in
    and_from (not (ends_part x)) (ends_last (k ∷ (ls ++ l ∷ []))) p.0 (last_more (k ∷ ls) l p.1)

lines_more : (bytes : ℕ) (main : Bool) (ls : List BodyLine) (l : BodyLine) → AllLines bytes main ls → IsLine bytes main l
    → AllLines bytes main (ls ++ l ∷ [])
lines_more bytes main [] l g h = (h, tt)
lines_more bytes main (x ∷ xs) l g h = (g.0, lines_more bytes main xs l g.1 h)

pub part_more : (bytes : ℕ) (p : PartView) (l : BodyLine) → IsPartOf bytes p → is_ended p.lines ≡ false → IsLine bytes (is_main p) l
    → IsPartOf bytes (record p { lines = p.lines ++ l ∷ [] })
part_more bytes p l g e h = record {
  lines = lines_more bytes (is_main p) p.lines l g.lines h;
  last = last_more p.lines l (no_end p.lines g.last e);
}
