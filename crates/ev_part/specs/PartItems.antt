-- The items of a part, as its lines give them. Own.
use Rattle.std.specs.Prelude.{ℕ, suc, ◌+◌, Bool, true, false, not, nat_lt, List, [], ◌∷◌, ◌++◌, filter_map, Option, Some, None, Result, Ok, Err}
use Rattle.std.specs.List.{list_all}
use Rattle.ev_isa.specs.declared.instruction.Cond.{Cond}
use Rattle.ev_body.specs.declared.item.Item.{Item}
use Rattle.ev_body.specs.declared.item.Item.TheVariants as Item
use Rattle.ev_asm.specs.Assembly.{Places, place}
use Rattle.ev_io.specs.declared.cause.Cause.{Cause}
use Rattle.ev_io.specs.declared.cause.Cause.TheVariants as Cause
use Rattle.ev_text.specs.UserText.{unless}
use Rattle.ev_line.specs.Operands.{has_label}
use Rattle.ev_part.specs.declared.line.BodyLine.{BodyLine}
use Rattle.ev_part.specs.declared.line.BodyLine.TheVariants.{Here, Does, Jumps}

-- whether an item ends a part
unfoldable pub is_end : Item → Bool
is_end Item.Ret = true
is_end Item.Finish = true
is_end _ = false

-- whether a line is the item that ends a part
unfoldable pub ends_part : BodyLine → Bool
ends_part (Does i) = is_end i
ends_part _ = false

-- whether the last line is the end of the part
abbrev pub is_ended : List BodyLine → Bool
is_ended [] = false
is_ended (l ∷ []) = ends_part l
is_ended (l ∷ k ∷ ls) = is_ended (k ∷ ls)

-- how many items the lines have: labels are none
abbrev pub count_items : List BodyLine → ℕ
count_items [] = 0
count_items (Here name ∷ ls) = count_items ls
count_items (Does i ∷ ls) = suc (count_items ls)
count_items (Jumps cond name ∷ ls) = suc (count_items ls)

-- each label with the number of the item that follows it, where the first item has number n
abbrev pub labels_from : ℕ → List BodyLine → Places
labels_from n [] = []
labels_from n (Here name ∷ ls) = (name, n) ∷ labels_from n ls
labels_from n (Does i ∷ ls) = labels_from (suc n) ls
labels_from n (Jumps cond name ∷ ls) = labels_from (suc n) ls

-- whether a line's jump, if it has one, names one of the labels
unfoldable pub leads : Places → BodyLine → Bool
leads labels (Jumps cond name) = has_label labels name
leads labels (Here name) = true
leads labels (Does i) = true

-- the jump to an item, on a condition or always
abbrev pub jump_to : Option Cond → ℕ → Item
jump_to None n = Item.Goto n
jump_to (Some cond) n = Item.Jcc cond n

-- the item of a line, if it has one, where the part has these labels
unfoldable pub item_at : Places → BodyLine → Option Item
item_at labels (Here name) = None
item_at labels (Does i) = Some i
item_at labels (Jumps cond name) = Some (jump_to cond (place labels name))

-- ---- a part

-- The lines of a part that stand so far: the number of its function (none for the main part), the number of its first item, and its lines.
pub record PartView : Type 0 where
  pub func : Option ℕ
  pub first : ℕ
  pub lines : List BodyLine

abbrev pub labels_of : PartView → Places
labels_of p = labels_from p.first p.lines

-- the number of the item that comes next
abbrev pub next_item : PartView → ℕ
next_item p = p.first + count_items p.lines

-- whether each jump of a part names a label of that part
abbrev pub part_leads : PartView → Bool
part_leads p = list_all (leads (labels_of p)) p.lines

-- the items of a part
abbrev pub items_of : PartView → List Item
items_of p = filter_map (item_at (labels_of p)) p.lines

-- whether a line gives a label of the part for the second time
unfoldable pub is_second_here : PartView → BodyLine → Bool
is_second_here p (Here name) = has_label (labels_of p) name
is_second_here p (Does i) = false
is_second_here p (Jumps cond name) = false

-- how many items a line has
abbrev pub item_count : BodyLine → ℕ
item_count (Here name) = 0
item_count (Does i) = 1
item_count (Jumps cond name) = 1

-- the items of a body are at most so many, those of its function parts among them
abbrev pub most_items : ℕ
most_items = 256

-- a part with a line more: a label is given once, and the items of the body are not too many
unfoldable pub part_grown : PartView → BodyLine → Result PartView Cause
part_grown p l =
    unless (is_second_here p l) Cause.Double
    (unless (nat_lt most_items (next_item p + item_count l)) Cause.Limit
    (Ok (record p { lines = p.lines ++ l ∷ [] })))
