-- A body, as its lines give it. Own.
use Rattle.std.specs.Prelude.{ℕ, true, false, not, List, [], ◌∷◌, ◌++◌, filter_map, Option, Some, None, Result, Ok, Err}
use Rattle.std.specs.List.{list_all}
use Rattle.ev_body.specs.declared.key.Key.{Key}
use Rattle.ev_body.specs.declared.key.Side.{Side}
use Rattle.ev_body.specs.declared.item.Item.{Item}
use Rattle.ev_body.specs.declared.body.Part.{Part}
use Rattle.ev_body.specs.declared.body.Body.{Body}
use Rattle.ev_io.specs.declared.cause.Cause.{Cause}
use Rattle.ev_io.specs.declared.cause.Cause.TheVariants as Cause
use Rattle.ev_line.specs.Operands.{then_make}
use Rattle.ev_text.specs.UserText.{unless}
use Rattle.ev_part.specs.declared.body.BodyLines.{BodyLines}
use Rattle.ev_part.specs.declared.line.BodyLine.{BodyLine}
use Rattle.ev_part.specs.PartItems.{PartView, items_of, next_item, part_leads, part_grown}

-- a part without lines: its function, and the number of its first item
abbrev pub new_part : Option ℕ → ℕ → PartView
new_part func first = record { func = func; first = first; lines = [] }

-- a body that begins, with its main part
abbrev pub body_begun : Key → Side → BodyLines
body_begun key side = record { key = key; side = side; finished = []; part = new_part None 0 }

-- the finished parts and the one that is being read
abbrev pub all_parts : BodyLines → List PartView
all_parts b = b.finished ++ b.part ∷ []

-- a line of the part that is being read
abbrev pub body_grown : BodyLines → BodyLine → Result BodyLines Cause
body_grown b l = then_make (λ p. record b { part = p }) (part_grown b.part l)

-- a function part behind the part that was being read
abbrev pub function_begun : BodyLines → ℕ → BodyLines
function_begun b func = record b { finished = all_parts b; part = new_part (Some func) (next_item b.part) }

-- a function part with its items, if it is one
unfoldable pub function_part : PartView → Option Part
function_part p = elim p.func [ None ↦ None | Some func ↦ Some (record { func = func; items = items_of p }) ]

-- the items of the first part
abbrev pub main_items : List PartView → List Item
main_items [] = []
main_items (p ∷ ps) = items_of p

-- the body that these parts make
abbrev pub body_with : Key → Side → List PartView → Body
body_with key side ps = record { key = key; side = side; items = main_items ps; parts = filter_map function_part ps }

-- a body at its end: each jump leads to a label of its part
unfoldable pub body_ended : BodyLines → Result Body Cause
body_ended b = unless (not (list_all part_leads (all_parts b))) Cause.NoLabel (Ok (body_with b.key b.side (all_parts b)))
