-- Cells and bodies whose instructions have spellings. Own.
use Rattle.std.specs.Prelude.{ℕ, Bool, not, ◌&&◌, ◌||◌, [], ◌∷◌}
use Rattle.std.specs.List.{list_any, list_all}
use Rattle.ev_body.specs.declared.body.Body.{Body}
use Rattle.ev_body.specs.Bodies.{body_items}
use Rattle.ev_body.specs.WellFormed.{is_finish}
use Rattle.ev_code.specs.Coding.{IsEncodable}
use Rattle.ev_abstract.specs.Rules.{breaks_slots, is_take}
use Rattle.ev_symbolic.specs.Listed.{Cells}

-- each cell's instruction has fields that fit and, if it is a shift, a count from 1 to 63
abbrev pub AreSpelled : Cells → Type 0
AreSpelled [] = Unit {0}
AreSpelled (x ∷ xs) = IsEncodable x.1.ins × AreSpelled xs

-- Slots, cells, sites, functions and processors are below the bounds of SlotRule, and a `finish` has a `take` to go on behind.
abbrev pub has_spelling : ℕ → Body → Bool
has_spelling processors b =
    list_all (λ item. not (breaks_slots processors item)) (body_items b) && (list_any is_take (body_items b) || not (list_any is_finish (body_items b)))
