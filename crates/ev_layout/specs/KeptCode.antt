-- What the program keeps of an image's code beside its bytes. Own.
use Rattle.std.specs.Prelude.{◌≡◌, ℕ, Bool, not, ◌&&◌, nat_le, List, length, map}
use Rattle.std.specs.List.{list_all}
use Rattle.ev_isa.specs.declared.mode.Mode.{Mode}
use Rattle.ev_body.specs.declared.item.Item.{Item}
use Rattle.ev_body.specs.declared.image.Image.{Image}
use Rattle.ev_body.specs.Bodies.{body_items}
use Rattle.ev_abstract.specs.Rules.{breaks_slots}
use Rattle.ev_layout.specs.declared.mark.Mark.{Mark}

-- the marks of visible instructions by address, the mode, and the items of each body
pub record KeptCode : Type 0 where
  pub marks : List (ℕ × Mark)
  pub mode : Mode
  pub bodies : List (List Item)

-- the code is that of this image in this mode
pub record IsCodeOf (mode : Mode) (image : Image) (code : KeptCode) : Type 0 where
  pub mode_is : code.mode ≡ mode
  pub bodies_are : code.bodies ≡ map body_items image.bodies

-- whether items can be those of a body: at most 256, with numbers below the bounds of SlotRule
abbrev pub is_code : List Item → Bool
is_code items = nat_le (length items) 256 && list_all (λ item. not (breaks_slots 8 item)) items

-- at most 64 bodies of such items
abbrev pub are_code : List (List Item) → Bool
are_code bodies = nat_le (length bodies) 64 && list_all is_code bodies
