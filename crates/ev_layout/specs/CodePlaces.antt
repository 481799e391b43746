-- Which instruction of all code of an image stands at an address. Own.
use Rattle.std.specs.Prelude.{◌≡◌, ℕ, suc, ◌+◌, ◌==◌, Bool, ◌&&◌, List, [], ◌∷◌, ◌++◌, Option, option_map, is_some}
use Rattle.std.specs.Option.{option_or}
use Rattle.std.specs.List.{list_any, zip}
use Rattle.ev_isa.specs.declared.mode.Mode.{Mode}
use Rattle.ev_isa.specs.declared.mode.Mode.TheVariants.{Idt, Fred}
use Rattle.ev_body.specs.declared.key.Key.{Key}
use Rattle.ev_body.specs.declared.item.Item.{Item}
use Rattle.ev_body.specs.declared.body.Body.{Body}
use Rattle.ev_body.specs.declared.image.Image.{Image}
use Rattle.ev_body.specs.Bodies.{body_items}
use Rattle.ev_asm.specs.declared.statement.Stmt.{Stmt}
use Rattle.ev_asm.specs.Assembly.{total_size}
use Rattle.ev_asm.specs.Assembled.{addresses_of}
use Rattle.ev_listing.specs.AddressMap.{body_code, no_body}
use Rattle.ev_listing.specs.Expansion.{expansion, function_address}
use Rattle.ev_listing.specs.IdtCode.{none}
use Rattle.ev_listing.specs.Marks.{Listing, stmts_of}
use Rattle.ev_concrete.specs.Opening.{listings}
use Rattle.ev_stub.specs.Position.{is_counted, index_from, position_in}
use Rattle.ev_stub_idt.specs.Position.{idt_place_at}
use Rattle.ev_stub_fred.specs.Position.{fred_place_at}
use Rattle.ev_layout.specs.declared.place.Place.{Place}
use Rattle.ev_layout.specs.declared.place.Place.TheVariants as place

-- The items from number i on of body b, each with its code and named by both numbers: that of item i begins at address a.
abbrev pub item_blocks : Mode → (ℕ → ℕ) → (b : ℕ) → Key → (i a : ℕ) → List Item → List ((ℕ × ℕ) × Listing)
item_blocks mode function b key i a [] = []
item_blocks mode function b key i a (item ∷ items) =
    ((b, i), record { address = a; lines = expansion mode b key function i item })
    ∷ item_blocks mode function b key (suc i) (a + total_size (stmts_of (expansion mode b key function i item))) items

-- those of the bodies from number b on
abbrev pub body_blocks : Mode → Image → (b : ℕ) → List Body → List ((ℕ × ℕ) × Listing)
body_blocks mode image b [] = []
body_blocks mode image b (body ∷ bodies) =
    item_blocks mode (function_address mode image) b body.key 0 (body_code b) (body_items body) ++ body_blocks mode image (suc b) bodies

-- the number of an instruction in the code of an item
abbrev pub item_place : (ℕ × ℕ) × ℕ → Place
item_place p = place.Item p.0.0 p.0.1 p.1

-- an instruction of the entries, exits and stubs of a mode
abbrev pub kernel_place : Mode → ℕ → Option Place
kernel_place Idt rip = option_map place.Idt (idt_place_at rip)
kernel_place Fred rip = option_map place.Fred (fred_place_at rip)

-- the one instruction of the code for keys without a body, which jumps to itself
abbrev pub stop_place : ℕ → Option Place
stop_place rip = option_map (λ n. place.Stop) (index_from 0 no_body rip none)

-- The place of the instruction whose first byte stands at rip. An address inside an instruction has none.
unfoldable pub place_of : Mode → Image → ℕ → Option Place
place_of mode image rip =
    option_or (option_map item_place (position_in rip (body_blocks mode image 0 image.bodies))) (option_or (kernel_place mode rip) (stop_place rip))

-- ---- what it says of the listings

-- whether the first byte of one of the listing's instructions stands at rip
abbrev pub begins_in : ℕ → Listing → Bool
begins_in rip l = list_any (λ (e : ℕ × Stmt). is_counted e.1 && (e.0 == rip)) (zip (addresses_of l.address (stmts_of l.lines)) (stmts_of l.lines))

-- an address has a place exactly where an instruction of the image's code begins
abbrev pub PlacesAreExact : Type 0
PlacesAreExact = (mode : Mode) (image : Image) (rip : ℕ) → is_some (place_of mode image rip) ≡ list_any (begins_in rip) (listings mode image)
