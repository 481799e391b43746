-- Which instruction of a kernel's code stands at an address: items, stubs, entries, and addresses where none begins.
use Rattle.std.specs.Prelude.{◌≡◌, refl, ◌+◌, ◌-◌, [], ◌∷◌, Some, None}
use Rattle.ev_isa.specs.Spelling.{four_bytes, spelling}
use Rattle.ev_isa.specs.declared.instruction.Ins.TheVariants.{Syscall}
use Rattle.ev_isa.specs.declared.mode.Mode.TheVariants.{Idt, Fred}
use Rattle.ev_asm.specs.Assembly.{size}
use Rattle.ev_body.specs.Bodies.{covers, key_number}
use Rattle.ev_body.specs.KernelImage.{KernelImage}
use Rattle.ev_body.specs.declared.item.Item.{Item}
use Rattle.ev_body.specs.declared.key.Key.{Key}
use Rattle.ev_body.specs.declared.key.Side.TheVariants.{User}
use Rattle.ev_listing.specs.AddressMap.{body_code, fred_page, no_body, sys_entry, vector_stub}
use Rattle.ev_listing.specs.Expansion.{expansion}
use Rattle.ev_listing.specs.FredCode.{fred_listings}
use Rattle.ev_listing.specs.IdtCode.{idt_listings}
use Rattle.ev_stub.specs.Position.{index_from}
use Rattle.ev_stub_idt.specs.Position.{stub_blocks}
use Rattle.ev_stub_idt.specs.declared.position.IdtBlock.TheVariants as idt
use Rattle.ev_stub_fred.specs.declared.position.FredBlock.TheVariants as fred
use Rattle.ev_layout.specs.CodePlaces.{place_of}
use Rattle.ev_layout.specs.declared.place.Place.TheVariants as place
use Rattle.ev_examples.proofs.Documents.{body, simple}

unfoldable placing : Unit {0}
unfolding place_of index_from expansion size spelling four_bytes stub_blocks idt_listings fred_listings key_number covers
placing = tt

-- two bodies, and those that fill
unfoldable two_bodies : KernelImage
two_bodies = simple 1 (Syscall ∷ []) (body Key.Sys User (Item.Log 7 ∷ Item.Map 6 ∷ Item.Ret ∷ []) ∷ body Key.Gp User (Item.Nop ∷ Item.Ret ∷ []) ∷ [])

-- ---- in bodies

-- the one instruction of `log`, at the address of the label before it
first_item : place_of Idt two_bodies (body_code 0) ≡ Some (place.Item 0 0 0)
unfolding placing two_bodies
first_item = refl

-- an address inside it
inside_first : place_of Idt two_bodies (body_code 0 + 1) ≡ None
unfolding placing two_bodies
inside_first = refl

-- the first instruction of `map`, 9 bytes on
second_item : place_of Idt two_bodies (body_code 0 + 9) ≡ Some (place.Item 0 1 0)
unfolding placing two_bodies
second_item = refl

-- its eighth stands behind a label of its own, which has no number
behind_label : place_of Idt two_bodies (body_code 0 + 52) ≡ Some (place.Item 0 1 7)
unfolding placing two_bodies
behind_label = refl

-- the jump of `ret`
last_instruction : place_of Fred two_bodies (body_code 0 + 80) ≡ Some (place.Item 0 2 0)
unfolding placing two_bodies
last_instruction = refl

-- the last byte of the body, and the first behind it
last_byte : place_of Fred two_bodies (body_code 0 + 84) ≡ None
unfolding placing two_bodies
last_byte = refl

between_bodies : place_of Fred two_bodies (body_code 0 + 85) ≡ None
unfolding placing two_bodies
between_bodies = refl

-- the byte before the next body, and that body
before_second : place_of Fred two_bodies (body_code 1 - 1) ≡ None
unfolding placing two_bodies
before_second = refl

second_body : place_of Fred two_bodies (body_code 1 + 1) ≡ Some (place.Item 1 1 0)
unfolding placing two_bodies
second_body = refl

-- ---- in the code that no image changes

-- where the tables name no body
stop : place_of Idt two_bodies (no_body) ≡ Some place.Stop
unfolding placing two_bodies
stop = refl

stop_of_fred : place_of Fred two_bodies (no_body) ≡ Some place.Stop
unfolding placing two_bodies
stop_of_fred = refl

inside_stop : place_of Idt two_bodies (no_body + 1) ≡ None
unfolding placing two_bodies
inside_stop = refl

-- the stub of vector 0 pushes 0 and the vector; that of vector 255 is the last
first_stub : place_of Idt two_bodies (vector_stub 0 + 5) ≡ Some (place.Idt (record { block = idt.Vector 0; index = 1 }))
unfolding placing two_bodies
first_stub = refl

last_stub : place_of Idt two_bodies (vector_stub 255 + 10) ≡ Some (place.Idt (record { block = idt.Vector 255; index = 2 }))
unfolding placing two_bodies
last_stub = refl

behind_stubs : place_of Idt two_bodies (vector_stub 256 - 1) ≡ None
unfolding placing two_bodies
behind_stubs = refl

-- under FRED there are no stubs
no_stubs : place_of Fred two_bodies (vector_stub 0) ≡ None
unfolding placing two_bodies
no_stubs = refl

entry : place_of Idt two_bodies (sys_entry) ≡ Some (place.Idt (record { block = idt.Sys; index = 0 }))
unfolding placing two_bodies
entry = refl

entry_of_fred : place_of Fred two_bodies (fred_page + 0x200) ≡ Some (place.Fred (record { block = fred.Main; index = 0 }))
unfolding placing two_bodies
entry_of_fred = refl

-- ---- outside

below : place_of Idt two_bodies (0) ≡ None
unfolding placing two_bodies
below = refl

above : place_of Fred two_bodies (0xffffffffffffffff) ≡ None
unfolding placing two_bodies
above = refl

-- no body has number 64
behind_bodies : place_of Idt two_bodies (body_code 64) ≡ None
unfolding placing two_bodies
behind_bodies = refl
