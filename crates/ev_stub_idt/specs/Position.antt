-- Which instruction of the code under IDT stands at an address. Own.
use Rattle.std.specs.Prelude.{ℕ, zero, suc, List, [], ◌∷◌, ◌++◌, Option, option_map, unwrap_or, drop}
use Rattle.std.specs.List.{zip}
use Rattle.ev_listing.specs.AddressMap.{vector_stub}
use Rattle.ev_listing.specs.IdtCode.{stub, idt_listings}
use Rattle.ev_listing.specs.Marks.{Listing}
use Rattle.ev_stub.specs.Position.{position_in}
use Rattle.ev_stub_idt.specs.declared.position.IdtBlock.{IdtBlock}
use Rattle.ev_stub_idt.specs.declared.position.IdtBlock.TheVariants.{Vector, Sys, Common, Exit, Nmi, Repeat, Nbody, Exitn, Nlast, Outside}
use Rattle.ev_stub_idt.specs.declared.position.IdtPlace.{IdtPlace}

-- the stubs of the vectors from v on, so many
abbrev pub vector_blocks : ℕ → ℕ → List (IdtBlock × Listing)
vector_blocks v zero = []
vector_blocks v (suc n) = (Vector v, record { address = vector_stub v; lines = stub v }) ∷ vector_blocks (suc v) n

-- the stubs of all vectors
unfoldable pub stub_blocks : List (IdtBlock × Listing)
stub_blocks = vector_blocks 0 256

-- The entries and exits: the listings from the second to the last before the stubs. The first is the code for keys without a body.
abbrev pub entry_blocks : List (IdtBlock × Listing)
entry_blocks = zip (Sys ∷ Common ∷ Exit ∷ Nmi ∷ Repeat ∷ Nbody ∷ Exitn ∷ Nlast ∷ []) (drop 1 idt_listings)

-- a position as a place
abbrev pub place_of : IdtBlock × ℕ → IdtPlace
place_of p = record { block = p.0; index = p.1 }

-- the place of the instruction at rip, if one stands there
abbrev pub idt_place_at : ℕ → Option IdtPlace
idt_place_at rip = option_map place_of (position_in rip (stub_blocks ++ entry_blocks))

-- the same, where none is Outside
abbrev pub idt_place : ℕ → IdtPlace
idt_place rip = unwrap_or (idt_place_at rip) (record { block = Outside; index = 0 })
