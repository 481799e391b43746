-- Which instruction of the code under FRED stands at an address. Own.
use Rattle.std.specs.Prelude.{ℕ, List, [], ◌∷◌, Option, option_map, unwrap_or}
use Rattle.std.specs.List.{zip}
use Rattle.ev_listing.specs.FredCode.{fred_listings}
use Rattle.ev_listing.specs.Marks.{Listing}
use Rattle.ev_stub.specs.Position.{position_in}
use Rattle.ev_stub_fred.specs.declared.position.FredBlock.{FredBlock}
use Rattle.ev_stub_fred.specs.declared.position.FredBlock.TheVariants.{User, Kernel, Main, Outside}
use Rattle.ev_stub_fred.specs.declared.position.FredPlace.{FredPlace}

-- the blocks: all listings but the last, which is the code for keys without a body
abbrev pub fred_blocks : List (FredBlock × Listing)
fred_blocks = zip (User ∷ Kernel ∷ Main ∷ []) fred_listings

-- a position as a place
abbrev pub place_of : FredBlock × ℕ → FredPlace
place_of p = record { block = p.0; index = p.1 }

-- the place of the instruction at rip, if one stands there
abbrev pub fred_place_at : ℕ → Option FredPlace
fred_place_at rip = option_map place_of (position_in rip fred_blocks)

-- the same, where none is Outside
abbrev pub fred_place : ℕ → FredPlace
fred_place rip = unwrap_or (fred_place_at rip) (record { block = Outside; index = 0 })
