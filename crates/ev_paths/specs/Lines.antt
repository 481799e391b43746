-- The lines of the blocks stand in code that has the kernel's cells, and what the entry of a vector jumps to.
use Rattle.std.specs.Prelude.{◌≡◌, ℤ, ℕ, ◌+◌, ◌<◌, Bool, Some}
use Rattle.ev_isa.specs.Word.{displaced}
use Rattle.ev_isa.specs.declared.instruction.Ins.TheVariants.{Jmp}
use Rattle.ev_isa.specs.declared.mode.Mode.{Mode}
use Rattle.ev_isa.specs.declared.mode.Mode.TheVariants.{Idt, Fred}
use Rattle.ev_event.specs.Event.{has_error_code}
use Rattle.ev_listing.specs.AddressMap.{vector_stub, common_entry}
use Rattle.ev_listing.specs.Marks.{all_places}
use Rattle.ev_concrete.specs.Opening.{kernel_listings}
use Rattle.ev_symbolic.specs.Agrees.{Env, Code, edge_cell, Stands}
use Rattle.ev_symbolic.specs.Listed.{cells_in, AllFound}
use Rattle.ev_symbolic.specs.Names.{stub_tag}
use Rattle.ev_blocks.specs.Fred.{FredSpot, fred_block}
use Rattle.ev_blocks.specs.Idt.{IdtSpot, Stub, idt_block}
use Rattle.ev_blocks.specs.Nmi.{NmiSpot, nmi_block}
use Rattle.ev_paths.specs.IdtEnds.{stub_bytes}

-- the code has each cell of the kernel's listings
abbrev pub HasKernel : Mode → Code → Type 0
HasKernel mode code = AllFound code (cells_in (all_places (kernel_listings mode)) (kernel_listings mode))

-- under FRED
abbrev pub FredLinesStand : Type 0
FredLinesStand = (code : Code) (e : Env) → e.base 1000 ≡ 0 → HasKernel Fred code → (s : FredSpot) → Stands code e (fred_block s).lines

-- the base of a vector's entry is its address
abbrev pub IsAtStub : Env → IdtSpot → Type 0
IsAtStub e (Stub o has_error v) = (v < 256) × (has_error_code v ≡ has_error) × (e.base stub_tag ≡ vector_stub v)
IsAtStub e s = Unit {0}

-- under IDT
abbrev pub IdtLinesStand : Type 0
IdtLinesStand = (code : Code) (e : Env) → e.base 1000 ≡ 0 → HasKernel Idt code → (s : IdtSpot) → IsAtStub e s → Stands code e (idt_block s).lines

-- and those of the NMI code
abbrev pub NmiLinesStand : Type 0
NmiLinesStand = (code : Code) (e : Env) → e.base 1000 ≡ 0 → HasKernel Idt code → (s : NmiSpot) → Stands code e (nmi_block s).lines

-- behind the pushes of a vector's entry stands a jump to the code in common
pub record StubJump (code : Code) (v : ℕ) (has_error : Bool) : Type 0 where
  pub distance : ℤ
  pub is : code (vector_stub v + stub_bytes has_error) ≡ Some (edge_cell (Jmp distance) (vector_stub v + stub_bytes has_error + 5))
  pub leads : displaced (vector_stub v + stub_bytes has_error + 5) distance ≡ common_entry

-- so it is for each of the 256 vectors
abbrev pub StubsJump : Type 0
StubsJump = (code : Code) → HasKernel Idt code → (v : ℕ) → v < 256 → StubJump code v (has_error_code v)
