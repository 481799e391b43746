-- The single cells of the kernel's code at which blocks end, in code that has the kernel's listings.
use Rattle.std.specs.Prelude.{◌≡◌, ℤ, ℕ, pos, ◌+◌, Some}
use Rattle.ev_isa.specs.Word.{displaced}
use Rattle.ev_isa.specs.declared.instruction.Ins.{Ins}
use Rattle.ev_isa.specs.declared.instruction.Ins.TheVariants.{Load, Jmp, JmpReg, Sysretq, Iretq, Eretu, Erets}
use Rattle.ev_isa.specs.declared.mode.Mode.TheVariants.{Idt, Fred}
use Rattle.ev_listing.specs.AddressMap.{nbody_entry}
use Rattle.ev_listing.specs.Marks.{Mark, Never, Always}
use Rattle.ev_symbolic.specs.Agrees.{Code}
use Rattle.ev_blocks.specs.Shapes.{Layout, FredFrame, IdtFrame, NmiFrame}
use Rattle.ev_blocks.specs.Fred.{eretu_place, erets_place}
use Rattle.ev_blocks.specs.Idt.{sysretq_place, iretq_place}
use Rattle.ev_blocks.specs.Items.{table_load, body_jump}
use Rattle.ev_paths.specs.Lines.{HasKernel}
use Rattle.ev_paths.specs.NmiEnds.{inner_return, last_return, repeat_jump}

-- the instruction at an address, the address behind it, and when the abstract machine makes a step with it
abbrev pub CellIs : Code → ℕ → Ins → ℕ → Mark → Type 0
CellIs code a i next mark = code a ≡ Some (record { ins = i; next = next; mark = mark })

-- the load of the body's address: from the place in RAX, or in the NMI code from the third word of the table in RCX
abbrev pub load_of : Layout → Ins
load_of NmiFrame = Load 0 1 (pos 0x10)
load_of layout = Load 0 0 (pos 0)

-- the load, and behind it the jump to the body
pub record TableCells (code : Code) (layout : Layout) : Type 0 where
  pub load : CellIs code (table_load layout) (load_of layout) (body_jump layout) Never
  pub jump : CellIs code (body_jump layout) (JmpReg 0) (body_jump layout + 2) Never

-- those of FRED's code
pub record FredCells (code : Code) : Type 0 where
  pub table : TableCells code FredFrame
  pub eretu : CellIs code eretu_place Eretu (eretu_place + 4) Always
  pub erets : CellIs code erets_place Erets (erets_place + 4) Always

-- the jump at the end of REPEAT, which leads to NBODY
pub record RepeatJump (code : Code) : Type 0 where
  pub distance : ℤ
  pub is : CellIs code repeat_jump (Jmp distance) (repeat_jump + 5) Always
  pub leads : displaced (repeat_jump + 5) distance ≡ nbody_entry

-- those of IDT's
pub record IdtCells (code : Code) : Type 0 where
  pub table : TableCells code IdtFrame
  pub nmi_table : TableCells code NmiFrame
  pub sysretq : CellIs code sysretq_place Sysretq (sysretq_place + 3) Always
  pub iretq : CellIs code iretq_place Iretq (iretq_place + 2) Always
  pub inner : CellIs code inner_return Iretq (inner_return + 2) Never
  pub last : CellIs code last_return Iretq (last_return + 2) Always
  pub repeats : RepeatJump code

-- they stand wherever FRED's listings do
abbrev pub FredCellsStand : Type 0
FredCellsStand = (code : Code) → HasKernel Fred code → FredCells code

-- and wherever IDT's do
abbrev pub IdtCellsStand : Type 0
IdtCellsStand = (code : Code) → HasKernel Idt code → IdtCells code
