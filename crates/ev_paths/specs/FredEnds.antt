-- What the blocks of FRED's code come to.
use Rattle.std.specs.Prelude.{ℕ, ◌-◌, true}
use Rattle.ev_symbolic.specs.Value.{M, P}
use Rattle.ev_symbolic.specs.State.{SS}
use Rattle.ev_symbolic.specs.Openings.{gs_tag, words_from}
use Rattle.ev_symbolic.specs.Names.{next_top_tag, saved, next_saved, other_gs, gs_selector, level_rsp, next_selector, next_gs, top_less}
use Rattle.ev_blocks.specs.Shapes.{UserCode, KernelCode, FredFrame, registers_of, interrupted_words}
use Rattle.ev_paths.specs.Ends.{end_of, TellsNoCr2, HasWords, next_names, Enters, Returns}
use Rattle.ev_blocks.specs.Fred.{FredWay, FredToKernel, FredToTask, FredToNext, FredSpot, FromUser, FromKernel, Leaves, LeavesNmi, way_values, kernel_values, fred_block, next_interrupted, eretu_place, erets_place}
use Rattle.ev_blocks.specs.Items.{AtTable, body_block}

-- the state that the block of a spot comes to
unfoldable pub fred_end : FredSpot → SS
fred_end s = end_of (fred_block s)

-- each entry comes to the load of the body's address
abbrev pub FredEnters : Type 0
FredEnters =
    ((w : FredWay) → Enters (fred_block (FromUser w)) (fred_end (FromUser w)) (way_values w) (body_block true FredFrame AtTable))
    × Enters (fred_block FromKernel) (fred_end FromKernel) kernel_values (body_block true FredFrame AtTable)

-- an exit of this activation restores its registers, and leaves the other GS base and the selector as they were
abbrev pub ReturnsAt : ℕ → FredSpot → Type 0
ReturnsAt place s =
    Returns (fred_block s) (fred_end s) place (registers_of saved (top_less 0x40)) (P gs_tag 0) other_gs gs_selector level_rsp
    (interrupted_words FredFrame)

-- a switch restores those of the next task, and sets RSP of level 0 to the top of its stack
abbrev pub ReturnsToNext : FredSpot → Type 0
ReturnsToNext s =
    Returns (fred_block s) (fred_end s) eretu_place (registers_of next_saved (P next_top_tag (M - 0x40))) (P gs_tag 0) next_gs next_selector
    (P next_top_tag 0) (words_from next_top_tag (M - 0x38) next_interrupted)

-- each exit comes to its return
pub record FredReturns : Type 0 where
  pub to_kernel : ReturnsAt erets_place (Leaves FredToKernel)
  pub to_task : ReturnsAt eretu_place (Leaves FredToTask)
  pub to_next : ReturnsToNext (Leaves FredToNext)
  pub switched : HasWords (fred_end (Leaves FredToNext)) next_names
  pub nmi_to_task : ReturnsAt eretu_place (LeavesNmi UserCode)
  pub nmi_to_kernel : ReturnsAt erets_place (LeavesNmi KernelCode)

-- no block of FRED's code is told of CR2
abbrev pub FredTellsNoCr2 : Type 0
FredTellsNoCr2 = (s : FredSpot) → TellsNoCr2 (fred_block s)
