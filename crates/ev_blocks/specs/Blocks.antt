-- Every place of kernel code where an activation stands, its block, its windows, and how many edges are left there until a visible step. Own.
use Rattle.std.specs.Prelude.{◌≡◌, ℕ, zero, suc, ◌+◌, ◌-◌, ◌<◌, ◌≤◌, Bool, true, false}
use Rattle.ev_isa.specs.declared.mode.Mode.{Mode}
use Rattle.ev_isa.specs.declared.mode.Mode.TheVariants.{Idt, Fred}
use Rattle.ev_symbolic.specs.State.{Block}
use Rattle.ev_blocks.specs.Shapes.{Origin, Layout, FredFrame, IdtFrame, NmiFrame, Forms}
use Rattle.ev_blocks.specs.Fred.{FredWay, FredExit, FredSpot, FredToNext, FromUser, FromKernel, LeavesNmi, fred_block, fred_forms}
use Rattle.ev_blocks.specs.Fred as fred
use Rattle.ev_blocks.specs.Idt.{IdtExit, IdtToNext, IdtSpot, Stub, Sys, Common, idt_block, idt_forms}
use Rattle.ev_blocks.specs.Idt as idt
use Rattle.ev_blocks.specs.Nmi.{Choice, GsBase, BodyBegin, NmiExit, NmiSpot, Choosing, Repeats, Begins, nmi_block, nmi_forms, is_first}
use Rattle.ev_blocks.specs.Nmi as nmi
use Rattle.ev_blocks.specs.Calls.{AtRecord, BehindWait, BehindBusy, AtFill, AtHead, AtLink, BehindFailure, BehindCall, AtTake, BehindTake, AtTurn, BehindTurn, AtTaken, AtFinish, BehindNext, behind_call}
use Rattle.ev_blocks.specs.Items.{BodySpot, AtTable, AtJump, AtItem, BehindSti, BehindKick, InCall, body_block, body_spot_forms}

-- in the code of FRED, in that of IDT, in the NMI code of IDT, and in a body
pub data Spot : Type 0 where
  InFred : FredSpot → Spot
  InIdt : IdtSpot → Spot
  InNmi : NmiSpot → Spot
  InBody : Layout → BodySpot → Spot

-- the block of a spot; a body's has the mode's setting
abbrev pub block : Mode → Spot → Block
block mode (InFred s) = fred_block s
block mode (InIdt s) = idt_block s
block mode (InNmi s) = nmi_block s
block Fred (InBody layout s) = body_block true layout s
block Idt (InBody layout s) = body_block false layout s

-- the forms of its windows
abbrev pub forms : Spot → Forms
forms (InFred s) = fred_forms s
forms (InIdt s) = idt_forms s
forms (InNmi s) = nmi_forms s
forms (InBody layout s) = body_spot_forms layout s

-- whether the exit is changing the words of the current task, and whether the block knows the return frame of its NMI
abbrev pub switches : Spot → Bool
switches (InFred (fred.Leaves FredToNext)) = true
switches (InIdt (idt.Leaves (IdtToNext r))) = true
switches s = false

-- whether it knows the return frame
abbrev pub holds : Spot → Bool
holds (InNmi (Choosing c g)) = is_first c
holds (InNmi (Repeats g)) = true
holds s = false

-- ---- edges

-- From an item: its own before the visible instruction, or `ret`: its jump and the longest exit.
abbrev pub item_edges : ℕ
item_edges = 47

-- How many edges may come behind the end of a block, until a visible step: none where the visible instruction is next.
abbrev pub behind_body : BodySpot → ℕ
behind_body AtTable = item_edges + 2
behind_body AtJump = item_edges + 1
behind_body AtItem = item_edges
behind_body BehindSti = item_edges
behind_body BehindKick = item_edges
behind_body (InCall s) = behind_call item_edges s
behind_body s = 0

-- at the end of a vector's entry come its jump and the code in common
abbrev pub behind_idt : IdtSpot → ℕ
behind_idt (Stub o has_error v) = item_edges + 39
behind_idt (Common o page_fault) = item_edges + 2
behind_idt Sys = item_edges + 2
behind_idt s = 0

-- behind FIRST comes NBODY; behind an inner NMI its return, and then what it interrupted, which is counted there
abbrev pub behind_choice : Bool → ℕ
behind_choice true = item_edges + 23
behind_choice false = 1

-- behind the other blocks of the NMI code
abbrev pub behind_nmi : NmiSpot → ℕ
behind_nmi (Choosing c g) = behind_choice (is_first c)
behind_nmi (Begins b) = item_edges + 2
behind_nmi s = 0

-- behind FRED's blocks
abbrev pub behind_fred : FredSpot → ℕ
behind_fred (FromUser w) = item_edges + 2
behind_fred FromKernel = item_edges + 2
behind_fred s = 0

-- behind any
abbrev pub behind : Spot → ℕ
behind (InFred s) = behind_fred s
behind (InIdt s) = behind_idt s
behind (InNmi s) = behind_nmi s
behind (InBody layout s) = behind_body s

-- At most so many edges come before a visible step, at instruction k of a spot's block.
abbrev pub edges : Mode → Spot → ℕ → ℕ
edges mode spot k = ((block mode spot).steps - k) + behind spot

-- at the end of a spot's block, and at the beginning of one
abbrev pub edges_behind : Mode → Spot → ℕ
edges_behind mode spot = edges mode spot (block mode spot).steps

-- at the beginning of its block
abbrev pub edges_from : Mode → Spot → ℕ
edges_from mode spot = edges mode spot 0

-- Where one block goes on in the next, no more edges are left; and where an instruction leads there, fewer.
pub record EdgesFall (mode : Mode) : Type 0 where
  pub from_user : (w : FredWay) → edges_from mode (InBody FredFrame AtTable) ≤ edges_behind mode (InFred (FromUser w))
  pub from_kernel : edges_from mode (InBody FredFrame AtTable) ≤ edges_behind mode (InFred FromKernel)
  pub stub : (o : Origin) (has_error : Bool) (v : ℕ) (page_fault : Bool)
      → edges_from mode (InIdt (Common o page_fault)) < edges_behind mode (InIdt (Stub o has_error v))
  pub call : edges_from mode (InBody IdtFrame AtTable) ≤ edges_behind mode (InIdt Sys)
  pub common : (o : Origin) (page_fault : Bool) → edges_from mode (InBody IdtFrame AtTable) ≤ edges_behind mode (InIdt (Common o page_fault))
  pub first_nmi : (c : Choice) (g : GsBase) (b : BodyBegin) → is_first c ≡ true
      → edges_from mode (InNmi (Begins b)) ≤ edges_behind mode (InNmi (Choosing c g))
  pub nmi_body : (b : BodyBegin) → edges_from mode (InBody NmiFrame AtTable) ≤ edges_behind mode (InNmi (Begins b))
  pub table : (layout : Layout) → edges_from mode (InBody layout AtJump) < edges_behind mode (InBody layout AtTable)
  pub jump : (layout : Layout) → edges_from mode (InBody layout AtItem) < edges_behind mode (InBody layout AtJump)
  pub item : (layout : Layout) (s : BodySpot) → behind_body s ≡ 0 → edges_from mode (InBody layout s) < edges_from mode (InBody layout AtItem)
  pub sti : (layout : Layout) → edges_from mode (InBody layout AtItem) ≤ edges_behind mode (InBody layout BehindSti)
  pub kick : (layout : Layout) → edges_from mode (InBody layout AtItem) ≤ edges_behind mode (InBody layout BehindKick)
  pub fred_exit : (layout : Layout) (x : FredExit) → edges_from mode (InFred (fred.Leaves x)) < edges_from mode (InBody layout AtItem)
  pub fred_nmi_exit : (layout : Layout) (o : Origin) → edges_from mode (InFred (LeavesNmi o)) < edges_from mode (InBody layout AtItem)
  pub idt_exit : (layout : Layout) (x : IdtExit) → edges_from mode (InIdt (idt.Leaves x)) < edges_from mode (InBody layout AtItem)
  pub nmi_exit : (layout : Layout) (x : NmiExit) → edges_from mode (InNmi (nmi.Leaves x)) < edges_from mode (InBody layout AtItem)

-- in both modes
abbrev pub AllEdgesFall : Type 0
AllEdgesFall = (mode : Mode) → EdgesFall mode

-- From one spot of a call item to the next one fewer edges are left, where an instruction leads there; and no more, where the same place is seen anew.
pub record CallEdgesFall (mode : Mode) (layout : Layout) : Type 0 where
  pub at_record : (site : ℕ) → edges_from mode (InBody layout (InCall (AtRecord site))) < edges_from mode (InBody layout AtItem)
  pub fill : (site address func to s : ℕ)
      → edges_from mode (InBody layout (InCall (AtFill address func to s))) < edges_behind mode (InBody layout (InCall (AtRecord site)))
  pub head : (address func to s : ℕ)
      → edges_from mode (InBody layout (InCall (AtHead address func to))) ≤ edges_behind mode (InBody layout (InCall (AtFill address func to s)))
  pub link : (address func to : ℕ)
      → edges_from mode (InBody layout (InCall (AtLink address func to false))) < edges_behind mode (InBody layout (InCall (AtHead address func to)))
  pub failure : (address func to : ℕ)
      → edges_from mode (InBody layout (InCall (BehindFailure address func to))) < edges_behind mode (InBody layout (InCall (AtLink address func to true)))
  pub again : (address func to : ℕ)
      → edges_from mode (InBody layout (InCall (AtHead address func to))) < edges_behind mode (InBody layout (InCall (BehindFailure address func to)))
  pub turn : (left : ℕ) → edges_from mode (InBody layout (InCall (AtTurn left))) ≤ edges_behind mode (InBody layout (InCall (BehindTake left)))
  pub turn_again : (left : ℕ) → edges_from mode (InBody layout (InCall (AtTurn left))) ≤ edges_behind mode (InBody layout (InCall (BehindTurn left)))
  -- the load of the old link and the store of the new one
  pub turned : (left : ℕ) → edges_from mode (InBody layout (InCall (BehindTurn left))) + 2 ≤ edges_behind mode (InBody layout (InCall (AtTurn (suc left))))
  pub taken : (is_some : Bool) → edges_from mode (InBody layout (InCall (AtTaken is_some))) ≤ edges_behind mode (InBody layout (InCall (AtTurn zero)))
  -- three loads and the jump
  pub function : edges_from mode (InBody layout AtItem) + 4 ≤ edges_behind mode (InBody layout (InCall (AtTaken true)))
  pub none : edges_from mode (InBody layout AtItem) ≤ edges_behind mode (InBody layout (InCall (AtTaken false)))
  pub wait : (is_done : Bool) → edges_from mode (InBody layout AtItem) ≤ edges_behind mode (InBody layout (InCall (BehindWait is_done)))
  pub busy : (s : ℕ) → edges_from mode (InBody layout AtItem) ≤ edges_behind mode (InBody layout (InCall (BehindBusy s)))
  pub answer : (s : ℕ) (is_first : Bool) → edges_from mode (InBody layout AtItem) ≤ edges_behind mode (InBody layout (InCall (BehindCall s is_first)))
  pub take : edges_from mode (InBody layout (InCall AtTake)) < edges_from mode (InBody layout AtItem)
  pub finish : edges_from mode (InBody layout (InCall AtFinish)) < edges_from mode (InBody layout AtItem)
  pub next : edges_from mode (InBody layout (InCall BehindNext)) < edges_behind mode (InBody layout (InCall AtFinish))

-- in every layout and mode
abbrev pub AllCallEdgesFall : Type 0
AllCallEdgesFall = (mode : Mode) (layout : Layout) → CallEdgesFall mode layout
