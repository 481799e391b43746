-- What the blocks of the NMI code under IDT come to.
use Rattle.std.specs.Prelude.{◌≡◌, ℕ, ◌+◌, false, List, [], ◌∷◌, Some}
use Rattle.ev_listing.specs.AddressMap.{repeat_entry, nlast_entry}
use Rattle.ev_symbolic.specs.Value.{V, K, P, X}
use Rattle.ev_symbolic.specs.State.{Word, SS, absolute}
use Rattle.ev_symbolic.specs.Run.{brun}
use Rattle.ev_symbolic.specs.Join.{Joins}
use Rattle.ev_symbolic.specs.Openings.{gs_tag}
use Rattle.ev_symbolic.specs.Names.{saved, other_gs, gs_selector, level_rsp, top_less}
use Rattle.ev_blocks.specs.Shapes.{NmiFrame, registers_of, from_top, interrupted}
use Rattle.ev_paths.specs.Ends.{end_of, HasWords, Enters, Returns}
use Rattle.ev_blocks.specs.Nmi.{Choice, FirstFromTask, FirstLow, FirstHigh, InnerLow, InnerHigh, InnerAtLast, InnerInRepeat, GsBase, TaskGs, KernelGs, BodyBegin, NmiExit, Exchanging, Staying, NmiSpot, Choosing, Repeats, Begins, Leaves, begin_of, to_nbody, begin_values, nmi_block}
use Rattle.ev_blocks.specs.Items.{AtTable, body_block}

-- the state that the block of a spot comes to
unfoldable pub nmi_end : NmiSpot → SS
nmi_end s = end_of (nmi_block s)

-- the return frame: the words that lead back, and those that lead to REPEAT
abbrev pub leads_back : List Word
leads_back = from_top 0x90 interrupted

-- and those that lead to REPEAT
abbrev pub leads_again : List Word
leads_again = from_top 0x90 (K repeat_entry ∷ K 0x10 ∷ K 2 ∷ top_less 0x90 ∷ K 0x18 ∷ [])

-- a first NMI goes on at NBODY, and the return frame leads back
pub record GoesOn (c : Choice) (g : GsBase) : Type 0 where
  pub enters : Enters (nmi_block (Choosing c g)) (nmi_end (Choosing c g)) to_nbody (nmi_block (Begins (begin_of c g)))
  pub frame : HasWords (nmi_end (Choosing c g)) leads_back

-- the bases of GS, that in use first
abbrev pub base_of : GsBase → V
base_of TaskGs = other_gs
base_of KernelGs = P gs_tag 0

-- and the other
abbrev pub other_of : GsBase → V
other_of TaskGs = P gs_tag 0
other_of KernelGs = other_gs

-- the place of the return of an inner NMI, and of the last return
abbrev pub inner_return : ℕ
inner_return = 0xffffffff810040b7

-- the last return
abbrev pub last_return : ℕ
last_return = nlast_entry + 12

-- an inner NMI comes to its return with the registers as it found them, RSP at its own frame
abbrev pub GoesBack : Choice → GsBase → Type 0
GoesBack c g =
    Returns (nmi_block (Choosing c g)) (nmi_end (Choosing c g)) inner_return (registers_of (λ r. X r) (top_less 0x28)) (base_of g) (other_of g) gs_selector
    level_rsp (from_top 0x28 interrupted)

-- but from REPEAT, it makes the return frame lead there
pub record Redirects (c : Choice) (g : GsBase) : Type 0 where
  pub back : GoesBack c g
  pub frame : HasWords (nmi_end (Choosing c g)) leads_again

-- the jump of REPEAT
abbrev pub repeat_jump : ℕ
repeat_jump = 0xffffffff81004883

-- REPEAT comes to its jump, which leads to NBODY; the frame leads back again
pub record Repeating (g : GsBase) (b : BodyBegin) : Type 0 where
  pub runs : brun (nmi_block (Repeats g)) (nmi_block (Repeats g)).steps ≡ Some (nmi_end (Repeats g))
  pub rip : (nmi_end (Repeats g)).rip ≡ absolute repeat_jump
  pub blocked : (nmi_end (Repeats g)).blocked ≡ false
  pub joins : Joins (nmi_end (Repeats g)) to_nbody (nmi_block (Begins b)).ground.known (nmi_block (Begins b)).opening
  pub frame : HasWords (nmi_end (Repeats g)) leads_back

-- the exit comes to the last return with the registers restored and RSP at the return frame; CR2 is what R14 had
pub record ReturnsLast (x : NmiExit) (base other : V) : Type 0 where
  pub back : Returns (nmi_block (Leaves x)) (nmi_end (Leaves x)) last_return (registers_of saved (top_less 0x90)) base other gs_selector level_rsp []
  pub cr2 : (nmi_end (Leaves x)).cr2 ≡ Some (X 14)
  pub idle : HasWords (nmi_end (Leaves x)) (from_top 0x40 (K 0 ∷ []))

-- each block of the NMI code
pub record NmiEnds : Type 0 where
  pub from_task : GoesOn FirstFromTask TaskGs
  pub first_low : (g : GsBase) → GoesOn FirstLow g
  pub first_high : (g : GsBase) → GoesOn FirstHigh g
  pub inner_low : (g : GsBase) → Redirects InnerLow g
  pub inner_high : (g : GsBase) → Redirects InnerHigh g
  pub inner_at_last : (g : GsBase) → Redirects InnerAtLast g
  pub inner_in_repeat : (g : GsBase) → GoesBack InnerInRepeat g
  pub repeating_from_task : Repeating TaskGs BodyBegin.FromTask
  pub repeating : (g : GsBase) → Repeating g (begin_of FirstLow g)
  pub begins : (b : BodyBegin) → Enters (nmi_block (Begins b)) (nmi_end (Begins b)) (begin_values b) (body_block false NmiFrame AtTable)
  pub exchanging : ReturnsLast Exchanging other_gs (P gs_tag 0)
  pub staying : ReturnsLast Staying (P gs_tag 0) other_gs
