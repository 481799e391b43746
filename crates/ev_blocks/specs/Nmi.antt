-- Blocks of the NMI code under IDT: the choice between a first and an inner NMI, the copies of the frame, and the exit.
use Rattle.std.specs.Prelude.{ℕ, ◌+◌, Bool, true, false, List, [], ◌∷◌, ◌++◌, Option, Some, None}
use Rattle.ev_listing.specs.AddressMap.{nmi_entry, repeat_entry, nbody_entry, exitn_entry, nlast_entry, user_table, kernel_table}
use Rattle.ev_symbolic.specs.Value.{V, K, P, X, B, OShr, Fact}
use Rattle.ev_symbolic.specs.State.{Word, SS, Line, Block}
use Rattle.ev_symbolic.specs.Listed.{lines_in}
use Rattle.ev_symbolic.specs.Openings.{gs_tag}
use Rattle.ev_symbolic.specs.Names.{frame_rip, frame_cs, frame_flags, frame_rsp, frame_ss, error, information, key, running, other_gs, fault_address, says, says_same, says_below, says_ring, top_less, opens, opens_in_user_gs}
use Rattle.ev_distances.specs.Form.{Form, OnStack, Stretch}
use Rattle.ev_blocks.specs.Shapes.{Origin, UserCode, KernelCode, ring, NmiFrame, Forms, private, body_forms, kernel_text, ground_over, over, from_top, interrupted, body_words, found_registers, same_saved, frame_of, values}
use Rattle.ev_blocks.specs.Idt.{idt_places, nmi_listing, repeat_listing, nbody_listing, exitn_listing, nlast_listing}

-- the lines of the choice
unfoldable pub nmi_lines : List Line
nmi_lines = lines_in idt_places (nmi_listing ∷ [])

-- those of REPEAT
unfoldable pub repeat_lines : List Line
repeat_lines = lines_in idt_places (repeat_listing ∷ [])

-- those of NBODY
unfoldable pub nbody_lines : List Line
nbody_lines = lines_in idt_places (nbody_listing ∷ [])

-- those of EXITN and NLAST
unfoldable pub exitn_lines : List Line
exitn_lines = lines_in idt_places (exitn_listing ∷ nlast_listing ∷ [])

-- which of the two bases GS has when the NMI comes: an exit, or an entry before it exchanges them, may be interrupted with the task's
pub data GsBase : Type 0 where
  TaskGs KernelGs : GsBase

-- How the NMI code chooses. A first NMI comes from a task, or from the kernel with RIP below REPEAT or behind NBODY; an inner one from there while a body runs,
-- from behind the last instruction but one of the exit, or from REPEAT.
pub data Choice : Type 0 where
  FirstFromTask FirstLow FirstHigh InnerLow InnerHigh InnerAtLast InnerInRepeat : Choice

-- where NBODY begins: from the task, or from the kernel with the one base or the other
pub data BodyBegin : Type 0 where
  FromTask FromKernel FromKernelInTaskGs : BodyBegin

-- whether the exit exchanges the bases
pub data NmiExit : Type 0 where
  Exchanging Staying : NmiExit

-- The choice, REPEAT, NBODY, and the exit.
pub data NmiSpot : Type 0 where
  Choosing : Choice → GsBase → NmiSpot
  Repeats : GsBase → NmiSpot
  Begins : BodyBegin → NmiSpot
  Leaves : NmiExit → NmiSpot

-- an opening with this base in GS
abbrev pub with_gs : GsBase → ℕ → V → List Word → SS
with_gs TaskGs a rsp words = opens_in_user_gs a rsp words
with_gs KernelGs a rsp words = opens a rsp words

-- ---- the choice, through FIRST up to NBODY, or through REDIR and INRET up to the return

-- A first NMI has the stack's 118H bytes to itself. An inner one has its own frame and two words below it, writes the return frame, and reads whether a body
-- runs.
abbrev pub first_forms : Forms
first_forms = private (OnStack 0x118 ∷ [])

-- an inner NMI's frame with the two words below it
abbrev pub inner_frame : Form
inner_frame = Stretch 0x38 0x38

-- the words that the last return reads
abbrev pub return_frame : Form
return_frame = Stretch 0x90 0x28

-- the word that tells whether a body runs
abbrev pub running_word : Form
running_word = Stretch 0x40 8

-- the windows of each choice
abbrev pub choice_forms : Choice → Forms
choice_forms FirstFromTask = first_forms
choice_forms FirstLow = first_forms
choice_forms FirstHigh = first_forms
choice_forms InnerInRepeat = private (inner_frame ∷ [])
choice_forms c = record { known = inner_frame ∷ return_frame ∷ running_word ∷ []; own = inner_frame ∷ return_frame ∷ [] }

-- what holds on each
abbrev pub choice_facts : Choice → List Fact
choice_facts FirstFromTask = says_ring 3 ∷ []
choice_facts FirstLow = says_ring 0 ∷ says_below frame_rip repeat_entry 1 ∷ says_same frame_rip (nlast_entry + 12) 0 ∷ says_same running 1 0 ∷ []
choice_facts FirstHigh =
    says_ring 0 ∷ says_below frame_rip repeat_entry 0 ∷ says_below frame_rip nbody_entry 0 ∷ says_same frame_rip (nlast_entry + 12) 0
    ∷ says_same running 1 0 ∷ []
choice_facts InnerLow = says_ring 0 ∷ says_below frame_rip repeat_entry 1 ∷ says_same frame_rip (nlast_entry + 12) 0 ∷ says_same running 1 1 ∷ []
choice_facts InnerHigh =
    says_ring 0 ∷ says_below frame_rip repeat_entry 0 ∷ says_below frame_rip nbody_entry 0 ∷ says_same frame_rip (nlast_entry + 12) 0
    ∷ says_same running 1 1 ∷ []
choice_facts InnerAtLast =
    says_ring 0 ∷ says_below frame_rip repeat_entry 0 ∷ says_below frame_rip nbody_entry 0 ∷ says_same frame_rip (nlast_entry + 12) 1 ∷ []
choice_facts InnerInRepeat = says_ring 0 ∷ says_below frame_rip repeat_entry 0 ∷ says_below frame_rip nbody_entry 1 ∷ []

-- its length
abbrev pub choice_steps : Choice → ℕ
choice_steps FirstFromTask = 44
choice_steps FirstLow = 54
choice_steps FirstHigh = 57
choice_steps InnerLow = 25
choice_steps InnerHigh = 28
choice_steps InnerAtLast = 25
choice_steps InnerInRepeat = 14

-- whether it reads that word
abbrev pub reads_running : Choice → Bool
reads_running FirstFromTask = false
reads_running InnerAtLast = false
reads_running InnerInRepeat = false
reads_running c = true

-- the word, where it is read
abbrev pub running_if : Bool → List Word
running_if true = from_top 0x40 (running ∷ [])
running_if false = []

-- whether the NMI is a first one
abbrev pub is_first : Choice → Bool
is_first FirstFromTask = true
is_first FirstLow = true
is_first FirstHigh = true
is_first c = false

-- CR2 is told where the body's beginning reads it
abbrev pub told_if : Bool → Option V
told_if true = Some fault_address
told_if false = None

-- a choice, from the delivery on
abbrev pub choosing : Choice → GsBase → Block
choosing c g =
    over (ground_over false kernel_text (choice_forms c) (choice_facts c)) nmi_lines
    (record (with_gs g nmi_entry (top_less 0x28) (from_top 0x28 interrupted ++ running_if (reads_running c))) { cr2 = told_if (is_first c) })
    (choice_steps c)

-- ---- REPEAT, up to its jump; an inner NMI may come, and writes the 38H bytes below the top

-- all but the 38H bytes below the top
abbrev pub repeat_forms : Forms
repeat_forms = private (Stretch 0x118 0xe0 ∷ [])

-- REPEAT, with RSP at the return frame
abbrev pub repeats : GsBase → Block
repeats g =
    over (ground_over false kernel_text repeat_forms []) repeat_lines
    (record (with_gs g repeat_entry (top_less 0x90) (from_top 0x68 interrupted)) { cr2 = Some fault_address }) 29

-- ---- NBODY, up to the load of the body's address

-- what a body of an NMI leaves to inner ones is none of its windows
abbrev pub span_forms : Forms
span_forms = private (body_forms NmiFrame)

-- bit 63 of the base, as NBODY tests it: the kernel's addresses have it
abbrev pub top_bit : V → V
top_bit gs = B OShr (B OShr gs (K 32)) (K 31)

-- what holds at each beginning
abbrev pub begin_facts : BodyBegin → List Fact
begin_facts FromTask = says_ring 3 ∷ says (top_bit other_gs) 0 ∷ []
begin_facts FromKernel = says_ring 0 ∷ says (top_bit (P gs_tag 0)) 1 ∷ []
begin_facts FromKernelInTaskGs = says_ring 0 ∷ says (top_bit other_gs) 0 ∷ []

-- the base in GS there
abbrev pub begin_gs : BodyBegin → GsBase
begin_gs FromKernel = KernelGs
begin_gs b = TaskGs

-- its length
abbrev pub begin_steps : BodyBegin → ℕ
begin_steps FromTask = 21
begin_steps FromKernel = 19
begin_steps FromKernelInTaskGs = 20

-- NBODY
abbrev pub begins : BodyBegin → Block
begins b =
    over (ground_over false kernel_text span_forms (begin_facts b)) nbody_lines
    (record (with_gs (begin_gs b) nbody_entry (top_less 0x118) (body_words NmiFrame)) { cr2 = Some fault_address }) (begin_steps b)

-- the first NMI's beginning goes on at NBODY
abbrev pub begin_of : Choice → GsBase → BodyBegin
begin_of FirstFromTask g = FromTask
begin_of c TaskGs = FromKernelInTaskGs
begin_of c KernelGs = FromKernel

-- the frame's variables as they are
abbrev pub frame_now : List V
frame_now = frame_of error frame_rip frame_cs frame_flags frame_rsp frame_ss information key running

-- RAX has been used, and the saved area has the registers as the NMI found them
abbrev pub to_nbody : List V
to_nbody =
    values (K 1 ∷ X 1 ∷ X 2 ∷ X 3 ∷ top_less 0x118 ∷ X 5 ∷ X 6 ∷ X 7 ∷ X 8 ∷ X 9 ∷ X 10 ∷ X 11 ∷ X 12 ∷ X 13 ∷ X 14 ∷ X 15 ∷ []) frame_now
    found_registers fault_address

-- whether GS was the kernel's, in R15, and CR2, in R14, for the exit; the vector's number in RDI
abbrev pub was_kernel : BodyBegin → ℕ
was_kernel FromKernel = 1
was_kernel b = 0

-- what the NMI interrupted
abbrev pub begin_origin : BodyBegin → Origin
begin_origin FromTask = UserCode
begin_origin b = KernelCode

-- the table of bodies
abbrev pub begin_table : BodyBegin → ℕ
begin_table FromTask = user_table
begin_table b = kernel_table

-- the variables of the next block
abbrev pub begin_values : BodyBegin → List V
begin_values b =
    values
    (K (ring (begin_origin b)) ∷ K (begin_table b) ∷ K (was_kernel b) ∷ X 3 ∷ top_less 0x118 ∷ X 5 ∷ K 0 ∷ K 2 ∷ K 0 ∷ K 0 ∷ K 0 ∷ K 0 ∷ K 0 ∷ K 0
    ∷ fault_address ∷ K (was_kernel b) ∷ [])
    frame_now same_saved fault_address

-- ---- the exit, up to the return: R15 tells whether the bases are exchanged, and R14 is CR2

-- what R15 tells
abbrev pub exit_facts : NmiExit → List Fact
exit_facts Exchanging = says_same (X 15) 0 1 ∷ []
exit_facts Staying = says_same (X 15) 0 0 ∷ []

-- the exchange is one instruction
abbrev pub exit_steps : NmiExit → ℕ
exit_steps Exchanging = 22
exit_steps Staying = 21

-- the exit
abbrev pub leaves : NmiExit → Block
leaves x =
    over (ground_over false kernel_text span_forms (exit_facts x)) exitn_lines (opens exitn_entry (top_less 0x118) (body_words NmiFrame)) (exit_steps x)

-- ---- each spot

-- the windows of each spot
abbrev pub nmi_forms : NmiSpot → Forms
nmi_forms (Choosing c g) = choice_forms c
nmi_forms (Repeats g) = repeat_forms
nmi_forms (Begins b) = span_forms
nmi_forms (Leaves x) = span_forms

-- the block of each spot
abbrev pub nmi_block : NmiSpot → Block
nmi_block (Choosing c g) = choosing c g
nmi_block (Repeats g) = repeats g
nmi_block (Begins b) = begins b
nmi_block (Leaves x) = leaves x
