-- Blocks of the kernel's code under FRED: entries from a task and from the kernel, and exits.
use Rattle.std.specs.Prelude.{ℕ, ◌+◌, ◌-◌, true, List, [], ◌∷◌, ◌++◌}
use Rattle.ev_listing.specs.AddressMap.{fred_page, user_table, kernel_table}
use Rattle.ev_listing.specs.FredCode.{fred_listings}
use Rattle.ev_symbolic.specs.Value.{M, V, K, P, X, B, OAdd, OSub, OAnd, OShl, OShr, Fact}
use Rattle.ev_symbolic.specs.State.{Word, SS, Line, Ground, Block}
use Rattle.ev_symbolic.specs.Listed.{lines_of}
use Rattle.ev_symbolic.specs.Openings.{word, words_from, at_base, gs_word}
use Rattle.ev_symbolic.specs.Names.{task_tag, next_task_tag, next_top_tag, error, frame_rip, frame_cs, frame_flags, frame_rsp, frame_ss, information, key, running, fault_address, next_selector, next_gs, next_error, next_rip, next_cs, next_flags, next_rsp, next_ss, next_saved, says_same, says_ring, top_less, opens}
use Rattle.ev_distances.specs.Form.{OnStack, InArea, OnTask, OnNextTask, OnNextStack}
use Rattle.ev_blocks.specs.Shapes.{Origin, UserCode, KernelCode, ring, FredFrame, Forms, private, kernel_text, ground_over, over, area_of, from_top, fred_frame, body_words, found_registers, called_registers, at_load, place_in, frame_of, values}

-- the lines of FRED's code
unfoldable pub fred_lines : List Line
fred_lines = lines_of fred_listings

-- Which way the entry from a task goes: SYSCALL, which is event type 7; INT 3 and other INT n, of event type 4; and all other events.
pub data FredWay : Type 0 where
  ByCall ByInt3 ByIntN ByOther : FredWay

-- an exit to the kernel, to the task, and to another task
pub data FredExit : Type 0 where
  FredToKernel FredToTask FredToNext : FredExit

-- From the delivery on, from a task or from the kernel; and the exits, of activations of NMIs and of all others.
pub data FredSpot : Type 0 where
  FromUser : FredWay → FredSpot
  FromKernel : FredSpot
  Leaves : FredExit → FredSpot
  LeavesNmi : Origin → FredSpot

-- ---- entries

-- the type and the vector of the event, in the frame's SS word
abbrev pub event_type : V
event_type = B OAnd (B OShr frame_ss (K 48)) (K 15)

-- the event's vector
abbrev pub event_vector : V
event_vector = B OAnd (B OShr frame_ss (K 32)) (K 255)

-- what holds on each way
abbrev pub way_facts : FredWay → List Fact
way_facts ByCall = says_same event_type 7 1 ∷ []
way_facts ByInt3 = says_same event_type 7 0 ∷ says_same event_type 4 1 ∷ says_same event_vector 3 1 ∷ []
way_facts ByIntN = says_same event_type 7 0 ∷ says_same event_type 4 1 ∷ says_same event_vector 3 0 ∷ []
way_facts ByOther = says_same event_type 7 0 ∷ says_same event_type 4 0 ∷ []

-- to the load of the body's address
abbrev pub way_steps : FredWay → ℕ
way_steps ByCall = 44
way_steps ByInt3 = 42
way_steps ByIntN = 50
way_steps ByOther = 40

-- its own stretch of stack alone
abbrev pub stack_forms : Forms
stack_forms = private (OnStack 0xc0 ∷ [])

-- the ground of an entry
abbrev pub entry_ground : List Fact → Ground
entry_ground facts = ground_over true kernel_text stack_forms facts

-- the opening behind a delivery: RSP at the frame
abbrev pub at_delivery : ℕ → SS
at_delivery a = opens a (top_less 0x40) (from_top 0x40 fred_frame)

-- from a task
abbrev pub from_user : FredWay → Block
from_user w = over (entry_ground (way_facts w)) fred_lines (at_delivery fred_page) (way_steps w)

-- from the kernel
abbrev pub from_kernel : Block
from_kernel = over (entry_ground []) fred_lines (at_delivery (fred_page + 0x100)) 33

-- what the load finds: the place of the body's address, the table, and what the event tells the body
abbrev pub way_registers : FredWay → List V
way_registers ByCall = at_load 0xc0 (K (user_table + 0x800)) (K user_table) frame_ss error (K 0x100) information
way_registers ByIntN =
    at_load 0xc0 (K (user_table + 0x68)) (K user_table) frame_ss (B OAdd (B OShl event_vector (K 3)) (K 2)) (K 13) information
way_registers w = at_load 0xc0 (place_in user_table event_vector) (K user_table) frame_ss error event_vector information

-- INT n is the #GP of an instruction that isn't passed
abbrev pub way_rip : FredWay → V
way_rip ByIntN = B OSub frame_rip (K 2)
way_rip w = frame_rip

-- what the saved area has
abbrev pub way_area : FredWay → List V
way_area ByCall = called_registers frame_rip frame_flags
way_area w = found_registers

-- the frame's variables, where RIP may have changed
abbrev pub frame_at : V → List V
frame_at rip = frame_of error rip frame_cs frame_flags frame_rsp frame_ss information key running

-- the variables of the next block, behind an entry from a task
abbrev pub way_values : FredWay → List V
way_values w = values (way_registers w) (frame_at (way_rip w)) (way_area w) fault_address

-- and behind that from the kernel
abbrev pub kernel_values : List V
kernel_values = values (at_load 0xc0 (place_in kernel_table event_vector) (K kernel_table) (X 2) error event_vector information) (frame_at frame_rip)
    found_registers fault_address

-- ---- exits

-- where FEXIT begins
abbrev pub fexit : ℕ
fexit = 0xffffffff81000379

-- where FEXITN begins
abbrev pub fexitn : ℕ
fexitn = 0xffffffff8100044c

-- the returns' instructions
abbrev pub eretu_place : ℕ
eretu_place = 0xffffffff81000426

-- the return to the kernel
abbrev pub erets_place : ℕ
erets_place = 0xffffffff81000448

-- the words of the next task's area and frame, its words, and the processor's, where the mark is set: the exit reads and changes these
abbrev pub next_interrupted : List V
next_interrupted = next_rip ∷ next_cs ∷ next_flags ∷ next_rsp ∷ next_ss ∷ []

-- the next task's saved area, and the words of its frame but the last two
abbrev pub next_words : List Word
next_words = words_from next_top_tag (M - 0xc0) (area_of next_saved) ++ words_from next_top_tag (M - 0x40) (next_error ∷ next_interrupted)

-- with the mark set, the words that name the two tasks, and the next one's selector
abbrev pub switch_words : List Word
switch_words =
    word (gs_word 0x20) (K 1) ∷ word (gs_word 0x18) (P task_tag 0) ∷ word (at_base task_tag 0) (P next_task_tag 0)
    ∷ word (at_base next_task_tag 8) (P next_top_tag 0) ∷ word (at_base next_task_tag 0x10) next_selector ∷ next_words

-- the forms of all these
abbrev pub switch_forms : Forms
switch_forms = record {
  known = OnStack 0xc0 ∷ InArea 0x10 0x18 ∷ OnTask 0x18 ∷ OnNextTask 0x18 ∷ OnNextStack 0xc0 ∷ [];
  own = InArea 0x10 0x18 ∷ [];
}

-- the windows of each exit
abbrev pub exit_forms : FredExit → Forms
exit_forms FredToKernel = stack_forms
exit_forms FredToTask = record { known = OnStack 0xc0 ∷ InArea 0x20 8 ∷ []; own = OnStack 0xc0 ∷ [] }
exit_forms FredToNext = switch_forms

-- and its ground: a switch loads the next task's descriptor and sets RSP of level 0
abbrev pub exit_ground : FredExit → Ground
exit_ground FredToNext = record (ground_over true kernel_text switch_forms (says_ring 3 ∷ [])) {
  descriptors = record { value = next_selector; selector = next_selector; base = next_gs } ∷ [];
  tops = P next_top_tag 0 ∷ [];
}
exit_ground FredToTask = ground_over true kernel_text (exit_forms FredToTask) (says_ring 3 ∷ [])
exit_ground FredToKernel = ground_over true kernel_text (exit_forms FredToKernel) (says_ring 0 ∷ [])

-- the words that it begins with
abbrev pub exit_words : FredExit → List Word
exit_words FredToKernel = body_words FredFrame
exit_words FredToTask = body_words FredFrame ++ word (gs_word 0x20) (K 0) ∷ []
exit_words FredToNext = body_words FredFrame ++ switch_words

-- its length
abbrev pub exit_steps : FredExit → ℕ
exit_steps FredToKernel = 19
exit_steps FredToTask = 22
exit_steps FredToNext = 37

-- an exit
abbrev pub leaves : FredExit → Block
leaves x = over (exit_ground x) fred_lines (opens fexit (top_less 0xc0) (exit_words x)) (exit_steps x)

-- the exit of an NMI's activation
abbrev pub nmi_exit_steps : Origin → ℕ
nmi_exit_steps UserCode = 19
nmi_exit_steps KernelCode = 20

-- that of an NMI's activation: it never switches
abbrev pub leaves_nmi : Origin → Block
leaves_nmi o =
    over (ground_over true kernel_text stack_forms (says_ring (ring o) ∷ [])) fred_lines (opens fexitn (top_less 0xc0) (body_words FredFrame))
    (nmi_exit_steps o)

-- ---- each spot

-- the windows of each spot
abbrev pub fred_forms : FredSpot → Forms
fred_forms (Leaves x) = exit_forms x
fred_forms s = stack_forms

-- the block of each spot
abbrev pub fred_block : FredSpot → Block
fred_block (FromUser w) = from_user w
fred_block FromKernel = from_kernel
fred_block (Leaves x) = leaves x
fred_block (LeavesNmi o) = leaves_nmi o
