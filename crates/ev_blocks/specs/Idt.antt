-- Blocks of the kernel's code under IDT, but for the NMI code: the entries of vectors and of SYSCALL, the code that they have in common, and exits.
use Rattle.std.specs.Prelude.{ℕ, pos, ◌+◌, ◌-◌, Bool, true, false, List, [], ◌∷◌, ◌++◌, ◌==◌, Option, Some, None}
use Rattle.ev_isa.specs.declared.instruction.Ins.{Ins}
use Rattle.ev_isa.specs.declared.instruction.Ins.TheVariants.{PushImm}
use Rattle.ev_listing.specs.AddressMap.{sys_entry, common_entry, exit_entry, nmi_entry, repeat_entry, nbody_entry, exitn_entry, nlast_entry, no_body, user_table, kernel_table}
use Rattle.ev_listing.specs.IdtCode.{none, sys, common, exit, nmi, repeat, nbody, exitn, nlast}
use Rattle.ev_listing.specs.Marks.{Listing, all_places}
use Rattle.ev_asm.specs.Assembly.{Places}
use Rattle.ev_symbolic.specs.Value.{M, V, K, P, X, B, OSub, Fact}
use Rattle.ev_symbolic.specs.State.{Word, SS, Line, Ground, Block, top_tag}
use Rattle.ev_symbolic.specs.Listed.{lines_in, lines_at}
use Rattle.ev_symbolic.specs.Openings.{word, words_from, at_base, gs_word}
use Rattle.ev_symbolic.specs.Names.{task_tag, next_task_tag, next_top_tag, stub_tag, error, frame_rip, frame_cs, frame_flags, frame_rsp, frame_ss, information, key, saved, running, fault_address, next_selector, next_gs, next_key, next_error, next_rip, next_cs, next_flags, next_rsp, next_ss, next_saved, says_zero, says_same, says_ring, top_less, opens, opens_in_user_gs}
use Rattle.ev_distances.specs.Form.{OnStack, InArea, OnTask, OnNextTask, OnNextStack}
use Rattle.ev_blocks.specs.Shapes.{Origin, UserCode, KernelCode, ring, IdtFrame, Forms, private, kernel_text, ground_over, over, area_of, from_top, interrupted, body_words, as_found, found_registers, at_load, place_in, frame_of, values}

-- ---- the listings without the 256 entries of vectors, which have no label: jumps have the same targets as in the whole

-- where a table names no body
abbrev pub no_listing : Listing
no_listing = record { address = no_body; lines = none }

-- the entry of SYSCALL
abbrev pub sys_listing : Listing
sys_listing = record { address = sys_entry; lines = sys }

-- the code in common
abbrev pub common_listing : Listing
common_listing = record { address = common_entry; lines = common }

-- the exit
abbrev pub exit_listing : Listing
exit_listing = record { address = exit_entry; lines = exit }

-- the NMI code
abbrev pub nmi_listing : Listing
nmi_listing = record { address = nmi_entry; lines = nmi }

-- its repetition
abbrev pub repeat_listing : Listing
repeat_listing = record { address = repeat_entry; lines = repeat }

-- the beginning of its body
abbrev pub nbody_listing : Listing
nbody_listing = record { address = nbody_entry; lines = nbody }

-- its exit
abbrev pub exitn_listing : Listing
exitn_listing = record { address = exitn_entry; lines = exitn }

-- its return
abbrev pub nlast_listing : Listing
nlast_listing = record { address = nlast_entry; lines = nlast }

-- all of these
abbrev pub idt_sections : List Listing
idt_sections =
    no_listing ∷ sys_listing ∷ common_listing ∷ exit_listing ∷ nmi_listing ∷ repeat_listing ∷ nbody_listing ∷ exitn_listing ∷ nlast_listing ∷ []

-- their labels' places
unfoldable pub idt_places : Places
idt_places = all_places idt_sections

-- the lines of the sections that a block runs through
unfoldable pub sys_lines : List Line
sys_lines = lines_in idt_places (sys_listing ∷ common_listing ∷ [])

-- those of the code in common alone
unfoldable pub common_lines : List Line
common_lines = lines_in idt_places (common_listing ∷ [])

-- those of the exit
unfoldable pub exit_lines : List Line
exit_lines = lines_in idt_places (exit_listing ∷ [])

-- ---- spots

-- how the words of RIP and RFLAGS compare with those of RCX and R11 in the saved area: as SYSRETQ needs them, or else
pub data IdtReturn : Type 0 where
  BySysret ByOtherRip ByOtherFlags : IdtReturn

-- an exit to the kernel, to the task, and to another task
pub data IdtExit : Type 0 where
  IdtToKernel : IdtExit
  IdtToTask IdtToNext : IdtReturn → IdtExit

-- The entry of vector v, with the error code that the processor pushed or without; SYSCALL's; the code in common, for a page fault or another event.
pub data IdtSpot : Type 0 where
  Stub : Origin → (has_error : Bool) → (v : ℕ) → IdtSpot
  Sys : IdtSpot
  Common : Origin → (page_fault : Bool) → IdtSpot
  Leaves : IdtExit → IdtSpot

-- ---- entries

-- its own stretch of stack alone
abbrev pub stack_forms : Forms
stack_forms = private (OnStack 0xb0 ∷ [])

-- the ground of an entry
abbrev pub entry_ground : List Fact → Ground
entry_ground facts = ground_over false kernel_text stack_forms facts

-- from a task the bases of GS aren't exchanged yet
abbrev pub arrives : Origin → ℕ → V → List Word → SS
arrives UserCode a rsp words = opens_in_user_gs a rsp words
arrives KernelCode a rsp words = opens a rsp words

-- what the processor pushed
abbrev pub pushed : Bool → List V
pushed true = error ∷ interrupted
pushed false = interrupted

-- how many bytes these are
abbrev pub pushed_bytes : Bool → ℕ
pushed_bytes true = 0x30
pushed_bytes false = 0x28

-- what the vector's entry pushes: an error code of 0 where the processor pushed none, and the vector
abbrev pub stub_code : Bool → ℕ → List Ins
stub_code true v = PushImm (pos v) ∷ []
stub_code false v = PushImm (pos 0) ∷ PushImm (pos v) ∷ []

-- how many instructions these are
abbrev pub stub_steps : Bool → ℕ
stub_steps true = 1
stub_steps false = 2

-- a page fault leaves its address in CR2, and no other event is told of CR2
abbrev pub told_cr2 : (page_fault : Bool) → Option V
told_cr2 true = Some fault_address
told_cr2 false = None

-- up to the jump to the code in common; the entry of vector 14 is that of page faults
abbrev pub stub : Origin → Bool → ℕ → Block
stub o has v =
    over (entry_ground []) (lines_at (at_base stub_tag 0) (stub_code has v))
    (record (arrives o 0 (top_less (pushed_bytes has)) (from_top (pushed_bytes has) (pushed has))) {
      rip = at_base stub_tag 0;
      cr2 = told_cr2 (v == 14);
    })
    (stub_steps has)

-- SYSCALL's entry: RSP is still the task's; it keeps that in the processor's area, and takes the top of the task's stack from there
abbrev pub sys_forms : Forms
sys_forms = record { known = OnStack 0xb0 ∷ InArea 8 0x10 ∷ []; own = OnStack 0xb0 ∷ InArea 8 8 ∷ [] }

-- the block, up to the load of the body's address
abbrev pub sys_block : Block
sys_block =
    over (ground_over false kernel_text sys_forms []) sys_lines (opens_in_user_gs sys_entry (X 4) (word (gs_word 0x10) (P top_tag 0) ∷ [])) 41

-- whether the key is that of page faults
abbrev pub is_page_fault : Bool → Fact
is_page_fault true = says_same key 14 1
is_page_fault false = says_same key 14 0

-- the length of each path of the code in common
abbrev pub common_steps : Origin → Bool → ℕ
common_steps UserCode true = 36
common_steps UserCode false = 35
common_steps KernelCode true = 34
common_steps KernelCode false = 33

-- its opening: RSP at the key
abbrev pub common_opening : Origin → SS
common_opening o = arrives o common_entry (top_less 0x38) (from_top 0x38 (key ∷ error ∷ interrupted))

-- the code in common reads CR2 of a page fault
abbrev pub common_block : Origin → Bool → Block
common_block o pf =
    over (entry_ground (says_ring (ring o) ∷ is_page_fault pf ∷ [])) common_lines (record (common_opening o) { cr2 = told_cr2 pf }) (common_steps o pf)

-- the table of bodies
abbrev pub table_of : Origin → ℕ
table_of UserCode = user_table
table_of KernelCode = kernel_table

-- the address that a page fault tells the body
abbrev pub told_address : Bool → V
told_address true = fault_address
told_address false = K 0

-- the frame's variables with this error code and key
abbrev pub frame_now : V → V → List V
frame_now e k = frame_of e frame_rip frame_cs frame_flags frame_rsp frame_ss information k running

-- the code in common begins with what a vector's entry has pushed: its number is the key, and the error code is 0 where the processor pushed none
abbrev pub told_error : Bool → V
told_error true = error
told_error false = K 0

-- the variables of the code in common, behind a vector's entry
abbrev pub stub_values : Bool → ℕ → List V
stub_values has v = values (as_found (top_less 0x38)) (frame_now (told_error has) (K v)) found_registers fault_address

-- those of the next block, behind the code in common
abbrev pub common_values : Origin → Bool → List V
common_values o pf =
    values (at_load 0xb0 (place_in (table_of o) key) (K (table_of o)) (X 2) error key (told_address pf)) (frame_now error key) found_registers fault_address

-- and behind SYSCALL's entry, where the frame is made of registers
abbrev pub sys_values : List V
sys_values =
    values (at_load 0xb0 (K (user_table + 0x800)) (K user_table) (X 2) (K 0) (K 0x100) (K 0))
    (frame_of (K 0) (X 1) (K 0x33) (X 11) (X 4) (K 0x2b) information (K 0x100) running) found_registers fault_address

-- ---- exits

-- the returns' instructions
abbrev pub sysretq_place : ℕ
sysretq_place = 0xffffffff810034dd

-- the return that restores all
abbrev pub iretq_place : ℕ
iretq_place = 0xffffffff81003501

-- the words of the next task's area, its words, and the processor's, where the mark is set: the exit reads and changes these
abbrev pub next_interrupted : List V
next_interrupted = next_rip ∷ next_cs ∷ next_flags ∷ next_rsp ∷ next_ss ∷ []

-- the next task's saved area and frame
abbrev pub next_words : List Word
next_words = words_from next_top_tag (M - 0xb0) (area_of next_saved ++ next_key ∷ next_error ∷ next_interrupted)

-- with the mark set, the words that name the two tasks, and the next one's selector
abbrev pub switch_words : List Word
switch_words =
    word (gs_word 0x20) (K 1) ∷ word (gs_word 0x18) (P task_tag 0) ∷ word (at_base task_tag 0) (P next_task_tag 0)
    ∷ word (at_base next_task_tag 8) (P next_top_tag 0) ∷ word (at_base next_task_tag 0x10) next_selector ∷ next_words

-- the forms of all these
abbrev pub switch_forms : Forms
switch_forms = record {
  known = OnStack 0xb0 ∷ InArea 0x10 0x18 ∷ InArea 0x408 8 ∷ OnTask 0x18 ∷ OnNextTask 0x18 ∷ OnNextStack 0xb0 ∷ [];
  own = InArea 0x10 0x18 ∷ InArea 0x408 8 ∷ [];
}

-- the windows of each exit
abbrev pub exit_forms : IdtExit → Forms
exit_forms IdtToKernel = stack_forms
exit_forms (IdtToTask r) = record { known = OnStack 0xb0 ∷ InArea 0x20 8 ∷ []; own = OnStack 0xb0 ∷ [] }
exit_forms (IdtToNext r) = switch_forms

-- how the values of RCX and R11 compare with those of RIP and RFLAGS
abbrev pub return_facts : IdtReturn → V → V → V → V → List Fact
return_facts BySysret rcx rip r11 flags = says_zero (B OSub rcx rip) 1 ∷ says_zero (B OSub r11 flags) 1 ∷ []
return_facts ByOtherRip rcx rip r11 flags = says_zero (B OSub rcx rip) 0 ∷ []
return_facts ByOtherFlags rcx rip r11 flags = says_zero (B OSub rcx rip) 1 ∷ says_zero (B OSub r11 flags) 0 ∷ []

-- the ground of each exit: a switch loads the next task's descriptor
abbrev pub exit_ground : IdtExit → Ground
exit_ground IdtToKernel = ground_over false kernel_text stack_forms (says_ring 0 ∷ [])
exit_ground (IdtToTask r) =
    ground_over false kernel_text (exit_forms (IdtToTask r)) (says_ring 3 ∷ return_facts r (saved 1) frame_rip (saved 11) frame_flags)
exit_ground (IdtToNext r) =
    record (ground_over false kernel_text switch_forms (says_ring 3 ∷ return_facts r (next_saved 1) next_rip (next_saved 11) next_flags)) {
      descriptors = record { value = next_selector; selector = next_selector; base = next_gs } ∷ [];
    }

-- the words that it begins with
abbrev pub exit_words : IdtExit → List Word
exit_words IdtToKernel = body_words IdtFrame
exit_words (IdtToTask r) = body_words IdtFrame ++ word (gs_word 0x20) (K 0) ∷ []
exit_words (IdtToNext r) = body_words IdtFrame ++ switch_words

-- the length of an exit without a switch
abbrev pub return_steps : IdtReturn → ℕ
return_steps BySysret = 31
return_steps ByOtherRip = 27
return_steps ByOtherFlags = 31

-- a switch takes fourteen instructions more
abbrev pub exit_steps : IdtExit → ℕ
exit_steps IdtToKernel = 19
exit_steps (IdtToTask r) = return_steps r
exit_steps (IdtToNext r) = return_steps r + 14

-- an exit
abbrev pub leaves : IdtExit → Block
leaves x = over (exit_ground x) exit_lines (opens exit_entry (top_less 0xb0) (exit_words x)) (exit_steps x)

-- ---- each spot

-- the windows of each spot
abbrev pub idt_forms : IdtSpot → Forms
idt_forms Sys = sys_forms
idt_forms (Leaves x) = exit_forms x
idt_forms s = stack_forms

-- the block of each spot
abbrev pub idt_block : IdtSpot → Block
idt_block (Stub o has v) = stub o has v
idt_block Sys = sys_block
idt_block (Common o pf) = common_block o pf
idt_block (Leaves x) = leaves x
