-- What the blocks of IDT's code come to.
use Rattle.std.specs.Prelude.{◌≡◌, ℕ, ◌-◌, ◌==◌, Bool, true, false, ◌∷◌, Some}
use Rattle.ev_symbolic.specs.Value.{M, P}
use Rattle.ev_symbolic.specs.State.{SS}
use Rattle.ev_symbolic.specs.Run.{brun}
use Rattle.ev_symbolic.specs.Join.{Joins}
use Rattle.ev_symbolic.specs.Openings.{gs_tag, gs_word, word, at_base, words_from}
use Rattle.ev_symbolic.specs.Names.{stub_tag, next_top_tag, saved, frame_rsp, next_rsp, next_saved, other_gs, gs_selector, level_rsp, next_selector, next_gs, top_less}
use Rattle.ev_blocks.specs.Shapes.{Origin, IdtFrame, registers_of, interrupted_words}
use Rattle.ev_paths.specs.Ends.{end_of, TellsNoCr2, HasWords, next_names, Enters, Returns}
use Rattle.ev_blocks.specs.Idt.{IdtReturn, BySysret, ByOtherRip, ByOtherFlags, IdtToKernel, IdtToTask, IdtToNext, IdtSpot, Stub, Sys, Common, Leaves, stub_values, sys_values, common_values, next_interrupted, sysretq_place, iretq_place, idt_block}
use Rattle.ev_blocks.specs.Items.{AtTable, body_block}

-- the state that the block of a spot comes to
unfoldable pub idt_end : IdtSpot → SS
idt_end s = end_of (idt_block s)

-- the pushes of a vector's entry take so many bytes
abbrev pub stub_bytes : Bool → ℕ
stub_bytes true = 5
stub_bytes false = 10

-- the entry of a vector comes to its jump, which opens the code in common for a page fault or another event
pub record EntersCommon (o : Origin) (has_error : Bool) (v : ℕ) (page_fault : Bool) : Type 0 where
  pub runs : brun (idt_block (Stub o has_error v)) (idt_block (Stub o has_error v)).steps ≡ Some (idt_end (Stub o has_error v))
  pub rip : (idt_end (Stub o has_error v)).rip ≡ at_base stub_tag (stub_bytes has_error)
  pub blocked : (idt_end (Stub o has_error v)).blocked ≡ false
  pub joins : Joins (idt_end (Stub o has_error v)) (stub_values has_error v) (idt_block (Common o page_fault)).ground.known
      (idt_block (Common o page_fault)).opening

-- each entry comes to the next block
pub record IdtEnters : Type 0 where
  pub stub : (o : Origin) (has_error : Bool) (v : ℕ) (page_fault : Bool) → (v == 14) ≡ page_fault → EntersCommon o has_error v page_fault
  pub call : Enters (idt_block Sys) (idt_end Sys) sys_values (body_block false IdtFrame AtTable)
  pub common : (o : Origin) (page_fault : Bool)
      → Enters (idt_block (Common o page_fault)) (idt_end (Common o page_fault)) (common_values o page_fault) (body_block false IdtFrame AtTable)

-- by IRETQ to the kernel: RSP is at the five words that it reads
abbrev pub IretToKernel : Type 0
IretToKernel =
    Returns (idt_block (Leaves IdtToKernel)) (idt_end (Leaves IdtToKernel)) iretq_place (registers_of saved (top_less 0x28)) (P gs_tag 0) other_gs
    gs_selector level_rsp (interrupted_words IdtFrame)

-- by IRETQ to a task, with the bases of GS exchanged
abbrev pub IretToTask : IdtReturn → Type 0
IretToTask r =
    Returns (idt_block (Leaves (IdtToTask r))) (idt_end (Leaves (IdtToTask r))) iretq_place (registers_of saved (top_less 0x28)) other_gs (P gs_tag 0)
    gs_selector level_rsp (interrupted_words IdtFrame)

-- by IRETQ to another task
abbrev pub IretToNext : IdtReturn → Type 0
IretToNext r =
    Returns (idt_block (Leaves (IdtToNext r))) (idt_end (Leaves (IdtToNext r))) iretq_place (registers_of next_saved (P next_top_tag (M - 0x28))) next_gs
    (P gs_tag 0) next_selector level_rsp (words_from next_top_tag (M - 0x28) next_interrupted)

-- by SYSRETQ, which reads no word: RSP is the task's already
abbrev pub SysretToTask : Type 0
SysretToTask =
    Returns (idt_block (Leaves (IdtToTask BySysret))) (idt_end (Leaves (IdtToTask BySysret))) sysretq_place (registers_of saved frame_rsp) other_gs
    (P gs_tag 0) gs_selector level_rsp (interrupted_words IdtFrame)

-- by SYSRETQ to another task
abbrev pub SysretToNext : Type 0
SysretToNext =
    Returns (idt_block (Leaves (IdtToNext BySysret))) (idt_end (Leaves (IdtToNext BySysret))) sysretq_place (registers_of next_saved next_rsp) next_gs
    (P gs_tag 0) next_selector level_rsp (words_from next_top_tag (M - 0x28) next_interrupted)

-- each exit comes to its return
pub record IdtReturns : Type 0 where
  pub to_kernel : IretToKernel
  pub to_task : SysretToTask
  pub to_task_by_rip : IretToTask ByOtherRip
  pub to_task_by_flags : IretToTask ByOtherFlags
  pub to_next : SysretToNext
  pub to_next_by_rip : IretToNext ByOtherRip
  pub to_next_by_flags : IretToNext ByOtherFlags
  pub switched : (r : IdtReturn) → HasWords (idt_end (Leaves (IdtToNext r))) (word (gs_word 0x408) (P next_top_tag 0) ∷ next_names)

-- all blocks but the entry of page faults and their code in common are told of no CR2
abbrev pub IdtTellsNoCr2 : Type 0
IdtTellsNoCr2 = ((o : Origin) (has_error : Bool) (v : ℕ) → (v == 14) ≡ false → TellsNoCr2 (idt_block (Stub o has_error v))) × TellsNoCr2 (idt_block Sys)
    × ((o : Origin) → TellsNoCr2 (idt_block (Common o false)))
