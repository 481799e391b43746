-- What the blocks of IDT's code come to: closed facts, each by computation; the vector of an entry is any number.
use Rattle.std.proofs.Common.{◌≡◌, ℕ, Bool, true, false, Option, None, refl, sym, ap, subst}
use Rattle.std.specs.Prelude.{◌==◌, ◌∷◌}
use Rattle.ev_isa.specs.Spelling.{spelling, four_bytes}
use Rattle.ev_asm.specs.Assembly.{size, places, distance}
use Rattle.ev_symbolic.specs.Value.{V}
use Rattle.ev_symbolic.specs.State.{Block}
use Rattle.ev_blocks.specs.Shapes.{Origin, UserCode, KernelCode, IdtFrame}
use Rattle.ev_paths.specs.Ends.{TellsNoCr2, HasWords, next_names, Enters}
use Rattle.ev_symbolic.specs.Value.{P}
use Rattle.ev_symbolic.specs.Openings.{word, gs_word}
use Rattle.ev_symbolic.specs.Names.{next_top_tag}
use Rattle.ev_blocks.specs.Idt.{IdtReturn, BySysret, IdtToNext, Leaves, ByOtherRip, ByOtherFlags, Stub, Sys, Common, idt_places, sys_lines, common_lines, exit_lines, told_cr2, sys_values, common_values, idt_block}
use Rattle.ev_blocks.specs.Items.{AtTable, body_block}
use Rattle.ev_paths.specs.IdtEnds.{idt_end, EntersCommon, IdtEnters, IretToKernel, IretToTask, IretToNext, SysretToTask, SysretToNext, IdtReturns, IdtTellsNoCr2}

-- ---- entries

stub_enters : (o : Origin) (has_error : Bool) (v : ℕ) (page_fault : Bool) → (v == 14) ≡ page_fault → EntersCommon o has_error v page_fault
unfolding idt_end idt_places sys_lines common_lines exit_lines spelling four_bytes size places distance
stub_enters UserCode true v true q = record {
  runs = refl;
  rip = refl;
  blocked = refl;
  joins = record { regs = refl; gs = refl; kernel_gs = refl; selector = refl; cr2 = ap told_cr2 q; rsp0 = refl; words = refl; inside = refl };
}
stub_enters UserCode true v false q = record {
  runs = refl;
  rip = refl;
  blocked = refl;
  joins = record { regs = refl; gs = refl; kernel_gs = refl; selector = refl; cr2 = tt; rsp0 = refl; words = refl; inside = refl };
}
stub_enters UserCode false v true q = record {
  runs = refl;
  rip = refl;
  blocked = refl;
  joins = record { regs = refl; gs = refl; kernel_gs = refl; selector = refl; cr2 = ap told_cr2 q; rsp0 = refl; words = refl; inside = refl };
}
stub_enters UserCode false v false q = record {
  runs = refl;
  rip = refl;
  blocked = refl;
  joins = record { regs = refl; gs = refl; kernel_gs = refl; selector = refl; cr2 = tt; rsp0 = refl; words = refl; inside = refl };
}
stub_enters KernelCode true v true q = record {
  runs = refl;
  rip = refl;
  blocked = refl;
  joins = record { regs = refl; gs = refl; kernel_gs = refl; selector = refl; cr2 = ap told_cr2 q; rsp0 = refl; words = refl; inside = refl };
}
stub_enters KernelCode true v false q = record {
  runs = refl;
  rip = refl;
  blocked = refl;
  joins = record { regs = refl; gs = refl; kernel_gs = refl; selector = refl; cr2 = tt; rsp0 = refl; words = refl; inside = refl };
}
stub_enters KernelCode false v true q = record {
  runs = refl;
  rip = refl;
  blocked = refl;
  joins = record { regs = refl; gs = refl; kernel_gs = refl; selector = refl; cr2 = ap told_cr2 q; rsp0 = refl; words = refl; inside = refl };
}
stub_enters KernelCode false v false q = record {
  runs = refl;
  rip = refl;
  blocked = refl;
  joins = record { regs = refl; gs = refl; kernel_gs = refl; selector = refl; cr2 = tt; rsp0 = refl; words = refl; inside = refl };
}

call_enters : Enters (idt_block Sys) (idt_end Sys) sys_values (body_block false IdtFrame AtTable)
unfolding idt_end idt_places sys_lines common_lines exit_lines spelling four_bytes size places distance
call_enters = record {
  runs = refl;
  continues = record {
    joins = record { regs = refl; gs = refl; kernel_gs = refl; selector = refl; cr2 = tt; rsp0 = refl; words = refl; inside = refl };
    rip = refl;
    blocked = refl;
  };
}

common_enters : (o : Origin) (page_fault : Bool)
    → Enters (idt_block (Common o page_fault)) (idt_end (Common o page_fault)) (common_values o page_fault) (body_block false IdtFrame AtTable)
unfolding idt_end idt_places sys_lines common_lines exit_lines spelling four_bytes size places distance
common_enters UserCode true = record {
  runs = refl;
  continues = record {
    joins = record { regs = refl; gs = refl; kernel_gs = refl; selector = refl; cr2 = tt; rsp0 = refl; words = refl; inside = refl };
    rip = refl;
    blocked = refl;
  };
}
common_enters UserCode false = record {
  runs = refl;
  continues = record {
    joins = record { regs = refl; gs = refl; kernel_gs = refl; selector = refl; cr2 = tt; rsp0 = refl; words = refl; inside = refl };
    rip = refl;
    blocked = refl;
  };
}
common_enters KernelCode true = record {
  runs = refl;
  continues = record {
    joins = record { regs = refl; gs = refl; kernel_gs = refl; selector = refl; cr2 = tt; rsp0 = refl; words = refl; inside = refl };
    rip = refl;
    blocked = refl;
  };
}
common_enters KernelCode false = record {
  runs = refl;
  continues = record {
    joins = record { regs = refl; gs = refl; kernel_gs = refl; selector = refl; cr2 = tt; rsp0 = refl; words = refl; inside = refl };
    rip = refl;
    blocked = refl;
  };
}

pub idt_enters : IdtEnters
idt_enters = record { stub = stub_enters; call = call_enters; common = common_enters }

-- ---- exits

to_kernel : IretToKernel
unfolding idt_end idt_places sys_lines common_lines exit_lines spelling four_bytes size places distance
to_kernel = record { runs = refl; rip = refl; regs = refl; gs = refl; kernel_gs = refl; selector = refl; rsp0 = refl; blocked = refl; words = refl }

to_task : SysretToTask
unfolding idt_end idt_places sys_lines common_lines exit_lines spelling four_bytes size places distance
to_task = record { runs = refl; rip = refl; regs = refl; gs = refl; kernel_gs = refl; selector = refl; rsp0 = refl; blocked = refl; words = refl }

to_task_by_rip : IretToTask ByOtherRip
unfolding idt_end idt_places sys_lines common_lines exit_lines spelling four_bytes size places distance
to_task_by_rip = record { runs = refl; rip = refl; regs = refl; gs = refl; kernel_gs = refl; selector = refl; rsp0 = refl; blocked = refl; words = refl }

to_task_by_flags : IretToTask ByOtherFlags
unfolding idt_end idt_places sys_lines common_lines exit_lines spelling four_bytes size places distance
to_task_by_flags = record { runs = refl; rip = refl; regs = refl; gs = refl; kernel_gs = refl; selector = refl; rsp0 = refl; blocked = refl; words = refl }

to_next : SysretToNext
unfolding idt_end idt_places sys_lines common_lines exit_lines spelling four_bytes size places distance
to_next = record { runs = refl; rip = refl; regs = refl; gs = refl; kernel_gs = refl; selector = refl; rsp0 = refl; blocked = refl; words = refl }

to_next_by_rip : IretToNext ByOtherRip
unfolding idt_end idt_places sys_lines common_lines exit_lines spelling four_bytes size places distance
to_next_by_rip = record { runs = refl; rip = refl; regs = refl; gs = refl; kernel_gs = refl; selector = refl; rsp0 = refl; blocked = refl; words = refl }

to_next_by_flags : IretToNext ByOtherFlags
unfolding idt_end idt_places sys_lines common_lines exit_lines spelling four_bytes size places distance
to_next_by_flags = record { runs = refl; rip = refl; regs = refl; gs = refl; kernel_gs = refl; selector = refl; rsp0 = refl; blocked = refl; words = refl }

switched : (r : IdtReturn) → HasWords (idt_end (Leaves (IdtToNext r))) (word (gs_word 0x408) (P next_top_tag 0) ∷ next_names)
unfolding idt_end idt_places sys_lines common_lines exit_lines spelling four_bytes size places distance
switched BySysret = refl
switched ByOtherRip = refl
switched ByOtherFlags = refl

pub idt_returns : IdtReturns
idt_returns = record {
  to_kernel = to_kernel;
  to_task = to_task;
  to_task_by_rip = to_task_by_rip;
  to_task_by_flags = to_task_by_flags;
  to_next = to_next;
  to_next_by_rip = to_next_by_rip;
  to_next_by_flags = to_next_by_flags;
  switched = switched;
}

-- ---- CR2

-- the block of a vector's entry, told this of CR2
abbrev told_of : Origin → Bool → ℕ → Option V → Block
told_of o has v t = record (idt_block (Stub o has v)) { opening = record ((idt_block (Stub o has v)).opening) { cr2 = t } }

nothing_told : (o : Origin) (has_error : Bool) (v : ℕ) → TellsNoCr2 (told_of o has_error v None)
unfolding spelling four_bytes
nothing_told UserCode true v = refl
nothing_told UserCode false v = refl
nothing_told KernelCode true v = refl
nothing_told KernelCode false v = refl

stub_untold : (o : Origin) (has_error : Bool) (v : ℕ) → (v == 14) ≡ false → TellsNoCr2 (idt_block (Stub o has_error v))
stub_untold o has v q = subst (λ (t : Option V). TellsNoCr2 (told_of o has v t)) (sym (ap told_cr2 q)) (nothing_told o has v)

call_untold : TellsNoCr2 (idt_block Sys)
unfolding idt_end idt_places sys_lines common_lines exit_lines spelling four_bytes size places distance
call_untold = refl

common_untold : (o : Origin) → TellsNoCr2 (idt_block (Common o false))
unfolding idt_end idt_places sys_lines common_lines exit_lines spelling four_bytes size places distance
common_untold UserCode = refl
common_untold KernelCode = refl

pub idt_untold : IdtTellsNoCr2
idt_untold = (stub_untold, call_untold, common_untold)
