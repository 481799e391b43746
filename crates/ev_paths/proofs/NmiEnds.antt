-- What the blocks of the NMI code under IDT come to: closed facts, each by computation.
use Rattle.std.proofs.Common.{false, refl}
use Rattle.ev_isa.specs.Spelling.{spelling, four_bytes}
use Rattle.ev_asm.specs.Assembly.{size, places, distance}
use Rattle.ev_symbolic.specs.Names.{other_gs}
use Rattle.ev_symbolic.specs.Openings.{gs_tag}
use Rattle.ev_symbolic.specs.Value.{P}
use Rattle.ev_blocks.specs.Shapes.{NmiFrame}
use Rattle.ev_paths.specs.Ends.{Enters}
use Rattle.ev_blocks.specs.Idt.{idt_places}
use Rattle.ev_blocks.specs.Nmi.{FirstFromTask, FirstLow, FirstHigh, InnerLow, InnerHigh, InnerAtLast, InnerInRepeat, GsBase, TaskGs, KernelGs, BodyBegin, FromTask, FromKernel, FromKernelInTaskGs, Exchanging, Staying, Begins, begin_of, begin_values, nmi_lines, repeat_lines, nbody_lines, exitn_lines, nmi_block}
use Rattle.ev_blocks.specs.Items.{AtTable, body_block}
use Rattle.ev_paths.specs.NmiEnds.{nmi_end, GoesOn, GoesBack, Redirects, Repeating, ReturnsLast, NmiEnds}

-- ---- a first NMI

from_task : GoesOn FirstFromTask TaskGs
unfolding nmi_end idt_places nmi_lines repeat_lines nbody_lines exitn_lines spelling four_bytes size places distance
from_task = record {
  enters = record {
    runs = refl;
    continues = record {
      joins = record { regs = refl; gs = refl; kernel_gs = refl; selector = refl; cr2 = refl; rsp0 = refl; words = refl; inside = refl };
      rip = refl;
      blocked = refl;
    };
  };
  frame = refl;
}

first_low : (g : GsBase) → GoesOn FirstLow g
unfolding nmi_end idt_places nmi_lines repeat_lines nbody_lines exitn_lines spelling four_bytes size places distance
first_low TaskGs = record {
  enters = record {
    runs = refl;
    continues = record {
      joins = record { regs = refl; gs = refl; kernel_gs = refl; selector = refl; cr2 = refl; rsp0 = refl; words = refl; inside = refl };
      rip = refl;
      blocked = refl;
    };
  };
  frame = refl;
}
first_low KernelGs = record {
  enters = record {
    runs = refl;
    continues = record {
      joins = record { regs = refl; gs = refl; kernel_gs = refl; selector = refl; cr2 = refl; rsp0 = refl; words = refl; inside = refl };
      rip = refl;
      blocked = refl;
    };
  };
  frame = refl;
}

first_high : (g : GsBase) → GoesOn FirstHigh g
unfolding nmi_end idt_places nmi_lines repeat_lines nbody_lines exitn_lines spelling four_bytes size places distance
first_high TaskGs = record {
  enters = record {
    runs = refl;
    continues = record {
      joins = record { regs = refl; gs = refl; kernel_gs = refl; selector = refl; cr2 = refl; rsp0 = refl; words = refl; inside = refl };
      rip = refl;
      blocked = refl;
    };
  };
  frame = refl;
}
first_high KernelGs = record {
  enters = record {
    runs = refl;
    continues = record {
      joins = record { regs = refl; gs = refl; kernel_gs = refl; selector = refl; cr2 = refl; rsp0 = refl; words = refl; inside = refl };
      rip = refl;
      blocked = refl;
    };
  };
  frame = refl;
}

-- ---- an inner NMI

inner_low : (g : GsBase) → Redirects InnerLow g
unfolding nmi_end idt_places nmi_lines repeat_lines nbody_lines exitn_lines spelling four_bytes size places distance
inner_low TaskGs = record {
  back = record { runs = refl; rip = refl; regs = refl; gs = refl; kernel_gs = refl; selector = refl; rsp0 = refl; blocked = refl; words = refl };
  frame = refl;
}
inner_low KernelGs = record {
  back = record { runs = refl; rip = refl; regs = refl; gs = refl; kernel_gs = refl; selector = refl; rsp0 = refl; blocked = refl; words = refl };
  frame = refl;
}

inner_high : (g : GsBase) → Redirects InnerHigh g
unfolding nmi_end idt_places nmi_lines repeat_lines nbody_lines exitn_lines spelling four_bytes size places distance
inner_high TaskGs = record {
  back = record { runs = refl; rip = refl; regs = refl; gs = refl; kernel_gs = refl; selector = refl; rsp0 = refl; blocked = refl; words = refl };
  frame = refl;
}
inner_high KernelGs = record {
  back = record { runs = refl; rip = refl; regs = refl; gs = refl; kernel_gs = refl; selector = refl; rsp0 = refl; blocked = refl; words = refl };
  frame = refl;
}

inner_at_last : (g : GsBase) → Redirects InnerAtLast g
unfolding nmi_end idt_places nmi_lines repeat_lines nbody_lines exitn_lines spelling four_bytes size places distance
inner_at_last TaskGs = record {
  back = record { runs = refl; rip = refl; regs = refl; gs = refl; kernel_gs = refl; selector = refl; rsp0 = refl; blocked = refl; words = refl };
  frame = refl;
}
inner_at_last KernelGs = record {
  back = record { runs = refl; rip = refl; regs = refl; gs = refl; kernel_gs = refl; selector = refl; rsp0 = refl; blocked = refl; words = refl };
  frame = refl;
}

inner_in_repeat : (g : GsBase) → GoesBack InnerInRepeat g
unfolding nmi_end idt_places nmi_lines repeat_lines nbody_lines exitn_lines spelling four_bytes size places distance
inner_in_repeat TaskGs =
    record { runs = refl; rip = refl; regs = refl; gs = refl; kernel_gs = refl; selector = refl; rsp0 = refl; blocked = refl; words = refl }
inner_in_repeat KernelGs =
    record { runs = refl; rip = refl; regs = refl; gs = refl; kernel_gs = refl; selector = refl; rsp0 = refl; blocked = refl; words = refl }

-- ---- REPEAT and NBODY

repeating_from_task : Repeating TaskGs FromTask
unfolding nmi_end idt_places nmi_lines repeat_lines nbody_lines exitn_lines spelling four_bytes size places distance
repeating_from_task = record {
  runs = refl;
  rip = refl;
  blocked = refl;
  joins = record { regs = refl; gs = refl; kernel_gs = refl; selector = refl; cr2 = refl; rsp0 = refl; words = refl; inside = refl };
  frame = refl;
}

repeating : (g : GsBase) → Repeating g (begin_of FirstLow g)
unfolding nmi_end idt_places nmi_lines repeat_lines nbody_lines exitn_lines spelling four_bytes size places distance
repeating TaskGs = record {
  runs = refl;
  rip = refl;
  blocked = refl;
  joins = record { regs = refl; gs = refl; kernel_gs = refl; selector = refl; cr2 = refl; rsp0 = refl; words = refl; inside = refl };
  frame = refl;
}
repeating KernelGs = record {
  runs = refl;
  rip = refl;
  blocked = refl;
  joins = record { regs = refl; gs = refl; kernel_gs = refl; selector = refl; cr2 = refl; rsp0 = refl; words = refl; inside = refl };
  frame = refl;
}

begins : (b : BodyBegin) → Enters (nmi_block (Begins b)) (nmi_end (Begins b)) (begin_values b) (body_block false NmiFrame AtTable)
unfolding nmi_end idt_places nmi_lines repeat_lines nbody_lines exitn_lines spelling four_bytes size places distance
begins FromTask = record {
  runs = refl;
  continues = record {
    joins = record { regs = refl; gs = refl; kernel_gs = refl; selector = refl; cr2 = tt; rsp0 = refl; words = refl; inside = refl };
    rip = refl;
    blocked = refl;
  };
}
begins FromKernel = record {
  runs = refl;
  continues = record {
    joins = record { regs = refl; gs = refl; kernel_gs = refl; selector = refl; cr2 = tt; rsp0 = refl; words = refl; inside = refl };
    rip = refl;
    blocked = refl;
  };
}
begins FromKernelInTaskGs = record {
  runs = refl;
  continues = record {
    joins = record { regs = refl; gs = refl; kernel_gs = refl; selector = refl; cr2 = tt; rsp0 = refl; words = refl; inside = refl };
    rip = refl;
    blocked = refl;
  };
}

-- ---- the exit

exchanging : ReturnsLast Exchanging other_gs (P gs_tag 0)
unfolding nmi_end idt_places nmi_lines repeat_lines nbody_lines exitn_lines spelling four_bytes size places distance
exchanging = record {
  back = record { runs = refl; rip = refl; regs = refl; gs = refl; kernel_gs = refl; selector = refl; rsp0 = refl; blocked = refl; words = refl };
  cr2 = refl;
  idle = refl;
}

staying : ReturnsLast Staying (P gs_tag 0) other_gs
unfolding nmi_end idt_places nmi_lines repeat_lines nbody_lines exitn_lines spelling four_bytes size places distance
staying = record {
  back = record { runs = refl; rip = refl; regs = refl; gs = refl; kernel_gs = refl; selector = refl; rsp0 = refl; blocked = refl; words = refl };
  cr2 = refl;
  idle = refl;
}

pub nmi_ends : NmiEnds
nmi_ends = record {
  from_task = from_task;
  first_low = first_low;
  first_high = first_high;
  inner_low = inner_low;
  inner_high = inner_high;
  inner_at_last = inner_at_last;
  inner_in_repeat = inner_in_repeat;
  repeating_from_task = repeating_from_task;
  repeating = repeating;
  begins = begins;
  exchanging = exchanging;
  staying = staying;
}
