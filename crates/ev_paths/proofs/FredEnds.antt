-- What the blocks of FRED's code come to: closed facts, each by computation.
use Rattle.std.proofs.Common.{◌≡◌, true, Some, refl}
use Rattle.ev_isa.specs.Spelling.{spelling, four_bytes}
use Rattle.ev_asm.specs.Assembly.{size, places, distance}
use Rattle.ev_listing.specs.FredCode.{fred_listings}
use Rattle.ev_symbolic.specs.Run.{brun}
use Rattle.ev_blocks.specs.Shapes.{FredFrame, UserCode, KernelCode}
use Rattle.ev_paths.specs.Ends.{HasWords, next_names, Continues}
use Rattle.ev_blocks.specs.Fred.{FredWay, ByCall, ByInt3, ByIntN, ByOther, FredToKernel, FredToTask, FredToNext, FromUser, FromKernel, Leaves, LeavesNmi, way_values, kernel_values, fred_lines, fred_block, eretu_place, erets_place}
use Rattle.ev_blocks.specs.Items.{AtTable, body_block}
use Rattle.ev_paths.specs.FredEnds.{fred_end, FredEnters, ReturnsAt, ReturnsToNext, FredReturns, FredTellsNoCr2}

-- ---- entries

way_runs : (w : FredWay) → brun (fred_block (FromUser w)) (fred_block (FromUser w)).steps ≡ Some (fred_end (FromUser w))
unfolding fred_end fred_lines fred_listings spelling four_bytes size places distance
way_runs ByCall = refl
way_runs ByInt3 = refl
way_runs ByIntN = refl
way_runs ByOther = refl

way_continues : (w : FredWay) → Continues (fred_end (FromUser w)) (way_values w) (body_block true FredFrame AtTable)
unfolding fred_end fred_lines fred_listings spelling four_bytes size places distance
way_continues ByCall = record {
  joins = record { regs = refl; gs = refl; kernel_gs = refl; selector = refl; cr2 = tt; rsp0 = refl; words = refl; inside = refl };
  rip = refl;
  blocked = refl;
}
way_continues ByInt3 = record {
  joins = record { regs = refl; gs = refl; kernel_gs = refl; selector = refl; cr2 = tt; rsp0 = refl; words = refl; inside = refl };
  rip = refl;
  blocked = refl;
}
way_continues ByIntN = record {
  joins = record { regs = refl; gs = refl; kernel_gs = refl; selector = refl; cr2 = tt; rsp0 = refl; words = refl; inside = refl };
  rip = refl;
  blocked = refl;
}
way_continues ByOther = record {
  joins = record { regs = refl; gs = refl; kernel_gs = refl; selector = refl; cr2 = tt; rsp0 = refl; words = refl; inside = refl };
  rip = refl;
  blocked = refl;
}

kernel_runs : brun (fred_block FromKernel) (fred_block FromKernel).steps ≡ Some (fred_end FromKernel)
unfolding fred_end fred_lines fred_listings spelling four_bytes size places distance
kernel_runs = refl

kernel_continues : Continues (fred_end FromKernel) kernel_values (body_block true FredFrame AtTable)
unfolding fred_end fred_lines fred_listings spelling four_bytes size places distance
kernel_continues = record {
  joins = record { regs = refl; gs = refl; kernel_gs = refl; selector = refl; cr2 = tt; rsp0 = refl; words = refl; inside = refl };
  rip = refl;
  blocked = refl;
}

pub fred_enters : FredEnters
fred_enters = (λ w. record { runs = way_runs w; continues = way_continues w }, record { runs = kernel_runs; continues = kernel_continues })

-- ---- exits

to_kernel : ReturnsAt erets_place (Leaves FredToKernel)
unfolding fred_end fred_lines fred_listings spelling four_bytes size places distance
to_kernel = record { runs = refl; rip = refl; regs = refl; gs = refl; kernel_gs = refl; selector = refl; rsp0 = refl; blocked = refl; words = refl }

to_task : ReturnsAt eretu_place (Leaves FredToTask)
unfolding fred_end fred_lines fred_listings spelling four_bytes size places distance
to_task = record { runs = refl; rip = refl; regs = refl; gs = refl; kernel_gs = refl; selector = refl; rsp0 = refl; blocked = refl; words = refl }

to_next : ReturnsToNext (Leaves FredToNext)
unfolding fred_end fred_lines fred_listings spelling four_bytes size places distance
to_next = record { runs = refl; rip = refl; regs = refl; gs = refl; kernel_gs = refl; selector = refl; rsp0 = refl; blocked = refl; words = refl }

switched : HasWords (fred_end (Leaves FredToNext)) next_names
unfolding fred_end fred_lines fred_listings spelling four_bytes size places distance
switched = refl

nmi_to_task : ReturnsAt eretu_place (LeavesNmi UserCode)
unfolding fred_end fred_lines fred_listings spelling four_bytes size places distance
nmi_to_task = record { runs = refl; rip = refl; regs = refl; gs = refl; kernel_gs = refl; selector = refl; rsp0 = refl; blocked = refl; words = refl }

nmi_to_kernel : ReturnsAt erets_place (LeavesNmi KernelCode)
unfolding fred_end fred_lines fred_listings spelling four_bytes size places distance
nmi_to_kernel = record { runs = refl; rip = refl; regs = refl; gs = refl; kernel_gs = refl; selector = refl; rsp0 = refl; blocked = refl; words = refl }

pub fred_returns : FredReturns
fred_returns = record { to_kernel = to_kernel; to_task = to_task; to_next = to_next; switched = switched; nmi_to_task = nmi_to_task; nmi_to_kernel = nmi_to_kernel }

-- ---- CR2

pub fred_untold : FredTellsNoCr2
unfolding fred_lines fred_listings spelling four_bytes size places distance
fred_untold (FromUser ByCall) = refl
fred_untold (FromUser ByInt3) = refl
fred_untold (FromUser ByIntN) = refl
fred_untold (FromUser ByOther) = refl
fred_untold FromKernel = refl
fred_untold (Leaves FredToKernel) = refl
fred_untold (Leaves FredToTask) = refl
fred_untold (Leaves FredToNext) = refl
fred_untold (LeavesNmi UserCode) = refl
fred_untold (LeavesNmi KernelCode) = refl
