-- Edges fall from block to block.
use Rattle.std.proofs.Common.{◌≡◌, ℕ, zero, suc, ◌<◌, ◌≤◌, Bool, true, false, arith}
use Rattle.ev_isa.specs.declared.mode.Mode.{Mode}
use Rattle.ev_isa.specs.declared.mode.Mode.TheVariants.{Idt, Fred}
use Rattle.ev_blocks.specs.Shapes.{Origin, UserCode, KernelCode, Layout, FredFrame, IdtFrame, NmiFrame}
use Rattle.ev_blocks.specs.Fred.{FredWay, ByCall, ByInt3, ByIntN, ByOther, FredExit, FredToKernel, FredToTask, FredToNext, FromUser, FromKernel, LeavesNmi}
use Rattle.ev_blocks.specs.Fred as fred
use Rattle.ev_blocks.specs.Idt.{BySysret, ByOtherRip, ByOtherFlags, IdtExit, IdtToKernel, IdtToTask, IdtToNext, Stub, Sys, Common}
use Rattle.ev_blocks.specs.Idt as idt
use Rattle.ev_blocks.specs.Nmi.{Choice, FirstFromTask, FirstLow, FirstHigh, InnerLow, InnerHigh, InnerAtLast, InnerInRepeat, GsBase, BodyBegin, FromTask, FromKernel as Kernel, FromKernelInTaskGs, NmiExit, Exchanging, Staying, Choosing, Begins, is_first}
use Rattle.ev_blocks.specs.Nmi as nmi
use Rattle.ev_blocks.specs.Items.{BodySpot, AtTable, AtJump, AtItem, AtNumber, AtNumbers, AtKick, AtUserWord, AtPageWord, BehindSti, BehindKick, InCall}
use Rattle.ev_blocks.specs.Calls.{AtRecord, BehindWait, BehindBusy, AtFill, AtHead, AtLink, BehindFailure, BehindCall, AtTake, BehindTake, AtTurn, BehindTurn, AtTaken, AtFinish, BehindNext, AtOffset}
use Rattle.ev_blocks.specs.Blocks.{InFred, InIdt, InNmi, InBody, behind_body, edges_behind, edges_from, AllEdgesFall}

from_user : (mode : Mode) → (w : FredWay) → edges_from mode (InBody FredFrame AtTable) ≤ edges_behind mode (InFred (FromUser w))
from_user Idt ByCall = omega arith
from_user Idt ByInt3 = omega arith
from_user Idt ByIntN = omega arith
from_user Idt ByOther = omega arith
from_user Fred ByCall = omega arith
from_user Fred ByInt3 = omega arith
from_user Fred ByIntN = omega arith
from_user Fred ByOther = omega arith

stub : (mode : Mode) → (o : Origin) (has_error : Bool) (v : ℕ) (page_fault : Bool)
    → edges_from mode (InIdt (Common o page_fault)) < edges_behind mode (InIdt (Stub o has_error v))
stub Idt UserCode true v true = omega arith
stub Idt UserCode true v false = omega arith
stub Idt UserCode false v true = omega arith
stub Idt UserCode false v false = omega arith
stub Idt KernelCode true v true = omega arith
stub Idt KernelCode true v false = omega arith
stub Idt KernelCode false v true = omega arith
stub Idt KernelCode false v false = omega arith
stub Fred UserCode true v true = omega arith
stub Fred UserCode true v false = omega arith
stub Fred UserCode false v true = omega arith
stub Fred UserCode false v false = omega arith
stub Fred KernelCode true v true = omega arith
stub Fred KernelCode true v false = omega arith
stub Fred KernelCode false v true = omega arith
stub Fred KernelCode false v false = omega arith

common : (mode : Mode) → (o : Origin) (page_fault : Bool) → edges_from mode (InBody IdtFrame AtTable) ≤ edges_behind mode (InIdt (Common o page_fault))
common Idt UserCode true = omega arith
common Idt UserCode false = omega arith
common Idt KernelCode true = omega arith
common Idt KernelCode false = omega arith
common Fred UserCode true = omega arith
common Fred UserCode false = omega arith
common Fred KernelCode true = omega arith
common Fred KernelCode false = omega arith

first_nmi : (mode : Mode) → (c : Choice) (g : GsBase) (b : BodyBegin) → is_first c ≡ true
    → edges_from mode (InNmi (Begins b)) ≤ edges_behind mode (InNmi (Choosing c g))
first_nmi Idt FirstFromTask g FromTask h = omega arith
first_nmi Idt FirstFromTask g Kernel h = omega arith
first_nmi Idt FirstFromTask g FromKernelInTaskGs h = omega arith
first_nmi Idt FirstLow g FromTask h = omega arith
first_nmi Idt FirstLow g Kernel h = omega arith
first_nmi Idt FirstLow g FromKernelInTaskGs h = omega arith
first_nmi Idt FirstHigh g FromTask h = omega arith
first_nmi Idt FirstHigh g Kernel h = omega arith
first_nmi Idt FirstHigh g FromKernelInTaskGs h = omega arith
first_nmi Idt InnerLow g b h = absurd (cc)
first_nmi Idt InnerHigh g b h = absurd (cc)
first_nmi Idt InnerAtLast g b h = absurd (cc)
first_nmi Idt InnerInRepeat g b h = absurd (cc)
first_nmi Fred FirstFromTask g FromTask h = omega arith
first_nmi Fred FirstFromTask g Kernel h = omega arith
first_nmi Fred FirstFromTask g FromKernelInTaskGs h = omega arith
first_nmi Fred FirstLow g FromTask h = omega arith
first_nmi Fred FirstLow g Kernel h = omega arith
first_nmi Fred FirstLow g FromKernelInTaskGs h = omega arith
first_nmi Fred FirstHigh g FromTask h = omega arith
first_nmi Fred FirstHigh g Kernel h = omega arith
first_nmi Fred FirstHigh g FromKernelInTaskGs h = omega arith
first_nmi Fred InnerLow g b h = absurd (cc)
first_nmi Fred InnerHigh g b h = absurd (cc)
first_nmi Fred InnerAtLast g b h = absurd (cc)
first_nmi Fred InnerInRepeat g b h = absurd (cc)

nmi_body : (mode : Mode) → (b : BodyBegin) → edges_from mode (InBody NmiFrame AtTable) ≤ edges_behind mode (InNmi (Begins b))
nmi_body Idt FromTask = omega arith
nmi_body Idt Kernel = omega arith
nmi_body Idt FromKernelInTaskGs = omega arith
nmi_body Fred FromTask = omega arith
nmi_body Fred Kernel = omega arith
nmi_body Fred FromKernelInTaskGs = omega arith

table : (mode : Mode) → (layout : Layout) → edges_from mode (InBody layout AtJump) < edges_behind mode (InBody layout AtTable)
table Idt l = omega arith
table Fred l = omega arith

jump : (mode : Mode) → (layout : Layout) → edges_from mode (InBody layout AtItem) < edges_behind mode (InBody layout AtJump)
jump Idt l = omega arith
jump Fred l = omega arith

item : (mode : Mode) → (layout : Layout) (s : BodySpot) → behind_body s ≡ 0 → edges_from mode (InBody layout s) < edges_from mode (InBody layout AtItem)
item Idt l (AtNumber n) h = omega arith
item Idt l (AtNumbers rcx rax rdx) h = omega arith
item Idt l (AtKick to) h = omega arith
item Idt l AtUserWord h = omega arith
item Idt l (AtPageWord true) h = omega arith
item Idt l (AtPageWord false) h = omega arith
item Idt l AtTable h = absurd (omega arith)
item Idt l AtJump h = absurd (omega arith)
item Idt l AtItem h = absurd (omega arith)
item Idt l BehindSti h = absurd (omega arith)
item Idt l BehindKick h = absurd (omega arith)
item Idt l (InCall (AtRecord site)) h = absurd (omega arith)
item Idt l (InCall (BehindWait d)) h = absurd (omega arith)
item Idt l (InCall (BehindBusy r)) h = absurd (omega arith)
item Idt l (InCall (AtFill address func to r)) h = absurd (omega arith)
item Idt l (InCall (AtHead address func to)) h = absurd (omega arith)
item Idt l (InCall (AtLink address func to true)) h = absurd (omega arith)
item Idt l (InCall (AtLink address func to false)) h = omega arith
item Idt l (InCall (BehindFailure address func to)) h = absurd (omega arith)
item Idt l (InCall (BehindCall r true)) h = absurd (omega arith)
item Idt l (InCall (BehindCall r false)) h = absurd (omega arith)
item Idt l (InCall AtTake) h = omega arith
item Idt l (InCall (BehindTake n)) h = absurd (omega arith)
item Idt l (InCall (AtTurn zero)) h = absurd (omega arith)
item Idt l (InCall (AtTurn (suc n))) h = absurd (omega arith)
item Idt l (InCall (BehindTurn n)) h = absurd (omega arith)
item Idt l (InCall (AtTaken some)) h = absurd (omega arith)
item Idt l (InCall AtFinish) h = absurd (omega arith)
item Idt l (InCall BehindNext) h = omega arith
item Idt l (InCall (AtOffset o e)) h = omega arith
item Fred l (AtNumber n) h = omega arith
item Fred l (AtNumbers rcx rax rdx) h = omega arith
item Fred l (AtKick to) h = omega arith
item Fred l AtUserWord h = omega arith
item Fred l (AtPageWord true) h = omega arith
item Fred l (AtPageWord false) h = omega arith
item Fred l AtTable h = absurd (omega arith)
item Fred l AtJump h = absurd (omega arith)
item Fred l AtItem h = absurd (omega arith)
item Fred l BehindSti h = absurd (omega arith)
item Fred l BehindKick h = absurd (omega arith)
item Fred l (InCall (AtRecord site)) h = absurd (omega arith)
item Fred l (InCall (BehindWait d)) h = absurd (omega arith)
item Fred l (InCall (BehindBusy r)) h = absurd (omega arith)
item Fred l (InCall (AtFill address func to r)) h = absurd (omega arith)
item Fred l (InCall (AtHead address func to)) h = absurd (omega arith)
item Fred l (InCall (AtLink address func to true)) h = absurd (omega arith)
item Fred l (InCall (AtLink address func to false)) h = omega arith
item Fred l (InCall (BehindFailure address func to)) h = absurd (omega arith)
item Fred l (InCall (BehindCall r true)) h = absurd (omega arith)
item Fred l (InCall (BehindCall r false)) h = absurd (omega arith)
item Fred l (InCall AtTake) h = omega arith
item Fred l (InCall (BehindTake n)) h = absurd (omega arith)
item Fred l (InCall (AtTurn zero)) h = absurd (omega arith)
item Fred l (InCall (AtTurn (suc n))) h = absurd (omega arith)
item Fred l (InCall (BehindTurn n)) h = absurd (omega arith)
item Fred l (InCall (AtTaken some)) h = absurd (omega arith)
item Fred l (InCall AtFinish) h = absurd (omega arith)
item Fred l (InCall BehindNext) h = omega arith
item Fred l (InCall (AtOffset o e)) h = omega arith

sti : (mode : Mode) → (layout : Layout) → edges_from mode (InBody layout AtItem) ≤ edges_behind mode (InBody layout BehindSti)
sti Idt l = omega arith
sti Fred l = omega arith

kick : (mode : Mode) → (layout : Layout) → edges_from mode (InBody layout AtItem) ≤ edges_behind mode (InBody layout BehindKick)
kick Idt l = omega arith
kick Fred l = omega arith

fred_exit : (mode : Mode) → (layout : Layout) (x : FredExit) → edges_from mode (InFred (fred.Leaves x)) < edges_from mode (InBody layout AtItem)
fred_exit Idt l FredToKernel = omega arith
fred_exit Idt l FredToTask = omega arith
fred_exit Idt l FredToNext = omega arith
fred_exit Fred l FredToKernel = omega arith
fred_exit Fred l FredToTask = omega arith
fred_exit Fred l FredToNext = omega arith

fred_nmi_exit : (mode : Mode) → (layout : Layout) (o : Origin) → edges_from mode (InFred (LeavesNmi o)) < edges_from mode (InBody layout AtItem)
fred_nmi_exit Idt l UserCode = omega arith
fred_nmi_exit Idt l KernelCode = omega arith
fred_nmi_exit Fred l UserCode = omega arith
fred_nmi_exit Fred l KernelCode = omega arith

idt_exit : (mode : Mode) → (layout : Layout) (x : IdtExit) → edges_from mode (InIdt (idt.Leaves x)) < edges_from mode (InBody layout AtItem)
idt_exit Idt l IdtToKernel = omega arith
idt_exit Idt l (IdtToTask BySysret) = omega arith
idt_exit Idt l (IdtToTask ByOtherRip) = omega arith
idt_exit Idt l (IdtToTask ByOtherFlags) = omega arith
idt_exit Idt l (IdtToNext BySysret) = omega arith
idt_exit Idt l (IdtToNext ByOtherRip) = omega arith
idt_exit Idt l (IdtToNext ByOtherFlags) = omega arith
idt_exit Fred l IdtToKernel = omega arith
idt_exit Fred l (IdtToTask BySysret) = omega arith
idt_exit Fred l (IdtToTask ByOtherRip) = omega arith
idt_exit Fred l (IdtToTask ByOtherFlags) = omega arith
idt_exit Fred l (IdtToNext BySysret) = omega arith
idt_exit Fred l (IdtToNext ByOtherRip) = omega arith
idt_exit Fred l (IdtToNext ByOtherFlags) = omega arith

nmi_exit : (mode : Mode) → (layout : Layout) (x : NmiExit) → edges_from mode (InNmi (nmi.Leaves x)) < edges_from mode (InBody layout AtItem)
nmi_exit Idt l Exchanging = omega arith
nmi_exit Idt l Staying = omega arith
nmi_exit Fred l Exchanging = omega arith
nmi_exit Fred l Staying = omega arith

from_kernel : (mode : Mode) → edges_from mode (InBody FredFrame AtTable) ≤ edges_behind mode (InFred FromKernel)
from_kernel Idt = omega arith
from_kernel Fred = omega arith

call : (mode : Mode) → edges_from mode (InBody IdtFrame AtTable) ≤ edges_behind mode (InIdt Sys)
call Idt = omega arith
call Fred = omega arith

pub edges_fall : AllEdgesFall
edges_fall mode = record {
  from_user = from_user mode;
  from_kernel = from_kernel mode;
  stub = stub mode;
  call = call mode;
  common = common mode;
  first_nmi = first_nmi mode;
  nmi_body = nmi_body mode;
  table = table mode;
  jump = jump mode;
  item = item mode;
  sti = sti mode;
  kick = kick mode;
  fred_exit = fred_exit mode;
  fred_nmi_exit = fred_nmi_exit mode;
  idt_exit = idt_exit mode;
  nmi_exit = nmi_exit mode;
}
