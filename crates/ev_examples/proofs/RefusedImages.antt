-- Images that keep the rules, and for each rule images that break it, with the first place that does.
use Rattle.std.specs.Prelude.{◌≡◌, refl, List, [], ◌∷◌, Some, None}
use Rattle.ev_isa.specs.declared.instruction.AluOp.{AluOp}
use Rattle.ev_isa.specs.declared.instruction.Cond.{Cond}
use Rattle.ev_isa.specs.declared.instruction.Ins.TheVariants.{Nop}
use Rattle.ev_body.specs.KernelImage.{KernelImage}
use Rattle.ev_body.specs.declared.body.Body.{Body}
use Rattle.ev_body.specs.declared.item.Item.{Item}
use Rattle.ev_body.specs.declared.key.Key.{Key}
use Rattle.ev_body.specs.declared.key.Side.TheVariants.{Both, Kernel, User}
use Rattle.ev_abstract.specs.Rules.{rules}
use Rattle.ev_abstract.specs.declared.refusal.Refusal.TheVariants.{CallRule, EoiRule, FaultRule, FlagRule, IfRule, MissingBody, NmiRule, RegisterRule, SlotRule}
use Rattle.ev_examples.proofs.BusySite.{calling_twice}
use Rattle.ev_examples.proofs.ComputesAcceptance.{deciding}
use Rattle.ev_examples.proofs.CrossingCalls.{call_handler, calling, crossing}
use Rattle.ev_examples.proofs.Documents.{body, simple}
use Rattle.ev_examples.proofs.MergedNmis.{breakpoint_in_nmi}
use Rattle.ev_examples.proofs.NestedInterrupts.{nested}
use Rattle.ev_examples.proofs.NmiAfterSyscall.{early_nmi}
use Rattle.ev_examples.proofs.PageFaultInABody.{write_in_body}
use Rattle.ev_examples.proofs.PageFaultInAnNmi.{fault_in_nmi}
use Rattle.ev_examples.proofs.Reschedule.{two_tasks}
use Rattle.ev_examples.proofs.SoftwareInterrupts.{interrupt_skipped}
use Rattle.ev_examples.proofs.SystemCall.{plain_call}

-- ---- kept

call_kept : rules plain_call ≡ None
unfolding deciding plain_call
call_kept = refl

write_kept : rules write_in_body ≡ None
unfolding deciding write_in_body
write_kept = refl

skip_kept : rules (interrupt_skipped 13) ≡ None
unfolding deciding interrupt_skipped
skip_kept = refl

nested_kept : rules nested ≡ None
unfolding deciding nested
nested_kept = refl

breakpoint_kept : rules breakpoint_in_nmi ≡ None
unfolding deciding breakpoint_in_nmi
breakpoint_kept = refl

early_kept : rules early_nmi ≡ None
unfolding deciding early_nmi
early_kept = refl

fault_kept : rules fault_in_nmi ≡ None
unfolding deciding fault_in_nmi
fault_kept = refl

tasks_kept : rules two_tasks ≡ None
unfolding deciding two_tasks
tasks_kept = refl

crossing_kept : rules crossing ≡ None
unfolding deciding crossing calling call_handler
crossing_kept = refl

twice_kept : rules calling_twice ≡ None
unfolding deciding calling_twice calling call_handler
twice_kept = refl

-- ---- refused

with_bodies : List Body → KernelImage
with_bodies bodies = simple 9 (Nop ∷ []) bodies

-- a body holds `bp`, and no kernel body handles it
breakpoint_missing : rules (with_bodies (body Key.Sys User (Item.Bp ∷ Item.Ret ∷ []) ∷ [])) ≡ Some (MissingBody Key.Bp Kernel)
unfolding deciding with_bodies
breakpoint_missing = refl

-- a body reads user memory, and no kernel body handles the fault
fault_missing : rules (with_bodies (body Key.Sys User (Item.Uget 8 9 ∷ Item.Ret ∷ []) ∷ [])) ≡ Some (MissingBody Key.Pf Kernel)
unfolding deciding with_bodies
fault_missing = refl

-- NMI is sent, and no body handles it
nmi_missing : rules (with_bodies (body Key.Sys User (Item.Send 0 Key.Nmi ∷ Item.Ret ∷ []) ∷ [])) ≡ Some (MissingBody Key.Nmi User)
unfolding deciding with_bodies
nmi_missing = refl

interrupt_missing : rules (with_bodies (body (Key.Irq 0x31) User (Item.Eoi ∷ Item.Ret ∷ []) ∷ [])) ≡ Some (MissingBody (Key.Irq 0x31) Kernel)
unfolding deciding with_bodies
interrupt_missing = refl

slot_refused : rules (with_bodies (body Key.Sys User (Item.Nop ∷ Item.Slot 8 64 ∷ Item.Ret ∷ []) ∷ [])) ≡ Some (SlotRule 0 1)
unfolding deciding with_bodies
slot_refused = refl

processor_refused : rules (with_bodies (body Key.Nmi Both (Item.Send 1 Key.Nmi ∷ Item.Ret ∷ []) ∷ [])) ≡ Some (SlotRule 0 0)
unfolding deciding with_bodies
processor_refused = refl

-- `setreg` of RSP, and `getreg` in a body of both sides
rsp_refused : rules (with_bodies (body Key.Sys User (Item.SetReg 4 8 ∷ Item.Ret ∷ []) ∷ [])) ≡ Some (RegisterRule 0 0)
unfolding deciding with_bodies
rsp_refused = refl

register_refused : rules (with_bodies (body Key.Sys User (Item.Ret ∷ []) ∷ body (Key.Irq 0x31) Both (Item.Eoi ∷ Item.GetReg 8 0 ∷ Item.Ret ∷ []) ∷ []))
    ≡ Some (RegisterRule 1 1)
unfolding deciding with_bodies
register_refused = refl

-- a conditional jump behind `nop`, and one that is a jump's target
flag_refused : rules (with_bodies (body Key.Sys User (Item.Alu AluOp.Add 8 9 ∷ Item.Nop ∷ Item.Jcc Cond.Z 3 ∷ Item.Ret ∷ []) ∷ [])) ≡ Some (FlagRule 0 2)
unfolding deciding with_bodies
flag_refused = refl

target_refused : rules (with_bodies (body Key.Sys User (Item.Goto 2 ∷ Item.Alu AluOp.Add 8 9 ∷ Item.Jcc Cond.Z 3 ∷ Item.Ret ∷ []) ∷ [])) ≡ Some (FlagRule 0 2)
unfolding deciding with_bodies
target_refused = refl

-- IF is on at `ret`; a jump passes over `sti`; an inner body holds `sti`
open_return_refused : rules (with_bodies (body Key.Sys User (Item.Sti ∷ Item.Ret ∷ []) ∷ [])) ≡ Some (IfRule 0 1)
unfolding deciding with_bodies
open_return_refused = refl

jump_refused : rules (with_bodies (body Key.Sys User (Item.Goto 2 ∷ Item.Sti ∷ Item.Cli ∷ Item.Ret ∷ []) ∷ [])) ≡ Some (IfRule 0 0)
unfolding deciding with_bodies
jump_refused = refl

inner_refused : rules (with_bodies (body Key.Nmi Both (Item.Sti ∷ Item.Cli ∷ Item.Ret ∷ []) ∷ [])) ≡ Some (IfRule 0 0)
unfolding deciding with_bodies
inner_refused = refl

-- `sti` behind `eoi`; no `eoi`; two of them; one in a system call
open_behind_refused : rules (with_bodies (body (Key.Irq 0x31) Both (Item.Eoi ∷ Item.Sti ∷ Item.Nop ∷ Item.Cli ∷ Item.Ret ∷ []) ∷ [])) ≡ Some (EoiRule 0 0)
unfolding deciding with_bodies
open_behind_refused = refl

no_end_refused : rules (with_bodies (body Key.Sys User (Item.Ret ∷ []) ∷ body (Key.Irq 0x40) Both (Item.Nop ∷ Item.Ret ∷ []) ∷ [])) ≡ Some (EoiRule 1 0)
unfolding deciding with_bodies
no_end_refused = refl

two_ends_refused : rules (with_bodies (body (Key.Irq 0x40) Both (Item.Eoi ∷ Item.Nop ∷ Item.Eoi ∷ Item.Ret ∷ []) ∷ [])) ≡ Some (EoiRule 0 2)
unfolding deciding with_bodies
two_ends_refused = refl

end_in_call_refused : rules (with_bodies (body Key.Sys User (Item.Nop ∷ Item.Eoi ∷ Item.Ret ∷ []) ∷ [])) ≡ Some (EoiRule 0 1)
unfolding deciding with_bodies
end_in_call_refused = refl

breakpoint_refused : rules (with_bodies (body Key.Bp Kernel (Item.Bp ∷ Item.Ret ∷ []) ∷ [])) ≡ Some (FaultRule 0 0)
unfolding deciding with_bodies
breakpoint_refused = refl

access_refused : rules (with_bodies (body Key.Pf Kernel (Item.Map 8 ∷ Item.Uget 9 8 ∷ Item.Ret ∷ []) ∷ [])) ≡ Some (FaultRule 0 1)
unfolding deciding with_bodies
access_refused = refl

nmi_refused : rules (with_bodies (body Key.Nmi Both (Item.Resched ∷ Item.Ret ∷ []) ∷ [])) ≡ Some (NmiRule 0 0)
unfolding deciding with_bodies
nmi_refused = refl

-- a `call` without its `kick`; a `kick` without its `call`; a wait for a site that the body doesn't call; a function that isn't declared
call_refused : rules (with_bodies (body Key.Sys User (Item.Call 0 0 0 8 ∷ Item.Nop ∷ Item.Ret ∷ []) ∷ call_handler ∷ [])) ≡ Some (CallRule 0 0)
unfolding deciding with_bodies call_handler
call_refused = refl

kick_refused : rules (with_bodies (body Key.Sys User (Item.Kick 0 8 ∷ Item.Ret ∷ []) ∷ call_handler ∷ [])) ≡ Some (CallRule 0 0)
unfolding deciding with_bodies call_handler
kick_refused = refl

wait_refused : rules (with_bodies (body Key.Sys User (Item.Wait 0 ∷ Item.Ret ∷ []) ∷ call_handler ∷ [])) ≡ Some (CallRule 0 0)
unfolding deciding with_bodies call_handler
wait_refused = refl

function_refused : rules (with_bodies (body Key.Sys User (Item.Call 0 0 1 8 ∷ Item.Kick 0 8 ∷ Item.Ret ∷ []) ∷ call_handler ∷ [])) ≡ Some (CallRule 0 0)
unfolding deciding with_bodies call_handler
function_refused = refl

-- the body of the call vector without `take`
take_refused : rules (with_bodies (body Key.Sys User (Item.Ret ∷ []) ∷ body (Key.Irq 0xfb) Both (Item.Eoi ∷ Item.Ret ∷ []) ∷ [])) ≡ Some (CallRule 1 0)
unfolding deciding with_bodies
take_refused = refl
