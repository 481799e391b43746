-- A page fault in an NMI body that stands on the body of another page fault, before that body reads its address.
use Rattle.std.specs.Prelude.{◌≡◌, refl, ℕ, pos, List, [], ◌∷◌, ◌++◌, codes}
use Rattle.ev_isa.specs.declared.instruction.Ins.TheVariants.{Load, MovImm, Store}
use Rattle.ev_isa.specs.declared.mode.Mode.TheVariants.{Fred, Idt}
use Rattle.ev_body.specs.KernelImage.{KernelImage}
use Rattle.ev_body.specs.declared.item.Item.{Item}
use Rattle.ev_body.specs.declared.key.Key.{Key}
use Rattle.ev_body.specs.declared.key.Side.TheVariants.{Both, Kernel, User}
use Rattle.ev_abstract.specs.declared.script_line.Line.{Line}
use Rattle.ev_abstract.specs.declared.script_line.Line.TheVariants.{Arrive}
use Rattle.ev_examples.proofs.ComputesConcrete.{stepping}
use Rattle.ev_examples.proofs.Documents.{body, output_of, simple, turns, user_line}

unfoldable pub fault_in_nmi : KernelImage
fault_in_nmi = simple 3 (MovImm 3 0x10000000 ∷ Store 3 (pos 0) 3 ∷ Load 1 3 (pos 0) ∷ [])
    (body Key.Pf User (Item.Log 8 ∷ Item.Ret ∷ []) ∷ body Key.Pf Kernel (Item.Map 8 ∷ Item.Ret ∷ []) ∷ body Key.Nmi Both
    (Item.Set 9 0x10005000 ∷ Item.Uget 10 9 ∷ Item.Ret ∷ []) ∷ [])

unfoldable pub fault_in_nmi_script : ℕ → List Line
fault_in_nmi_script n = turns 0 2 ++ Arrive 0 Key.Nmi ∷ turns 0 n

output : output_of fault_in_nmi (fault_in_nmi_script 8) ≡
    codes "idt 0 enter pf type 3 user depth 1 error 6 data 10000000 rip 40000a\nfred 0 enter pf type 3 user depth 1 error 6 data 10000000 rip 40000a\n"
    ++ codes "idt 0 enter nmi type 2 kernel depth 2 error 0 data 0 rip -\nfred 0 enter nmi type 2 kernel depth 2 error 0 data 0 rip -\n"
    ++ codes "idt 0 enter pf type 3 kernel depth 3 error 0 data 10005000 rip -\nfred 0 enter pf type 3 kernel depth 3 error 0 data 10005000 rip -\n"
    ++ codes "idt 0 log 10000000\nfred 0 log 10000000\nidt busy 0 depth 1\nidt steps 247 frames 3 low ffffc90000003fd0\nfred busy 0 depth 1\n"
    ++ codes "fred steps 198 frames 3 low ffffc90000003fc0\n"
unfolding stepping fault_in_nmi fault_in_nmi_script
output = refl

-- the registers of the two machines after one turn more
idt_task : user_line Idt fault_in_nmi (fault_in_nmi_script 9) 0 0 ≡ codes " task 0 0 rip 40000a flags 40202 gs 0 rbx 10000000\n"
unfolding stepping fault_in_nmi fault_in_nmi_script
idt_task = refl

fred_task : user_line Fred fault_in_nmi (fault_in_nmi_script 9) 0 0 ≡ codes " task 0 0 rip 40000a flags 40202 gs 0 rbx 10000000\n"
unfolding stepping fault_in_nmi fault_in_nmi_script
fred_task = refl
