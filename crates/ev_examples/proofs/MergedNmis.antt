-- NMIs that come while an NMI body stands: one is held, and further ones merge with it.
use Rattle.std.specs.Prelude.{◌≡◌, refl, List, [], ◌∷◌, ◌++◌, codes}
use Rattle.ev_isa.specs.declared.instruction.Ins.TheVariants.{Nop}
use Rattle.ev_isa.specs.declared.mode.Mode.TheVariants.{Fred, Idt}
use Rattle.ev_body.specs.KernelImage.{KernelImage}
use Rattle.ev_body.specs.declared.item.Item.{Item}
use Rattle.ev_body.specs.declared.key.Key.{Key}
use Rattle.ev_body.specs.declared.key.Side.TheVariants.{Both, Kernel}
use Rattle.ev_abstract.specs.declared.script_line.Line.{Line}
use Rattle.ev_abstract.specs.declared.script_line.Line.TheVariants.{Arrive, Edge}
use Rattle.ev_examples.proofs.ComputesConcrete.{stepping}
use Rattle.ev_examples.proofs.Documents.{body, output_of, simple, turns, user_line}

-- an NMI body with a breakpoint in it, whose return would end the blocking of NMIs
unfoldable pub breakpoint_in_nmi : KernelImage
breakpoint_in_nmi = simple 3 (Nop ∷ []) (body Key.Nmi Both (Item.Bp ∷ Item.Ret ∷ []) ∷ body Key.Bp Kernel (Item.Ret ∷ []) ∷ [])

unfoldable pub merging : List Line
merging = Arrive 0 Key.Nmi ∷ turns 0 3 ++ Arrive 0 Key.Nmi ∷ Edge 0 4096 ∷ Arrive 0 Key.Nmi ∷ Edge 0 4096 ∷ Arrive 0 Key.Nmi ∷ Edge 0 4096 ∷ turns 0 5

output : output_of breakpoint_in_nmi merging ≡
    codes "idt 0 enter nmi type 2 user depth 1 error 0 data 0 rip 400000\nfred 0 enter nmi type 2 user depth 1 error 0 data 0 rip 400000\n"
    ++ codes "idt 0 enter bp type 6 kernel depth 2 error 0 data 0 rip -\nfred 0 enter bp type 6 kernel depth 2 error 0 data 0 rip -\n"
    ++ codes "idt 0 enter nmi type 2 user depth 1 error 0 data 0 rip 400000\nfred 0 enter nmi type 2 user depth 1 error 0 data 0 rip 400000\n"
    ++ codes "idt 0 enter bp type 6 kernel depth 2 error 0 data 0 rip -\nfred 0 enter bp type 6 kernel depth 2 error 0 data 0 rip -\n"
    ++ codes "idt task 0 0 rip 400000 flags 40202 gs 0\nidt steps 373 frames 6 low ffffc90000013eb8\nfred task 0 0 rip 400000 flags 40202 gs 0\n"
    ++ codes "fred steps 242 frames 4 low ffffc90000003ec0\n"
unfolding stepping breakpoint_in_nmi merging
output = refl

-- the registers of the two machines
idt_task : user_line Idt breakpoint_in_nmi merging 0 0 ≡ codes " task 0 0 rip 400000 flags 40202 gs 0\n"
unfolding stepping breakpoint_in_nmi merging
idt_task = refl

fred_task : user_line Fred breakpoint_in_nmi merging 0 0 ≡ codes " task 0 0 rip 400000 flags 40202 gs 0\n"
unfolding stepping breakpoint_in_nmi merging
fred_task = refl
