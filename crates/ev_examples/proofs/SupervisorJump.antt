-- User code jumps to a supervisor page: the jump is made, an NMI comes first, and then the fetch faults.
use Rattle.std.specs.Prelude.{◌≡◌, refl, [], ◌∷◌, ◌++◌, codes}
use Rattle.ev_isa.specs.declared.instruction.Ins.TheVariants.{JmpReg, MovImm}
use Rattle.ev_body.specs.KernelImage.{KernelImage}
use Rattle.ev_body.specs.declared.item.Item.{Item}
use Rattle.ev_body.specs.declared.key.Key.{Key}
use Rattle.ev_body.specs.declared.key.Side.TheVariants.{Both}
use Rattle.ev_abstract.specs.declared.script_line.Line.TheVariants.{Arrive}
use Rattle.ev_examples.proofs.ComputesConcrete.{stepping}
use Rattle.ev_examples.proofs.Documents.{body, output_of, simple, turns}

unfoldable pub supervisor_jump : KernelImage
supervisor_jump = simple 2 (MovImm 0 0xffffffff81005000 ∷ JmpReg 0 ∷ []) (body Key.Nmi Both (Item.Ret ∷ []) ∷ [])

output : output_of supervisor_jump (turns 0 2 ++ Arrive 0 Key.Nmi ∷ turns 0 3) ≡
    codes "idt 0 enter nmi type 2 user depth 1 error 0 data 0 rip ffffffff81005000\nfred 0 enter nmi type 2 user depth 1 error 0 data 0 rip ffffffff81005000\n"
    ++ codes "idt 0 enter pf type 3 user depth 1 error 15 data ffffffff81005000 rip ffffffff81005000\n"
    ++ codes "fred 0 enter pf type 3 user depth 1 error 15 data ffffffff81005000 rip ffffffff81005000\nidt busy 0 depth 1\n"
    ++ codes "idt steps 163 frames 2 low ffffc90000003fd0\nfred busy 0 depth 1\nfred steps 132 frames 2 low ffffc90000003fc0\n"
unfolding stepping supervisor_jump
output = refl
