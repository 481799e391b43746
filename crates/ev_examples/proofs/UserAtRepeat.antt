-- User code stands at the address of REPEAT when an NMI comes: the return to it ends the NMI's activation.
use Rattle.std.specs.Prelude.{◌≡◌, refl, List, [], ◌∷◌, ◌++◌, codes, length}
use Rattle.ev_isa.specs.declared.instruction.Ins.TheVariants.{JmpReg, MovImm}
use Rattle.ev_isa.specs.declared.mode.Mode.TheVariants.{Fred, Idt}
use Rattle.ev_body.specs.KernelImage.{KernelImage}
use Rattle.ev_body.specs.declared.item.Item.{Item}
use Rattle.ev_body.specs.declared.key.Key.{Key}
use Rattle.ev_body.specs.declared.key.Side.TheVariants.{Both}
use Rattle.ev_abstract.specs.declared.script_line.Line.{Line}
use Rattle.ev_abstract.specs.declared.script_line.Line.TheVariants.{Arrive}
use Rattle.ev_abstract.specs.Run.{run}
use Rattle.ev_abstract.specs.Machine.{processor}
use Rattle.ev_concrete.specs.ConcreteRun.{concrete_run}
use Rattle.ev_examples.proofs.ComputesConcrete.{stepping}
use Rattle.ev_examples.proofs.Documents.{body, output_of, simple, turns}

-- a jump to REPEAT, whose fetch has not faulted yet
unfoldable pub at_repeat : KernelImage
at_repeat = simple 2 (MovImm 0 0xffffffff81004800 ∷ JmpReg 0 ∷ []) (body Key.Nmi Both (Item.Ret ∷ []) ∷ [])

-- the NMI, and its return
unfoldable pub to_the_return : List Line
to_the_return = turns 0 2 ++ Arrive 0 Key.Nmi ∷ turns 0 2

-- after it no body stands, and no activation
abstract_depth : length (processor (run at_repeat to_the_return) 0).bodies ≡ 0
unfolding stepping at_repeat to_the_return
abstract_depth = refl

idt_depth : length ((concrete_run Idt at_repeat to_the_return).0.activations 0) ≡ 0
unfolding stepping at_repeat to_the_return
idt_depth = refl

fred_depth : length ((concrete_run Fred at_repeat to_the_return).0.activations 0) ≡ 0
unfolding stepping at_repeat to_the_return
fred_depth = refl

-- user code runs at that address
idt_privilege : ((concrete_run Idt at_repeat to_the_return).0.cpus 0).cpl ≡ 3
unfolding stepping at_repeat to_the_return
idt_privilege = refl

-- the fault that comes next is at depth 1 in both modes
output : output_of at_repeat (to_the_return ++ turns 0 1) ≡
    codes "idt 0 enter nmi type 2 user depth 1 error 0 data 0 rip ffffffff81004800\nfred 0 enter nmi type 2 user depth 1 error 0 data 0 rip ffffffff81004800\n"
    ++ codes "idt 0 enter pf type 3 user depth 1 error 15 data ffffffff81004800 rip ffffffff81004800\n"
    ++ codes "fred 0 enter pf type 3 user depth 1 error 15 data ffffffff81004800 rip ffffffff81004800\nidt busy 0 depth 1\n"
    ++ codes "idt steps 163 frames 2 low ffffc90000003fd0\nfred busy 0 depth 1\nfred steps 132 frames 2 low ffffc90000003fc0\n"
unfolding stepping at_repeat to_the_return
output = refl
