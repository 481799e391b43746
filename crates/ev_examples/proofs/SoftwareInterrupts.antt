-- INT n of user code is #GP, and the body skips it.
use Rattle.std.specs.Prelude.{◌≡◌, refl, ℕ, [], ◌∷◌, ◌++◌, codes}
use Rattle.ev_isa.specs.declared.instruction.Ins.TheVariants.{IntN, Nop}
use Rattle.ev_isa.specs.declared.mode.Mode.TheVariants.{Fred, Idt}
use Rattle.ev_body.specs.KernelImage.{KernelImage}
use Rattle.ev_body.specs.declared.item.Item.{Item}
use Rattle.ev_body.specs.declared.key.Key.{Key}
use Rattle.ev_body.specs.declared.key.Side.TheVariants.{User}
use Rattle.ev_examples.proofs.ComputesConcrete.{stepping}
use Rattle.ev_examples.proofs.Documents.{body, output_of, simple, turns, user_line}

unfoldable pub interrupt_skipped : ℕ → KernelImage
interrupt_skipped n = simple 1 (IntN n ∷ Nop ∷ []) (body Key.Gp User (Item.SetRip 0x400002 ∷ Item.Ret ∷ []) ∷ [])

interrupt_40 : output_of (interrupt_skipped 0x40) (turns 0 4) ≡
    codes "idt 0 enter gp type 3 user depth 1 error 202 data 0 rip 400000\nfred 0 enter gp type 3 user depth 1 error 202 data 0 rip 400000\n"
    ++ codes "idt task 0 0 rip 400003 flags 40202 gs 0\nidt steps 72 frames 1 low ffffc90000003fd0\nfred task 0 0 rip 400003 flags 40202 gs 0\n"
    ++ codes "fred steps 80 frames 1 low ffffc90000003fc0\n"
unfolding stepping interrupt_skipped
interrupt_40 = refl

interrupt_d : output_of (interrupt_skipped 0xd) (turns 0 4) ≡
    codes "idt 0 enter gp type 3 user depth 1 error 6a data 0 rip 400000\nfred 0 enter gp type 3 user depth 1 error 6a data 0 rip 400000\n"
    ++ codes "idt task 0 0 rip 400003 flags 40202 gs 0\nidt steps 72 frames 1 low ffffc90000003fd0\nfred task 0 0 rip 400003 flags 40202 gs 0\n"
    ++ codes "fred steps 80 frames 1 low ffffc90000003fc0\n"
unfolding stepping interrupt_skipped
interrupt_d = refl

interrupt_8 : output_of (interrupt_skipped 0x8) (turns 0 4) ≡
    codes "idt 0 enter gp type 3 user depth 1 error 42 data 0 rip 400000\nfred 0 enter gp type 3 user depth 1 error 42 data 0 rip 400000\n"
    ++ codes "idt task 0 0 rip 400003 flags 40202 gs 0\nidt steps 72 frames 1 low ffffc90000003fd0\nfred task 0 0 rip 400003 flags 40202 gs 0\n"
    ++ codes "fred steps 80 frames 1 low ffffc90000003fc0\n"
unfolding stepping interrupt_skipped
interrupt_8 = refl

-- the registers of the two machines
idt_task : user_line Idt (interrupt_skipped 0x40) (turns 0 4) 0 0 ≡ codes " task 0 0 rip 400003 flags 40202 gs 0\n"
unfolding stepping interrupt_skipped
idt_task = refl

fred_task : user_line Fred (interrupt_skipped 0x40) (turns 0 4) 0 0 ≡ codes " task 0 0 rip 400003 flags 40202 gs 0\n"
unfolding stepping interrupt_skipped
fred_task = refl
