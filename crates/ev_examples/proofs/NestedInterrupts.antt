-- An interrupt on a body that opened interrupts, and one of its class that waits for its end.
use Rattle.std.specs.Prelude.{◌≡◌, refl, ℕ, List, [], ◌∷◌, ◌++◌, codes}
use Rattle.ev_isa.specs.declared.instruction.Ins.TheVariants.{Nop}
use Rattle.ev_isa.specs.declared.mode.Mode.TheVariants.{Fred, Idt}
use Rattle.ev_body.specs.KernelImage.{KernelImage}
use Rattle.ev_body.specs.declared.item.Item.{Item}
use Rattle.ev_body.specs.declared.key.Key.{Key}
use Rattle.ev_body.specs.declared.key.Side.TheVariants.{Both}
use Rattle.ev_abstract.specs.declared.script_line.Line.{Line}
use Rattle.ev_abstract.specs.declared.script_line.Line.TheVariants.{Arrive}
use Rattle.ev_examples.proofs.ComputesConcrete.{stepping}
use Rattle.ev_examples.proofs.Documents.{body, output_of, simple, turns, user_line}

unfoldable pub nested : KernelImage
nested = simple 2 (Nop ∷ []) (body (Key.Irq 0x31) Both (Item.Sti ∷ Item.Nop ∷ Item.Cli ∷ Item.Eoi ∷ Item.Ret ∷ [])
    ∷ body (Key.Irq 0x32) Both (Item.Eoi ∷ Item.Ret ∷ []) ∷ body (Key.Irq 0x41) Both (Item.Eoi ∷ Item.Ret ∷ []) ∷ [])

unfoldable pub nested_script : ℕ → List Line
nested_script n = Arrive 0 (Key.Irq 0x31) ∷ turns 0 2 ++ Arrive 0 (Key.Irq 0x32) ∷ Arrive 0 (Key.Irq 0x41) ∷ turns 0 n

output : output_of nested (nested_script 8) ≡
    codes "idt 0 enter irq31 type 0 user depth 1 error 0 data 0 rip 400000\nfred 0 enter irq31 type 0 user depth 1 error 0 data 0 rip 400000\n"
    ++ codes "idt 0 enter irq41 type 0 kernel depth 2 error 0 data 0 rip -\nfred 0 enter irq41 type 0 kernel depth 2 error 0 data 0 rip -\n"
    ++ codes "idt 0 enter irq32 type 0 user depth 1 error 0 data 0 rip 400000\nfred 0 enter irq32 type 0 user depth 1 error 0 data 0 rip 400000\n"
    ++ codes "idt busy 0 depth 1\nidt steps 186 frames 3 low ffffc90000003f28\nfred busy 0 depth 1\nfred steps 182 frames 3 low ffffc90000003ec0\n"
unfolding stepping nested nested_script
output = refl

-- the registers of the two machines after two turns more
idt_task : user_line Idt nested (nested_script 10) 0 0 ≡ codes " task 0 0 rip 400000 flags 40202 gs 0\n"
unfolding stepping nested nested_script
idt_task = refl

fred_task : user_line Fred nested (nested_script 10) 0 0 ≡ codes " task 0 0 rip 400000 flags 40202 gs 0\n"
unfolding stepping nested nested_script
fred_task = refl
