-- An interrupt sets the reschedule mark, and at its body's return the next task runs.
use Rattle.std.specs.Prelude.{◌≡◌, refl, pos, List, [], ◌∷◌, ◌++◌, flat_map, codes}
use Rattle.ev_isa.specs.Spelling.{spelling}
use Rattle.ev_isa.specs.declared.instruction.Ins.TheVariants.{GsLoad, MovImm}
use Rattle.ev_isa.specs.declared.mode.Mode.TheVariants.{Fred, Idt}
use Rattle.ev_body.specs.Bodies.{fill}
use Rattle.ev_body.specs.KernelImage.{KernelImage}
use Rattle.ev_body.specs.declared.item.Item.{Item}
use Rattle.ev_body.specs.declared.key.Key.{Key}
use Rattle.ev_body.specs.declared.key.Side.TheVariants.{Both}
use Rattle.ev_abstract.specs.declared.script_line.Line.{Line}
use Rattle.ev_abstract.specs.declared.script_line.Line.TheVariants.{Arrive}
use Rattle.ev_examples.proofs.ComputesConcrete.{stepping}
use Rattle.ev_examples.proofs.Documents.{body, output_of, start_at, turns, user_line}

unfoldable pub two_tasks : KernelImage
two_tasks = record {
  processors = 1;
  nest = 1;
  pages = 0 ∷ [];
  cells = [];
  text = flat_map spelling (MovImm 0 1 ∷ MovImm 3 2 ∷ GsLoad 0 (pos 0) ∷ []);
  tasks = (start_at 0x400000 0 ∷ start_at 0x400014 0x10000000 ∷ []) ∷ [];
  bodies = fill (body (Key.Irq 0xfd) Both (Item.Resched ∷ Item.Eoi ∷ Item.Ret ∷ []) ∷ []);
}

unfoldable pub reschedule : List Line
reschedule = turns 0 1 ++ Arrive 0 (Key.Irq 0xfd) ∷ turns 0 5

output : output_of two_tasks reschedule ≡
    codes "idt 0 enter irqfd type 0 user depth 1 error 0 data 0 rip 40000a\nfred 0 enter irqfd type 0 user depth 1 error 0 data 0 rip 40000a\n"
    ++ codes "idt task 0 0 rip 40000a flags 40202 gs 0 rax 1\nidt task 0 1 rip 40001d flags 40202 gs 10000000\nidt steps 92 frames 1 low ffffc90000003fd8\n"
    ++ codes "fred task 0 0 rip 40000a flags 40202 gs 0 rax 1\nfred task 0 1 rip 40001d flags 40202 gs 10000000\nfred steps 90 frames 1 low ffffc90000003fc0\n"
unfolding stepping two_tasks reschedule
output = refl

-- the registers of the two machines
idt_task : user_line Idt two_tasks reschedule 0 1 ≡ codes " task 0 1 rip 40001d flags 40202 gs 10000000\n"
unfolding stepping two_tasks reschedule
idt_task = refl

fred_task : user_line Fred two_tasks reschedule 0 1 ≡ codes " task 0 1 rip 40001d flags 40202 gs 10000000\n"
unfolding stepping two_tasks reschedule
fred_task = refl
