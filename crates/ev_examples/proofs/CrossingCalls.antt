-- Two processors call each other, and each waits with interrupts open.
use Rattle.std.specs.Prelude.{◌≡◌, refl, List, [], ◌∷◌, ◌++◌, flat_map, codes}
use Rattle.ev_isa.specs.Spelling.{spelling}
use Rattle.ev_isa.specs.declared.instruction.AluOp.{AluOp}
use Rattle.ev_isa.specs.declared.instruction.Cond.{Cond}
use Rattle.ev_isa.specs.declared.instruction.Ins.TheVariants.{Syscall}
use Rattle.ev_body.specs.Bodies.{fill}
use Rattle.ev_body.specs.KernelImage.{KernelImage}
use Rattle.ev_body.specs.declared.body.Body.{Body}
use Rattle.ev_body.specs.declared.item.Item.{Item}
use Rattle.ev_body.specs.declared.key.Key.{Key}
use Rattle.ev_body.specs.declared.key.Side.TheVariants.{Both, User}
use Rattle.ev_abstract.specs.declared.script_line.Line.{Line}
use Rattle.ev_abstract.specs.declared.script_line.Line.TheVariants.{Accept, Edge, Turn}
use Rattle.ev_listing.specs.IdtCode.{sys}
use Rattle.ev_examples.proofs.ComputesConcrete.{stepping}
use Rattle.ev_examples.proofs.Documents.{body, output_of, start_at, turns}

unfoldable pub call_handler : Body
call_handler = record {
  key = Key.Irq 0xfb;
  side = Both;
  items = Item.Take ∷ Item.Eoi ∷ Item.Ret ∷ [];
  parts =
      record { func = 0; items = Item.Log 9 ∷ Item.Finish ∷ [] } ∷ [];
}

-- two processors, and a system call with this body
unfoldable pub calling : Body → KernelImage
calling sys = record {
  processors = 2;
  nest = 2;
  pages = [];
  cells = [];
  text = flat_map spelling (Syscall ∷ []);
  tasks = (start_at 0x400000 0 ∷ []) ∷ (start_at 0x400000 0 ∷ []) ∷ [];
  bodies = fill (sys ∷ call_handler ∷ []);
}

unfoldable pub crossing : KernelImage
crossing = calling (body Key.Sys User (
    Item.Cpu 12 ∷ Item.Set 13 0 ∷ Item.Alu AluOp.Cmp 12 13 ∷ Item.Jcc Cond.Nz 7 ∷ Item.Call 0 1 0 12 ∷ Item.Kick 1 12 ∷ Item.Goto 9
    ∷ Item.Call 0 0 0 12 ∷ Item.Kick 0 12 ∷ Item.Sti ∷ Item.Wait 0 ∷ Item.Cli ∷ Item.Ret ∷ []))

unfoldable pub crossing_script : List Line
crossing_script = turns 0 5 ++ turns 1 5 ++ Edge 0 17 ∷ Edge 1 17
    ∷ Turn 0 ∷ Turn 1 ∷ Turn 0 ∷ Turn 1 ∷ Turn 0 ∷ Turn 0 ∷ Turn 1 ∷ Turn 0
    ∷ Accept 0 ∷ Accept 1 ∷ turns 0 6 ++ turns 1 6 ++ Turn 0 ∷ Turn 1 ∷ []

output : output_of crossing crossing_script ≡
    codes "idt 0 enter sys type 7 user depth 1 error 0 data 0 rip 400002\nfred 0 enter sys type 7 user depth 1 error 0 data 0 rip 400002\n"
    ++ codes "idt 1 enter sys type 7 user depth 1 error 0 data 0 rip 400002\nfred 1 enter sys type 7 user depth 1 error 0 data 0 rip 400002\n"
    ++ codes "idt 0 call 0 1 to 1 func 0 arg 0\nfred 0 call 0 1 to 1 func 0 arg 0\nidt 1 call 0 1 to 0 func 0 arg 1\nfred 1 call 0 1 to 0 func 0 arg 1\n"
    ++ codes "idt 0 enter irqfb type 0 kernel depth 2 error 0 data 0 rip -\nfred 0 enter irqfb type 0 kernel depth 2 error 0 data 0 rip -\nidt 0 log 1\n"
    ++ codes "fred 0 log 1\nidt 0 ran 1 0 1\nfred 0 ran 1 0 1\nidt 1 enter irqfb type 0 kernel depth 2 error 0 data 0 rip -\n"
    ++ codes "fred 1 enter irqfb type 0 kernel depth 2 error 0 data 0 rip -\nidt 1 log 0\nfred 1 log 0\nidt 1 ran 0 0 1\nfred 1 ran 0 0 1\nidt 0 done 0 1\n"
    ++ codes "fred 0 done 0 1\nidt 1 done 0 1\nfred 1 done 0 1\nidt busy 0 depth 1\nidt busy 1 depth 1\nidt steps 358 frames 2 low ffffc90000003f28\n"
    ++ codes "fred busy 0 depth 1\nfred busy 1 depth 1\nfred steps 358 frames 4 low ffffc90000003ec0\n"
unfolding stepping call_handler calling crossing crossing_script
output = refl
