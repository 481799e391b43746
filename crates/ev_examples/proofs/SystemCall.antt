-- A system call, and the text that is returned to.
use Rattle.std.specs.Prelude.{◌≡◌, refl, negsuc, List, [], ◌∷◌, ◌++◌, true, Some, codes}
use Rattle.ev_isa.specs.declared.instruction.AluOp.{AluOp}
use Rattle.ev_isa.specs.declared.instruction.Ins.{Ins}
use Rattle.ev_isa.specs.declared.instruction.Ins.TheVariants.{Jmp, MovImm, Syscall}
use Rattle.ev_isa.specs.declared.mode.Mode.TheVariants.{Fred}
use Rattle.ev_event.specs.declared.event.EventType.{EventType}
use Rattle.ev_body.specs.KernelImage.{KernelImage}
use Rattle.ev_body.specs.declared.item.Item.{Item}
use Rattle.ev_body.specs.declared.key.Key.{Key}
use Rattle.ev_body.specs.declared.key.Side.TheVariants.{User}
use Rattle.ev_abstract.specs.Run.{trace}
use Rattle.ev_abstract.specs.declared.entry.Entry.{Entry}
use Rattle.ev_abstract.specs.declared.script_line.Line.{Line}
use Rattle.ev_concrete.specs.RunText.{run_text}
use Rattle.ev_examples.proofs.Computes.{computing}
use Rattle.ev_examples.proofs.ComputesConcrete.{stepping}
use Rattle.ev_examples.proofs.Documents.{body, ends_of, output_of, simple, turns}

-- the text that calls and counts up, and a body that shows its vector
unfoldable pub plain_call : KernelImage
plain_call = simple 1 (MovImm 0 5 ∷ Syscall ∷ Ins.Alu AluOp.Add 0 0 ∷ Jmp (negsuc 19) ∷ []) (body Key.Sys User (Item.Log 7 ∷ Item.Ret ∷ []) ∷ [])

unfoldable pub five_turns : List Line
five_turns = turns 0 5

entries : trace plain_call five_turns ≡ Entry.Enter 0 Key.Sys EventType.Other User 1 0 0 (Some 0x40000c) ∷ Entry.Log 0 0x100 ∷ []
unfolding computing plain_call five_turns
entries = refl

tasks : ends_of plain_call five_turns ≡ codes "idt task 0 0 rip 40000f flags 40202 gs 0 rax a rcx 40000c r11 40202\n"
unfolding computing plain_call five_turns
tasks = refl

output : output_of plain_call five_turns ≡
    codes "idt 0 enter sys type 7 user depth 1 error 0 data 0 rip 40000c\nfred 0 enter sys type 7 user depth 1 error 0 data 0 rip 40000c\n"
    ++ codes "idt 0 log 100\nfred 0 log 100\nidt task 0 0 rip 40000f flags 40202 gs 0 rax a rcx 40000c r11 40202\nidt steps 80 frames 0 low none\n"
    ++ codes "fred task 0 0 rip 40000f flags 40202 gs 0 rax a rcx 40000c r11 40202\nfred steps 74 frames 1 low ffffc90000003fc0\n"
unfolding stepping plain_call five_turns
output = refl

output_with_frames : run_text plain_call five_turns (Fred ∷ []) true ≡
    codes "fred 0 frame ffffc90000003fc0 0 40000c 33 40202 0 220700010002002b 0 0\nfred 0 enter sys type 7 user depth 1 error 0 data 0 rip 40000c\nfred 0 log 100\n"
    ++ codes "fred task 0 0 rip 40000f flags 40202 gs 0 rax a rcx 40000c r11 40202\nfred steps 74 frames 1 low ffffc90000003fc0\n"
unfolding stepping plain_call five_turns
output_with_frames = refl

output_without_turns : output_of plain_call [] ≡
    codes "idt task 0 0 rip 400000 flags 40202 gs 0\nidt steps 0 frames 0 low none\nfred task 0 0 rip 400000 flags 40202 gs 0\nfred steps 0 frames 0 low none\n"
unfolding stepping plain_call
output_without_turns = refl
