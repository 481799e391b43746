-- An NMI after SYSCALL and none to three edges, before the first item of the body. Under IDT RSP, and at first the GS base, are still the user's.
use Rattle.std.specs.Prelude.{◌≡◌, refl, List, [], ◌∷◌, ◌++◌, flat_map, codes}
use Rattle.ev_isa.specs.Spelling.{spelling}
use Rattle.ev_isa.specs.declared.instruction.Ins.TheVariants.{Syscall}
use Rattle.ev_isa.specs.declared.mode.Mode.TheVariants.{Fred, Idt}
use Rattle.ev_body.specs.Bodies.{fill}
use Rattle.ev_body.specs.KernelImage.{KernelImage}
use Rattle.ev_body.specs.declared.item.Item.{Item}
use Rattle.ev_body.specs.declared.key.Key.{Key}
use Rattle.ev_body.specs.declared.key.Side.TheVariants.{Both, User}
use Rattle.ev_abstract.specs.EntryText.{Text}
use Rattle.ev_abstract.specs.declared.script_line.Line.{Line}
use Rattle.ev_abstract.specs.declared.script_line.Line.TheVariants.{Arrive, Edge}
use Rattle.ev_examples.proofs.ComputesConcrete.{stepping}
use Rattle.ev_examples.proofs.Documents.{body, output_of, start_at, turns, user_line}

unfoldable pub early_nmi : KernelImage
early_nmi = record {
  processors = 2;
  nest = 2;
  pages = 0 ∷ [];
  cells = [];
  text = flat_map spelling (Syscall ∷ []);
  tasks = (start_at 0x400000 0 ∷ []) ∷ (start_at 0x400000 0x10000000 ∷ []) ∷ [];
  bodies = fill (body Key.Sys User (Item.Ret ∷ []) ∷ body Key.Nmi Both (Item.Cpu 9 ∷ Item.Log 9 ∷ Item.Ret ∷ []) ∷ []);
}

unfoldable pub after_edges : List Line → List Line
after_edges stops = turns 1 1 ++ stops ++ Arrive 1 Key.Nmi ∷ turns 1 5

after_none : output_of early_nmi (after_edges []) ≡
    codes "idt 1 enter sys type 7 user depth 1 error 0 data 0 rip 400002\nfred 1 enter sys type 7 user depth 1 error 0 data 0 rip 400002\n"
    ++ codes "idt 1 enter nmi type 2 kernel depth 2 error 0 data 0 rip -\nfred 1 enter nmi type 2 kernel depth 2 error 0 data 0 rip -\nidt 1 log 1\nfred 1 log 1\n"
    ++ codes "idt task 0 0 rip 400000 flags 40202 gs 0\nidt task 1 0 rip 400002 flags 40202 gs 10000000 rcx 400002 r11 40202\n"
    ++ codes "idt steps 180 frames 1 low ffffc90000113fd8\nfred task 0 0 rip 400000 flags 40202 gs 0\n"
    ++ codes "fred task 1 0 rip 400002 flags 40202 gs 10000000 rcx 400002 r11 40202\nfred steps 131 frames 2 low ffffc90000103fc0\n"
unfolding stepping early_nmi after_edges
after_none = refl

after_one : output_of early_nmi (after_edges (Edge 1 1 ∷ [])) ≡
    codes "idt 1 enter sys type 7 user depth 1 error 0 data 0 rip 400002\nfred 1 enter sys type 7 user depth 1 error 0 data 0 rip 400002\n"
    ++ codes "idt 1 enter nmi type 2 kernel depth 2 error 0 data 0 rip -\nfred 1 enter nmi type 2 kernel depth 2 error 0 data 0 rip -\nidt 1 log 1\nfred 1 log 1\n"
    ++ codes "idt task 0 0 rip 400000 flags 40202 gs 0\nidt task 1 0 rip 400002 flags 40202 gs 10000000 rcx 400002 r11 40202\n"
    ++ codes "idt steps 178 frames 1 low ffffc90000113fd8\nfred task 0 0 rip 400000 flags 40202 gs 0\n"
    ++ codes "fred task 1 0 rip 400002 flags 40202 gs 10000000 rcx 400002 r11 40202\nfred steps 131 frames 2 low ffffc90000103fc0\n"
unfolding stepping early_nmi after_edges
after_one = refl

after_two : output_of early_nmi (after_edges (Edge 1 2 ∷ [])) ≡
    codes "idt 1 enter sys type 7 user depth 1 error 0 data 0 rip 400002\nfred 1 enter sys type 7 user depth 1 error 0 data 0 rip 400002\n"
    ++ codes "idt 1 enter nmi type 2 kernel depth 2 error 0 data 0 rip -\nfred 1 enter nmi type 2 kernel depth 2 error 0 data 0 rip -\nidt 1 log 1\nfred 1 log 1\n"
    ++ codes "idt task 0 0 rip 400000 flags 40202 gs 0\nidt task 1 0 rip 400002 flags 40202 gs 10000000 rcx 400002 r11 40202\n"
    ++ codes "idt steps 178 frames 1 low ffffc90000113fd8\nfred task 0 0 rip 400000 flags 40202 gs 0\n"
    ++ codes "fred task 1 0 rip 400002 flags 40202 gs 10000000 rcx 400002 r11 40202\nfred steps 131 frames 2 low ffffc90000103fc0\n"
unfolding stepping early_nmi after_edges
after_two = refl

after_three : output_of early_nmi (after_edges (Edge 1 3 ∷ [])) ≡
    codes "idt 1 enter sys type 7 user depth 1 error 0 data 0 rip 400002\nfred 1 enter sys type 7 user depth 1 error 0 data 0 rip 400002\n"
    ++ codes "idt 1 enter nmi type 2 kernel depth 2 error 0 data 0 rip -\nfred 1 enter nmi type 2 kernel depth 2 error 0 data 0 rip -\nidt 1 log 1\nfred 1 log 1\n"
    ++ codes "idt task 0 0 rip 400000 flags 40202 gs 0\nidt task 1 0 rip 400002 flags 40202 gs 10000000 rcx 400002 r11 40202\n"
    ++ codes "idt steps 178 frames 1 low ffffc90000113fd8\nfred task 0 0 rip 400000 flags 40202 gs 0\n"
    ++ codes "fred task 1 0 rip 400002 flags 40202 gs 10000000 rcx 400002 r11 40202\nfred steps 131 frames 2 low ffffc90000103fc0\n"
unfolding stepping early_nmi after_edges
after_three = refl

-- the registers of the two machines
unfoldable pub called_line : Text
called_line = codes " task 1 0 rip 400002 flags 40202 gs 10000000 rcx 400002 r11 40202\n"

idt_after_none : user_line Idt early_nmi (after_edges []) 1 0 ≡ called_line
unfolding stepping early_nmi after_edges called_line
idt_after_none = refl

idt_after_one : user_line Idt early_nmi (after_edges (Edge 1 1 ∷ [])) 1 0 ≡ called_line
unfolding stepping early_nmi after_edges called_line
idt_after_one = refl

idt_after_two : user_line Idt early_nmi (after_edges (Edge 1 2 ∷ [])) 1 0 ≡ called_line
unfolding stepping early_nmi after_edges called_line
idt_after_two = refl

idt_after_three : user_line Idt early_nmi (after_edges (Edge 1 3 ∷ [])) 1 0 ≡ called_line
unfolding stepping early_nmi after_edges called_line
idt_after_three = refl

fred_after_none : user_line Fred early_nmi (after_edges []) 1 0 ≡ called_line
unfolding stepping early_nmi after_edges called_line
fred_after_none = refl

fred_after_one : user_line Fred early_nmi (after_edges (Edge 1 1 ∷ [])) 1 0 ≡ called_line
unfolding stepping early_nmi after_edges called_line
fred_after_one = refl

fred_after_two : user_line Fred early_nmi (after_edges (Edge 1 2 ∷ [])) 1 0 ≡ called_line
unfolding stepping early_nmi after_edges called_line
fred_after_two = refl

fred_after_three : user_line Fred early_nmi (after_edges (Edge 1 3 ∷ [])) 1 0 ≡ called_line
unfolding stepping early_nmi after_edges called_line
fred_after_three = refl
