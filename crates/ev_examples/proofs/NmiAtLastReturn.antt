-- An NMI that comes at the last return of an NMI body.
use Rattle.std.specs.Prelude.{◌≡◌, refl, List, ◌∷◌, ◌++◌, codes}
use Rattle.ev_isa.specs.declared.mode.Mode.TheVariants.{Fred, Idt}
use Rattle.ev_body.specs.declared.key.Key.{Key}
use Rattle.ev_abstract.specs.declared.script_line.Line.{Line}
use Rattle.ev_abstract.specs.declared.script_line.Line.TheVariants.{Arrive, Edge}
use Rattle.ev_examples.proofs.ComputesConcrete.{stepping}
use Rattle.ev_examples.proofs.Documents.{output_of, turns, user_line}
use Rattle.ev_examples.proofs.MergedNmis.{breakpoint_in_nmi}

unfoldable pub at_last_return : List Line
at_last_return = Arrive 0 Key.Nmi ∷ turns 0 3 ++ Edge 0 4096 ∷ Arrive 0 Key.Nmi ∷ turns 0 5

output : output_of breakpoint_in_nmi at_last_return ≡
    codes "idt 0 enter nmi type 2 user depth 1 error 0 data 0 rip 400000\nfred 0 enter nmi type 2 user depth 1 error 0 data 0 rip 400000\n"
    ++ codes "idt 0 enter bp type 6 kernel depth 2 error 0 data 0 rip -\nfred 0 enter bp type 6 kernel depth 2 error 0 data 0 rip -\n"
    ++ codes "idt 0 enter nmi type 2 user depth 1 error 0 data 0 rip 400000\nfred 0 enter nmi type 2 user depth 1 error 0 data 0 rip 400000\n"
    ++ codes "idt 0 enter bp type 6 kernel depth 2 error 0 data 0 rip -\nfred 0 enter bp type 6 kernel depth 2 error 0 data 0 rip -\n"
    ++ codes "idt task 0 0 rip 400000 flags 40202 gs 0\nidt steps 316 frames 4 low ffffc90000013eb8\nfred task 0 0 rip 400000 flags 40202 gs 0\n"
    ++ codes "fred steps 242 frames 4 low ffffc90000003ec0\n"
unfolding stepping breakpoint_in_nmi at_last_return
output = refl

-- the registers of the two machines
idt_task : user_line Idt breakpoint_in_nmi at_last_return 0 0 ≡ codes " task 0 0 rip 400000 flags 40202 gs 0\n"
unfolding stepping breakpoint_in_nmi at_last_return
idt_task = refl

fred_task : user_line Fred breakpoint_in_nmi at_last_return 0 0 ≡ codes " task 0 0 rip 400000 flags 40202 gs 0\n"
unfolding stepping breakpoint_in_nmi at_last_return
fred_task = refl
