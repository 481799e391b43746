-- A page fault of user code, and the access that is made again.
use Rattle.std.specs.Prelude.{◌≡◌, refl, pos, [], ◌∷◌, ◌++◌, codes}
use Rattle.ev_isa.specs.declared.instruction.Ins.TheVariants.{Load, MovImm, Store}
use Rattle.ev_isa.specs.declared.mode.Mode.TheVariants.{Fred, Idt}
use Rattle.ev_body.specs.KernelImage.{KernelImage}
use Rattle.ev_body.specs.declared.item.Item.{Item}
use Rattle.ev_body.specs.declared.key.Key.{Key}
use Rattle.ev_body.specs.declared.key.Side.TheVariants.{User}
use Rattle.ev_examples.proofs.ComputesConcrete.{stepping}
use Rattle.ev_examples.proofs.Documents.{body, output_of, simple, turns, user_line}

-- a write to an absent page, which the body maps, and a read of what was written
unfoldable pub absent_page : KernelImage
absent_page = simple 1 (MovImm 3 0x10000000 ∷ Store 3 (pos 0) 3 ∷ Load 1 3 (pos 0) ∷ []) (body Key.Pf User (Item.Map 8 ∷ Item.Ret ∷ []) ∷ [])

output : output_of absent_page (turns 0 6) ≡
    codes "idt 0 enter pf type 3 user depth 1 error 6 data 10000000 rip 40000a\nfred 0 enter pf type 3 user depth 1 error 6 data 10000000 rip 40000a\n"
    ++ codes "idt task 0 0 rip 400018 flags 40202 gs 0 rcx 10000000 rbx 10000000\nidt steps 83 frames 1 low ffffc90000003fd0\n"
    ++ codes "fred task 0 0 rip 400018 flags 40202 gs 0 rcx 10000000 rbx 10000000\nfred steps 80 frames 1 low ffffc90000003fc0\n"
unfolding stepping absent_page
output = refl

-- the registers of the two machines
idt_task : user_line Idt absent_page (turns 0 6) 0 0 ≡ codes " task 0 0 rip 400018 flags 40202 gs 0 rcx 10000000 rbx 10000000\n"
unfolding stepping absent_page
idt_task = refl

fred_task : user_line Fred absent_page (turns 0 6) 0 0 ≡ codes " task 0 0 rip 400018 flags 40202 gs 0 rcx 10000000 rbx 10000000\n"
unfolding stepping absent_page
fred_task = refl
