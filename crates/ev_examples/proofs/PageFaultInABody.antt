-- A page fault of a body that writes a user word: the item is made again.
use Rattle.std.specs.Prelude.{◌≡◌, refl, [], ◌∷◌, ◌++◌, true, codes}
use Rattle.ev_isa.specs.declared.instruction.Ins.TheVariants.{Syscall}
use Rattle.ev_isa.specs.declared.mode.Mode.TheVariants.{Fred, Idt}
use Rattle.ev_body.specs.KernelImage.{KernelImage}
use Rattle.ev_body.specs.declared.item.Item.{Item}
use Rattle.ev_body.specs.declared.key.Key.{Key}
use Rattle.ev_body.specs.declared.key.Side.TheVariants.{Kernel, User}
use Rattle.ev_concrete.specs.RunText.{run_text}
use Rattle.ev_examples.proofs.ComputesConcrete.{stepping}
use Rattle.ev_examples.proofs.Documents.{body, output_of, simple, turns}

unfoldable pub write_in_body : KernelImage
write_in_body = simple 2 (Syscall ∷ [])
    (body Key.Sys User (Item.Set 9 0x10001000 ∷ Item.Uput 9 7 ∷ Item.Uget 10 9 ∷ Item.Log 10 ∷ Item.Ret ∷ []) ∷ body Key.Pf Kernel
    (Item.Map 8 ∷ Item.Ret ∷ []) ∷ [])

output_with_frames : run_text write_in_body (turns 0 9) (Idt ∷ Fred ∷ []) true ≡
    codes "idt 0 enter sys type 7 user depth 1 error 0 data 0 rip 400002\nfred 0 frame ffffc90000003fc0 0 400002 33 40202 0 220700010002002b 0 0\n"
    ++ codes "fred 0 enter sys type 7 user depth 1 error 0 data 0 rip 400002\nidt 0 frame ffffc90000003f20 2 ffffffff8200001a 10 2 ffffc90000003f50 18\n"
    ++ codes "idt 0 enter pf type 3 kernel depth 2 error 2 data 10001000 rip -\n"
    ++ codes "fred 0 frame ffffc90000003ec0 2 ffffffff8200001a 10 2 ffffc90000003f40 203000e00000018 10001000 0\n"
    ++ codes "fred 0 enter pf type 3 kernel depth 2 error 2 data 10001000 rip -\nidt 0 log 100\nfred 0 log 100\n"
    ++ codes "idt task 0 0 rip 400002 flags 40202 gs 0 rcx 400002 r11 40202\nidt steps 157 frames 1 low ffffc90000003f20\n"
    ++ codes "fred task 0 0 rip 400002 flags 40202 gs 0 rcx 400002 r11 40202\nfred steps 148 frames 2 low ffffc90000003ec0\n"
unfolding stepping write_in_body
output_with_frames = refl

-- the fault, the mapping and the write, and no `ret` yet
output_before_return : output_of write_in_body (turns 0 8) ≡
    codes "idt 0 enter sys type 7 user depth 1 error 0 data 0 rip 400002\nfred 0 enter sys type 7 user depth 1 error 0 data 0 rip 400002\n"
    ++ codes "idt 0 enter pf type 3 kernel depth 2 error 2 data 10001000 rip -\nfred 0 enter pf type 3 kernel depth 2 error 2 data 10001000 rip -\nidt 0 log 100\n"
    ++ codes "fred 0 log 100\nidt busy 0 depth 1\nidt steps 156 frames 1 low ffffc90000003f20\nfred busy 0 depth 1\nfred steps 147 frames 2 low ffffc90000003ec0\n"
unfolding stepping write_in_body
output_before_return = refl
