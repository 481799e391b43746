-- A second call at a call site whose first call isn't done.
use Rattle.std.specs.Prelude.{◌≡◌, refl, [], ◌∷◌, ◌++◌, codes}
use Rattle.ev_body.specs.KernelImage.{KernelImage}
use Rattle.ev_body.specs.declared.item.Item.{Item}
use Rattle.ev_body.specs.declared.key.Key.{Key}
use Rattle.ev_body.specs.declared.key.Side.TheVariants.{User}
use Rattle.ev_abstract.specs.declared.script_line.Line.TheVariants.{Accept}
use Rattle.ev_examples.proofs.ComputesConcrete.{stepping}
use Rattle.ev_examples.proofs.CrossingCalls.{call_handler, calling}
use Rattle.ev_examples.proofs.Documents.{body, output_of, turns}

unfoldable pub calling_twice : KernelImage
calling_twice = calling (body Key.Sys User (Item.Call 0 1 0 12 ∷ Item.Kick 1 12 ∷ Item.Call 0 1 0 13 ∷ Item.Kick 1 13 ∷ Item.Log 13 ∷ Item.Ret ∷ []))

output : output_of calling_twice (turns 0 6 ++ Accept 1 ∷ turns 1 6) ≡
    codes "idt 0 enter sys type 7 user depth 1 error 0 data 0 rip 400002\nfred 0 enter sys type 7 user depth 1 error 0 data 0 rip 400002\n"
    ++ codes "idt 0 call 0 1 to 1 func 0 arg 0\nfred 0 call 0 1 to 1 func 0 arg 0\nidt 0 busy 0\nfred 0 busy 0\nidt 0 log 0\nfred 0 log 0\n"
    ++ codes "idt 1 enter irqfb type 0 user depth 1 error 0 data 0 rip 400000\nfred 1 enter irqfb type 0 user depth 1 error 0 data 0 rip 400000\nidt 1 log 0\n"
    ++ codes "fred 1 log 0\nidt 1 ran 0 0 1\nfred 1 ran 0 0 1\nidt busy 0 depth 1\nidt task 1 0 rip 400000 flags 40202 gs 0\n"
    ++ codes "idt steps 218 frames 1 low ffffc90000103fd8\nfred busy 0 depth 1\nfred task 1 0 rip 400000 flags 40202 gs 0\n"
    ++ codes "fred steps 209 frames 2 low ffffc90000003fc0\n"
unfolding stepping call_handler calling calling_twice
output = refl
