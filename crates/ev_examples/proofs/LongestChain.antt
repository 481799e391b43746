-- An image that keeps the rules, and a legal chain of twenty of its bodies.
use Rattle.std.specs.Prelude.{◌≡◌, refl, ℕ, List, [], ◌∷◌, ◌++◌, true, false, None, map, length}
use Rattle.ev_isa.specs.declared.instruction.Ins.TheVariants.{Nop}
use Rattle.ev_body.specs.KernelImage.{KernelImage}
use Rattle.ev_body.specs.declared.body.Body.{Body}
use Rattle.ev_body.specs.declared.item.Item.{Item}
use Rattle.ev_body.specs.declared.key.Key.{Key}
use Rattle.ev_body.specs.declared.key.Side.TheVariants.{Both, Kernel, User}
use Rattle.ev_abstract.specs.Chain.{bodies_of, is_legal}
use Rattle.ev_abstract.specs.Rules.{rules}
use Rattle.ev_examples.proofs.ComputesAcceptance.{deciding}
use Rattle.ev_examples.proofs.Documents.{body, simple}

-- bodies that open interrupts, of fourteen rising classes
rising : List Body
rising = map (λ v. body (Key.Irq v) Both (Item.Sti ∷ Item.Bp ∷ Item.Cli ∷ Item.Eoi ∷ Item.Ret ∷ []))
    (0x20 ∷ 0x30 ∷ 0x40 ∷ 0x50 ∷ 0x60 ∷ 0x70 ∷ 0x80 ∷ 0x90 ∷ 0xa0 ∷ 0xb0 ∷ 0xc0 ∷ 0xd0 ∷ 0xe0 ∷ 0xf0 ∷ [])

deep : KernelImage
deep = simple 20 (Nop ∷ []) (body Key.Sys User (Item.Sti ∷ Item.Nop ∷ Item.Cli ∷ Item.Ret ∷ []) ∷ rising
    ++ body Key.Bp Kernel (Item.Set 9 0x10000000 ∷ Item.Uget 10 9 ∷ Item.Ret ∷ []) ∷ body Key.Pf Kernel (Item.Map 8 ∷ Item.Ret ∷ []) ∷ body Key.Nmi Both
    (Item.Bp ∷ Item.Ret ∷ []) ∷ [])

deep_kept : rules deep ≡ None
unfolding deciding deep rising
deep_kept = refl

-- the system call, the interrupts, a breakpoint with its page fault, NMI, and a breakpoint with its page fault again
chain : List ℕ
chain = 16 ∷ 15 ∷ 17 ∷ 16 ∷ 15 ∷ 14 ∷ 13 ∷ 12 ∷ 11 ∷ 10 ∷ 9 ∷ 8 ∷ 7 ∷ 6 ∷ 5 ∷ 4 ∷ 3 ∷ 2 ∷ 1 ∷ 0 ∷ []

chain_length : length chain ≡ 20
unfolding chain
chain_length = refl

chain_legal : is_legal (bodies_of deep chain) ≡ true
unfolding deciding deep rising chain
chain_legal = refl

-- the same with the NMI twice isn't legal
nmi_once : is_legal (bodies_of deep (17 ∷ chain)) ≡ false
unfolding deciding deep rising chain
nmi_once = refl
