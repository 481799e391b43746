-- Bodies that ask for another task: the first one's return switches to it, in both modes, by either return; with one task alone, which is its own next one; and
-- asked for twice.
use Rattle.std.specs.Prelude.{◌≡◌, refl, ℕ, negsuc, List, [], ◌∷◌, Bool, true, None, flat_map}
use Rattle.std.specs.List.{list_all}
use Rattle.ev_isa.specs.Spelling.{spelling}
use Rattle.ev_isa.specs.declared.instruction.Ins.TheVariants.{Int3, Jmp, MovImm, Syscall}
use Rattle.ev_isa.specs.declared.mode.Mode.{Mode}
use Rattle.ev_isa.specs.declared.mode.Mode.TheVariants.{Fred, Idt}
use Rattle.ev_body.specs.Bodies.{fill}
use Rattle.ev_body.specs.KernelImage.{KernelImage}
use Rattle.ev_body.specs.declared.item.Item.{Item}
use Rattle.ev_body.specs.declared.key.Key.{Key}
use Rattle.ev_body.specs.declared.key.Side.TheVariants.{User}
use Rattle.ev_body.specs.declared.image.TaskSpec.{TaskSpec}
use Rattle.ev_abstract.specs.Machine.{processor}
use Rattle.ev_abstract.specs.Rules.{rules}
use Rattle.ev_abstract.specs.Run.{run}
use Rattle.ev_examples.proofs.AgreementOfMachines.{agrees, comparing}
use Rattle.ev_examples.proofs.ComputesAcceptance.{deciding}
use Rattle.ev_examples.proofs.Documents.{body, start_at, turns}

-- A task that calls comes back by SYSRETQ. At 400002H RCX becomes the RIP that the breakpoint saves, so that a task which begins there differs in R11 alone.
unfoldable pub of_tasks : List TaskSpec → KernelImage
of_tasks tasks = record {
  processors = 1;
  nest = 1;
  pages = 0 ∷ [];
  cells = [];
  text = flat_map spelling (Syscall ∷ MovImm 1 0x40000d ∷ Int3 ∷ Jmp (negsuc 17) ∷ []);
  tasks = tasks ∷ [];
  bodies = fill (body Key.Sys User (Item.Resched ∷ Item.Resched ∷ Item.Ret ∷ []) ∷ body Key.Bp User (Item.Resched ∷ Item.Ret ∷ []) ∷ []);
}

unfoldable pub two : KernelImage
two = of_tasks (start_at 0x400000 0 ∷ start_at 0x400002 0x10000000 ∷ [])

unfoldable pub alone : KernelImage
alone = of_tasks (start_at 0x400000 0 ∷ [])

two_kept : rules two ≡ None
unfolding deciding of_tasks two
two_kept = refl

-- the running task after so many turns
unfoldable pub running_after : KernelImage → ℕ → ℕ
running_after image n = (processor (run image (turns 0 n)) 0).running

-- whether the machines agree after so many turns
unfoldable pub agree_after : Mode → KernelImage → List ℕ → Bool
agree_after mode image ns = list_all (λ n. agrees mode image (turns 0 n)) ns

-- the return of the fourth turn switches to task 1, which has neither RCX nor R11; that of the eighth back; that of the twelfth to task 1, with RCX alone
first_switch : (running_after two 3 ≡ 0)
unfolding comparing of_tasks two running_after
first_switch = refl

second_switch : (running_after two 4 ≡ 1)
unfolding comparing of_tasks two running_after
second_switch = refl

third_switch : (running_after two 8 ≡ 0)
unfolding comparing of_tasks two running_after
third_switch = refl

fourth_switch : (running_after two 12 ≡ 1)
unfolding comparing of_tasks two running_after
fourth_switch = refl

idt_agrees : agree_after Idt two (2 ∷ 3 ∷ 4 ∷ 5 ∷ 7 ∷ 8 ∷ 9 ∷ 11 ∷ 12 ∷ 13 ∷ []) ≡ true
unfolding comparing of_tasks two agree_after
idt_agrees = refl

fred_agrees : agree_after Fred two (2 ∷ 3 ∷ 4 ∷ 5 ∷ 7 ∷ 8 ∷ 9 ∷ 11 ∷ 12 ∷ 13 ∷ []) ≡ true
unfolding comparing of_tasks two agree_after
fred_agrees = refl

-- one task alone
idt_alone : agree_after Idt alone (3 ∷ 4 ∷ 5 ∷ 7 ∷ 8 ∷ 9 ∷ []) ≡ true
unfolding comparing of_tasks alone agree_after
idt_alone = refl

fred_alone : agree_after Fred alone (3 ∷ 4 ∷ 5 ∷ 7 ∷ 8 ∷ 9 ∷ []) ≡ true
unfolding comparing of_tasks alone agree_after
fred_alone = refl
