-- What is proved of the executor, as the contracts of this crate state it.
use Rattle.std.specs.Prelude.{◌≡◌, ℕ, suc, ◌+◌, Bool, true, List, length, Some}
use Rattle.ev_isa.specs.Spelling.{spelling}
use Rattle.ev_isa.specs.declared.instruction.Ins.{Ins}
use Rattle.ev_event.specs.declared.boundary.Next.{Next}
use Rattle.ev_apic.specs.declared.apic.Apic.{Apic}
use Rattle.ev_state.specs.Processor.{Processor}
use Rattle.ev_mem.specs.Memory.{Memory}
use Rattle.ev_proc.specs.ProcessorStep.{ran, next_of, step}
use Rattle.ev_asm.specs.Assembly.{Places}
use Rattle.ev_listing.specs.Marks.{Listing}
use Rattle.ev_symbolic.specs.State.{Loc, SS, Ground, Block}
use Rattle.ev_symbolic.specs.Run.{sstep, brun}
use Rattle.ev_symbolic.specs.Agrees.{Env, addr, Code, Stands, Grounded, Agrees, Foreign, StepsIf, At}
use Rattle.ev_symbolic.specs.Listed.{lines_in, cells_in, AllFound, AreIn, are_low}
use Rattle.ev_symbolic.specs.Machine.{Fetches, Inside}

-- a symbolic step that gives an answer is what the processor does with the instruction
abbrev pub IsSound : Type 0
IsSound = (e : Env) (G : Ground) → Grounded e G → (i : Ins) (next : ℕ) (l : Loc) (s : SS) (c : Processor) (m : Memory)
    → Agrees e G s c m → c.rip + length (spelling i) ≡ next → next ≡ addr e l → StepsIf e G i (sstep G i l s) c m

-- where an instruction comes first at the boundary, a processor in a block goes to the block's next state
pub record RunsInside (code : Code) (b : Block) (k : ℕ) (e : Env) (c : Processor) (m : Memory) (a : Apic) (nmi : Bool) : Type 0 where
  pub to : Inside code b k e c m
  pub is : step c a m nmi ≡ ran to.cpu a to.words nmi

-- a processor in a block makes the step to the block's next state
abbrev pub StepsInside : Type 0
StepsInside = (code : Code) (b : Block) (k : ℕ) (e : Env) (c : Processor) (m : Memory) → At code b k e c m → (s : SS) → brun b (suc k) ≡ Some s
    → Fetches code m → (a : Apic) (nmi : Bool) → next_of c a nmi ≡ Next.Instruction → RunsInside code b (suc k) e c m a nmi

-- whoever leaves the private words of an activation alone leaves it where it stands
abbrev pub LeavesOthers : Type 0
LeavesOthers = (code : Code) (b : Block) (k : ℕ) (e : Env) (c : Processor) (m n : Memory) → At code b k e c m
    → n.regions ≡ m.regions → Foreign e b.ground.known m.words n.words → At code b k e c n

-- the lines of some of the listings stand in code that has the cells of all: so a block has the lines of the sections that it runs through
abbrev pub PartsStand : Type 0
PartsStand = (code : Code) (e : Env) → e.base 1000 ≡ 0 → (env : Places) (parts whole : List Listing) → AreIn parts whole
    → AllFound code (cells_in env whole) → are_low (cells_in env parts) ≡ true → Stands code e (lines_in env parts)
