-- Steps inside blocks, as steps of a processor.
use Rattle.std.specs.Prelude.{◌≡◌, ℕ, Bool, true, false, length, Some, None}
use Rattle.ev_isa.specs.Word.{NatMap}
use Rattle.ev_isa.specs.declared.instruction.Ins.{Ins}
use Rattle.ev_apic.specs.declared.apic.Apic.{Apic}
use Rattle.ev_state.specs.Processor.{Processor}
use Rattle.ev_mem.specs.Memory.{Memory, page_fault}
use Rattle.ev_proc.specs.ProcessorStep.{executed, ran, instruction_at}
use Rattle.ev_symbolic.specs.State.{Block}
use Rattle.ev_symbolic.specs.Agrees.{Env, untracked, with_words, Within, Cell, Code, edge_cell, At}

-- memory holds the code's bytes, and the kernel can fetch them
abbrev pub Fetches : Code → Memory → Type 0
Fetches code m = (a : ℕ) (x : Cell) → code a ≡ Some x → (page_fault m (record { user = false; write = false; fetch = true }) a ≡ None)
    × (instruction_at m.words a ≡ Some x.ins)

-- a step from a state in a block to the next state of that block
pub record Inside (code : Code) (b : Block) (k : ℕ) (e : Env) (c : Processor) (m : Memory) : Type 0 where
  pub ins : Ins
  pub next : ℕ
  pub stands : code c.rip ≡ Some (edge_cell ins next)
  pub cpu : Processor
  pub words : NatMap ℕ
  pub runs : (a : Apic) (nmi : Bool) → executed c a m nmi (Some ins) ≡ ran cpu a words nmi
  pub there : At code b k e cpu (with_words m words)
  pub long : length cpu.regs ≡ length c.regs
  pub same : untracked cpu ≡ untracked c
  pub blocking : cpu.nmi_blocked ≡ c.nmi_blocked
  pub within : Within e b.ground.own b.ground.shared m.words words
