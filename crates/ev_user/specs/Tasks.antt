-- A processor that runs a task: it is the processor of the opening, with the task's state. Own.
use Rattle.std.specs.Prelude.{◌≡◌, ℕ, Bool, true, List, [], ◌∷◌, length}
use Rattle.ev_isa.specs.Word.{is_canonical}
use Rattle.ev_isa.specs.Flags.{flags_word}
use Rattle.ev_isa.specs.declared.mode.Mode.{Mode}
use Rattle.ev_isa.specs.declared.mode.Mode.TheVariants.{Idt, Fred}
use Rattle.ev_body.specs.declared.image.Image.{Image}
use Rattle.ev_effect.specs.Task.{Task}
use Rattle.ev_state.specs.Processor.{Processor}
use Rattle.ev_listing.specs.AddressMap.{task_selector, stack_top}
use Rattle.ev_concrete.specs.Opening.{opening_cpu}
use Rattle.ev_user.specs.Words.{AreWords}

-- what holds of every task
pub record IsTask (t : Task) : Type 0 where
  pub long : length t.regs ≡ 16
  pub canonical : is_canonical t.rip ≡ true
  pub interrupts : t.flags.interrupts ≡ true
  pub words : AreWords t.regs

-- RSP of level 0 while task r runs: under IDT it stays that of task 0
abbrev pub level_zero : Mode → ℕ → ℕ → ℕ
level_zero Fred p r = stack_top p r
level_zero Idt p r = stack_top p 0

-- RSP of each level
abbrev pub level_rsps : Mode → ℕ → ℕ → List ℕ
level_rsps mode p r = level_zero mode p r ∷ stack_top p 6 ∷ stack_top p 4 ∷ stack_top p 5 ∷ []

-- the processor p as its task r has it, where the task is t; CR2 and the blocking of NMIs are any
abbrev pub task_processor : Mode → Image → ℕ → ℕ → Task → ℕ → Bool → Processor
task_processor mode image p r t cr2 blocked = record (opening_cpu mode image p) {
  regs = t.regs;
  rip = t.rip;
  flags = flags_word t.flags;
  gs = task_selector p r;
  cr2 = cr2;
  nmi_blocked = blocked;
  msrs = record ((opening_cpu mode image p).msrs) { gs_base = t.gs; rsp = level_rsps mode p r };
}

-- the processor c runs task r, which is t
pub record RunsTask (mode : Mode) (image : Image) (p r : ℕ) (t : Task) (c : Processor)
    : Type 0 where
  pub is : c ≡ task_processor mode image p r t c.cr2 c.nmi_blocked
  pub task : IsTask t
