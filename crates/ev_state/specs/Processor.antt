-- The state of a processor (SDM volume 1, 3.4; FRED specification for the stack level).
use Rattle.std.specs.Prelude.{◌≡◌, ◌⊎◌, ◌<◌, true, ℕ, ◌%◌, ◌^◌, Bool, ◌==◌, List}
use Rattle.ev_isa.specs.Word.{is_canonical}
use Rattle.ev_isa.specs.Flags.{Status, flags_word, flags_of, modelled}
use Rattle.ev_effect.specs.Task.{Task, reg, with_reg}
use Rattle.ev_state.specs.Msr.{Msrs, bases_exchanged}

-- The state of a processor but for its local APIC and the NMI latch.
pub record Processor : Type 0 where
  pub regs : List ℕ  -- 16 registers
  pub rip : ℕ
  pub flags : ℕ  -- RFLAGS
  pub cr2 : ℕ
  pub cr4 : ℕ  -- FRED is bit 32
  pub cpl : ℕ  -- 0 or 3
  pub level : ℕ  -- the stack level
  pub cs : ℕ
  pub ss : ℕ
  pub gs : ℕ
  pub nmi_blocked : Bool
  pub sti_blocked : Bool
  pub idt : ℕ  -- the bases of the tables
  pub tss : ℕ
  pub msrs : Msrs
  pub gdt : List (ℕ × ℕ)  -- the selectors of the descriptors, with their bases

-- what a processor's state keeps
pub record IsProcessor (rip flags cpl level : ℕ) : Type 0 where
  pub rip_canonical : is_canonical rip ≡ true
  pub flags_modelled : flags ≡ modelled flags
  pub ring : (cpl ≡ 0) ⊎ (cpl ≡ 3)
  pub level_small : level < 4

-- CPL is 3; the only other one is 0
abbrev pub is_user : Processor → Bool
is_user c = c.cpl == 3

-- what an instruction's effect sees of a processor, and the processor after the effect
abbrev pub task_of : Processor → Task
task_of c = record { regs = c.regs; rip = c.rip; flags = flags_of c.flags; gs = c.msrs.gs_base }

-- the processor whose registers, RIP and flags are those of a task
abbrev pub with_effect : Processor → Task → Processor
with_effect c t = record c { regs = t.regs; rip = t.rip; flags = flags_word t.flags }

-- register r
abbrev pub register : Processor → ℕ → ℕ
register c r = reg (task_of c) r

-- the processor in which register r holds v
abbrev pub with_register : Processor → ℕ → ℕ → Processor
with_register c r v = record c { regs = (with_reg (task_of c) r v).regs }

-- RSP
abbrev pub rsp : Processor → ℕ
rsp c = register c 4

-- the processor with another RSP
abbrev pub with_rsp : Processor → ℕ → Processor
with_rsp c v = with_register c 4 v

-- the GS base and the kernel GS base are exchanged
abbrev pub gs_exchanged : Processor → Processor
gs_exchanged c = record c { msrs = bases_exchanged c.msrs }

-- a selector register holds the low 16 bits of what is loaded
abbrev pub selector : ℕ → ℕ
selector w = w % 2 ^ 16

-- IF, and RFLAGS with it on or off
abbrev pub interrupts_on : Processor → Bool
interrupts_on c = (flags_of c.flags).interrupts

-- RFLAGS with another IF
abbrev pub with_interrupts : ℕ → Bool → ℕ
with_interrupts flags b = flags_word (record (flags_of flags) { interrupts = b })

-- RFLAGS with these status flags
abbrev pub with_status : ℕ → Status → ℕ
with_status flags s = flags_word (record (flags_of flags) { status = s })
