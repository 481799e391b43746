-- What a plain instruction sees of a processor (SDM volume 1, 3.4), which is also all that a task has of one.
use Rattle.std.specs.Prelude.{ℕ, List, get_or, set}
use Rattle.ev_isa.specs.Flags.{Flags}

-- What user code has of a processor.
pub record Task : Type 0 where
  pub regs : List ℕ  -- 16 registers
  pub rip : ℕ
  pub flags : Flags
  pub gs : ℕ  -- the GS base

-- register r
abbrev pub reg : Task → ℕ → ℕ
reg t r = get_or t.regs r 0

-- the task in which register r holds v
abbrev pub with_reg : Task → ℕ → ℕ → Task
with_reg t r v = record t { regs = set t.regs r v }
