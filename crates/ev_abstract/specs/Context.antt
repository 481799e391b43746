-- The contexts of the abstract machine: tasks and bodies. Own.
use Rattle.std.specs.Prelude.{ℕ, suc, ◌-◌, Bool, List, get_or, set, Option}
use Rattle.ev_isa.specs.Flags.{Status}
use Rattle.ev_body.specs.declared.key.Side.{Side}

-- a cross call, by the processor and the call site that it comes from
pub record CallId : Type 0 where
  pub from : ℕ
  pub site : ℕ

-- A body that was entered and has not returned, with its own locals, flags and calls.
pub record BodyContext : Type 0 where
  pub body : ℕ  -- the body's number
  pub side : Side  -- User or Kernel
  pub place : ℕ  -- the number of the next item
  pub locals : List ℕ  -- rsi, rdi, r8 to r13
  pub flags : Option Status  -- None where they are unknown
  pub interrupts : Bool  -- IF
  pub service : Option ℕ  -- the class of the interrupt in service
  pub calls : List CallId  -- the calls still to run

-- the local that is this register
abbrev pub local : BodyContext → ℕ → ℕ
local c r = get_or c.locals (r - 6) 0

-- the context in which local r holds v; locals are registers from number 6 on
abbrev pub with_local : BodyContext → ℕ → ℕ → BodyContext
with_local c r v = record c { locals = set c.locals (r - 6) v }

-- the context at its next item
abbrev pub onward : BodyContext → BodyContext
onward c = record c { place = suc c.place }

-- the context at item n
abbrev pub at_place : BodyContext → ℕ → BodyContext
at_place c n = record c { place = n }
