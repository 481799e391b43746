-- The effect of an instruction on a processor and memory, for all but those that deliver, return, or reach MSRs (SDM volume 2).
use Rattle.std.specs.Prelude.{ℕ, Bool, true, false, not, ◌&&◌, if◌then◌else◌, Option, Some, None, Result, Ok, Err}
use Rattle.ev_isa.specs.Word.{NatMap}
use Rattle.ev_isa.specs.declared.instruction.Ins.{Ins}
use Rattle.ev_isa.specs.declared.instruction.Ins.TheVariants.{IntN, Int3, Int1, Syscall, Ud2, Sysretq, Iretq, Eretu, Erets, Rdmsr, Wrmsr, Swapgs, Lkgs, Sti, Cli, MovGs, ReadCr2, WriteCr2}
use Rattle.ev_event.specs.declared.event.Event.{Event}
use Rattle.ev_event.specs.Event.{gp}
use Rattle.ev_state.specs.Processor.{Processor, is_user, task_of, with_effect, register, with_register, selector, interrupts_on, with_interrupts}
use Rattle.ev_mem.specs.Memory.{Memory, view}
use Rattle.ev_effect.specs.Effect.{Changed, effect}
use Rattle.ev_state.specs.Outcome.{Outcome, Went, Met}
use Rattle.ev_state.specs.Descriptors.{base_of}

-- What comes of an instruction: its effect, an event, or that it is one of those that `step` makes.
pub data Executed : Type 0 where
  Done : Processor → NatMap ℕ → Executed
  Raise : Event → Executed
  Special : Executed

-- a completed instruction ends the blocking by STI
abbrev pub completed : Processor → Processor
completed c = record c { sti_blocked = false }

-- the processor at the next instruction
abbrev pub at_next : Processor → ℕ → Processor
at_next c next = record (completed c) { rip = next }

-- the effect of a plain instruction on a processor
abbrev pub changed : Processor → Result Changed Event → Executed
changed c (Ok r) = Done (with_effect (completed c) r.0) r.1
changed c (Err e) = Raise e

-- an instruction that goes on to the next, or raises an event
abbrev pub by_outcome : ℕ → Outcome → Executed
by_outcome next (Went c words frame) = Done (at_next c next) words
by_outcome next (Met c e) = Raise e

-- STI and CLI: #GP(0) for user code. After STI with IF off, no interrupt and no NMI comes at the next boundary.
abbrev pub in_interrupts : Processor → Bool → Processor
in_interrupts c b = record c { flags = with_interrupts c.flags b; sti_blocked = b && not (interrupts_on c) }

-- `mov gs`: the selector's base goes into the GS base
abbrev pub with_gs : Processor → NatMap ℕ → ℕ → Option ℕ → Outcome
with_gs c words s None = Met c (gp s)
with_gs c words s (Some base) = Went (record c { gs = s; msrs = record c.msrs { gs_base = base } }) words 0

-- a move into GS: the base of the selector's descriptor goes into the GS base
unfoldable pub mov_gs : Processor → NatMap ℕ → ℕ → Outcome
mov_gs c words s = with_gs c words s (base_of c.gdt s)

-- The effect of an instruction, behind which the next one stands at this address.
unfoldable pub exec : Processor → Memory → Ins → ℕ → Executed
exec c m (IntN n) next = Special
exec c m Int3 next = Special
exec c m Int1 next = Special
exec c m Syscall next = Special
exec c m Ud2 next = Special
exec c m Sysretq next = Special
exec c m Iretq next = Special
exec c m Eretu next = Special
exec c m Erets next = Special
exec c m Rdmsr next = Special
exec c m Wrmsr next = Special
exec c m Swapgs next = Special
exec c m (Lkgs s) next = Special
exec c m Sti next = if is_user c then Raise (gp 0) else Done (in_interrupts (at_next c next) true) m.words
exec c m Cli next = if is_user c then Raise (gp 0) else Done (in_interrupts (at_next c next) false) m.words
exec c m (MovGs s) next = by_outcome next (mov_gs c m.words (selector (register c s)))
exec c m (ReadCr2 d) next = Done (with_register (at_next c next) d c.cr2) m.words
exec c m (WriteCr2 s) next = Done (record (at_next c next) { cr2 = register c s }) m.words
exec c m i next = changed c (effect (view m (is_user c)) (record (task_of c) { rip = next }) i)
