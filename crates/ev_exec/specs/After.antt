-- A processor, memory and the answer after an instruction. Own.
use Rattle.std.specs.Prelude.{ℕ, Result, Ok}
use Rattle.ev_event.specs.declared.event.Event.{Event}
use Rattle.ev_exec.specs.declared.outcome.Outcome.{Outcome}
use Rattle.ev_exec.specs.declared.outcome.Outcome.TheVariants.{Done as IsDone, Raise as Raises, Special as IsSpecial}
use Rattle.ev_state.specs.Processor.{Processor, task_of, with_effect}
use Rattle.ev_effect.specs.Task.{Task}
use Rattle.ev_effect.specs.Effect.{◌>>=◌}
use Rattle.ev_mem.specs.Memory.{Memory}
use Rattle.ev_exec.specs.Exec.{Executed, Done, Raise, Special, completed, changed}

pub record After : Type 0 where
  pub cpu : Processor
  pub mem : Memory
  pub outcome : Outcome

-- what an instruction leaves: an event, and an instruction that isn't made here, leave all as it was
abbrev pub after : Processor → Memory → Executed → After
after c m (Done c' words) = record { cpu = c'; mem = record m { words = words }; outcome = IsDone }
after c m (Raise e) = record { cpu = c; mem = m; outcome = Raises e }
after c m Special = record { cpu = c; mem = m; outcome = IsSpecial }

-- what an instruction sees of a processor, with RIP at the next instruction
abbrev pub task_at : Processor → ℕ → Task
task_at c next = record (task_of c) { rip = next }

-- the processor after an instruction that leaves this
abbrev pub done : Processor → Task → Processor
done c t = with_effect (completed c) t

-- a jump changes the processor alone
abbrev pub jump_effect : Processor → Memory → Result Task Event → Executed
jump_effect c m r = changed c (r >>= (λ (t : Task). Ok (t, m.words)))
