-- Steps of user code (SDM volume 3, chapter 6 for the events; which instructions are decoded at CPL 3 is own).
use Rattle.std.specs.Prelude.{ℕ, ◌+◌, ◌-◌, ◌*◌, Bool, true, false, ◌==◌, if◌then◌else◌, List, ◌++◌, length, take, drop, replicate, Option, Some, None, Result, Ok, Err}
use Rattle.ev_isa.specs.Word.{NatMap}
use Rattle.ev_isa.specs.declared.instruction.Ins.{Ins}
use Rattle.ev_isa.specs.declared.instruction.Ins.TheVariants.{IntN, Int3, Int1, Syscall, Sti, Cli, Ud2}
use Rattle.ev_isa.specs.Instruction.{user_may}
use Rattle.ev_isa.specs.Spelling.{spelling}
use Rattle.ev_isa.specs.Reading.{reading}
use Rattle.ev_event.specs.declared.event.EventType.{EventType}
use Rattle.ev_event.specs.declared.event.Event.{Event}
use Rattle.ev_event.specs.Event.{ud, gp, pf, software}
use Rattle.ev_event.specs.declared.event.EventType.TheVariants.{SoftInt, Other}
use Rattle.ev_isa.specs.Pages.{Access, fault_at, place_of, UserMemory, text_base, View}
use Rattle.ev_effect.specs.Task.{Task}
use Rattle.ev_effect.specs.Effect.{Changed, effect}

-- an access to data by user code
abbrev pub user_access : Bool → Access
user_access write = record { user = true; write = write; fetch = false }

-- what one step of user code comes to: the task goes on, or an event is raised with this saved RIP
pub data UserStep : Type 0 where
  Goes : Task → NatMap ℕ → UserStep
  Raises : (saved : ℕ) → Event → UserStep

-- the step is the effect of an instruction, or what it raises
abbrev pub step_of : Task → Result Changed Event → UserStep
step_of t (Ok u) = Goes u.0 u.1
step_of t (Err e) = Raises t.rip e

-- one instruction, with the address of the next
unfoldable pub executed : View → Task → ℕ → Ins → UserStep
executed m t next Int1 = Raises next (software EventType.Int1 1 1)
executed m t next Int3 = Raises next (software EventType.Int3 3 1)
executed m t next Syscall = Raises next (software Other 1 2)
executed m t next (IntN n) = if n == 3 then Raises next (software SoftInt 3 2) else Raises t.rip (gp (8 * n + 2))
executed m t next Sti = Raises t.rip (gp 0)
executed m t next Cli = Raises t.rip (gp 0)
executed m t next Ud2 = Raises t.rip ud
executed m t next i = if user_may i then step_of t (effect m (record t { rip = next }) i) else Raises t.rip ud

-- what was read at RIP: an instruction, or bytes that begin with none
abbrev pub read_step : View → Task → Option Ins → UserStep
read_step m t None = Raises t.rip ud
read_step m t (Some i) = executed m t (t.rip + length (spelling i)) i

-- the fifteen bytes of the text from an address on
abbrev pub text_bytes : List ℕ → ℕ → List ℕ
text_bytes text a = take 15 (drop (a - text_base) text ++ replicate 15 0)

-- how user code sees its memory
abbrev pub user_view : UserMemory → View
user_view m = record { fault = λ write a. fault_at m.present (user_access write) (place_of a); words = m.words }

-- the step at RIP, which may be a page fault of the fetch
abbrev pub fetch_step : UserMemory → Task → Option ℕ → UserStep
fetch_step m t None = read_step (user_view m) t (reading (text_bytes m.text t.rip))
fetch_step m t (Some code) = Raises t.rip (pf code t.rip)

-- one step of user code
unfoldable pub user_step : UserMemory → Task → UserStep
user_step m t = fetch_step m t (fault_at m.present (record { user = true; write = false; fetch = true }) (place_of t.rip))
