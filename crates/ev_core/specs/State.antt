-- The machine's parts as lists, and the system that they show. Own.
use Rattle.std.specs.Prelude.{◌≡◌, ℕ, ◌<◌, ◌≤◌, List, length, slice_get, Some}
use Rattle.ev_state.specs.Processor.{Processor}
use Rattle.ev_mem.specs.Mapped.{MappedWords, memory}
use Rattle.ev_trace.specs.FrameText.{Totals}
use Rattle.ev_proc.specs.Conditions.{HasEntries, IsInCode}
use Rattle.ev_concrete.specs.ConcreteRun.{System, Marks, concrete_step, edges}
use Rattle.ev_concrete.specs.Depth.{bodies_on, told_bodies}
use Rattle.ev_core.specs.declared.local.Local.{Local}

pub record Parts : Type 0 where
  pub cpus : List Processor
  pub locals : List Local
  pub mem : MappedWords
  pub totals : Totals

-- what the parts keep
pub record AreParts (cpus : List Processor) (locals : List Local) (totals : Totals) : Type 0 where
  pub same : length locals ≡ length cpus
  pub few : length cpus < 256
  pub frames : totals.frames ≤ totals.steps

-- what belongs to processor p of a system besides its registers
abbrev pub local_of : System → ℕ → Local
local_of s p = record { apic = s.apics p; latch = s.latches p; inbox = s.inboxes p; depth = bodies_on s p }

-- the parts show the first n processors of a system, its memory and its totals
pub record Shows (n : ℕ) (v : Parts) (s : System) : Type 0 where
  pub processors : length v.cpus ≡ n
  pub cpu : (p : ℕ) → p < n → slice_get v.cpus p ≡ Some (s.cpus p)
  pub own : (p : ℕ) → p < n → slice_get v.locals p ≡ Some (local_of s p)
  pub memory : memory v.mem ≡ s.memory
  pub totals : v.totals ≡ s.totals

-- a step of processor p tells how many bodies stand behind it
abbrev pub TellsBodies : ℕ → System → ℕ → Type 0
TellsBodies n s p = bodies_on (concrete_step n s p).0 p ≡ told_bodies s p

-- and so does each step behind edges of p
abbrev pub EdgesTell : Marks → ℕ → System → ℕ → Type 0
EdgesTell marks n s p = (k : ℕ) → TellsBodies n (edges k marks n s p).0 p

-- what a step of processor p asks of the parts
pub record CanStep (v : Parts) (p : ℕ) : Type 0 where
  pub entries : (c : Processor) → slice_get v.cpus p ≡ Some c → HasEntries c (memory v.mem)
  pub in_code : (c : Processor) → slice_get v.cpus p ≡ Some c → IsInCode c (memory v.mem)
  pub depth : (l : Local) → slice_get v.locals p ≡ Some l → l.depth < 255
