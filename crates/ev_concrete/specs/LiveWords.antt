-- Which words of memory are live: activations, the stacks that they stand on, and the saved areas of tasks. Own.
use Rattle.std.specs.Prelude.{◌≡◌, ℕ, ◌+◌, ◌-◌, Bool, true, false, not, ◌&&◌, ◌||◌, nat_lt, nat_le, ◌==◌, List, [], ◌∷◌, length, map, filter, min, Option, Some, None}
use Rattle.std.specs.List.{list_any}
use Rattle.ev_isa.specs.Word.{NatMap, numbers_from}
use Rattle.ev_isa.specs.declared.instruction.Ins.{Ins}
use Rattle.ev_isa.specs.declared.instruction.Ins.TheVariants.{Sysretq}
use Rattle.ev_body.specs.declared.image.Image.{Image}
use Rattle.ev_state.specs.Processor.{is_user}
use Rattle.ev_listing.specs.AddressMap.{pcpu, task_words, stack_top, stack_bytes, sys_entry, exit_entry, nmi_entry, repeat_entry}
use Rattle.ev_proc.specs.ProcessorStep.{instruction_at}
use Rattle.ev_isa.specs.declared.mode.Mode.{Mode}
use Rattle.ev_isa.specs.declared.mode.Mode.TheVariants.{Idt, Fred}
use Rattle.ev_concrete.specs.Opening.{tasks_of}
use Rattle.ev_effect.specs.Frame.{addresses}
use Rattle.ev_concrete.specs.ConcreteRun.{System, Activation, interrupted, concrete_step}
use Rattle.ev_event.specs.declared.frame_note.FrameNote.{FrameNote}

-- ---- where activations stand

-- An activation stands on the stack that holds its RSP or has it as its top. Under IDT it stands nowhere at the first three instructions of SYS
-- (SWAPGS of 3 bytes, then two moves of 9) and at SYSRETQ.
abbrev pub is_homeless : Mode → NatMap ℕ → ℕ → Bool
is_homeless Fred words rip = false
is_homeless Idt words rip = (rip == sys_entry) || (rip == sys_entry + 3) || (rip == sys_entry + 12) || is_sysret (instruction_at words rip)
  where
    is_sysret : Option Ins → Bool
    is_sysret (Some Sysretq) = nat_le exit_entry rip
    is_sysret _ = false

-- whether an activation stands on stack n
abbrev pub stands_on : Mode → NatMap ℕ → ℕ → ℕ → Activation → Bool
stands_on mode words p n a = not (is_homeless mode words a.rip) && nat_le (stack_top p n - stack_bytes) a.rsp && nat_le a.rsp (stack_top p n)

-- the lowest of numbers; None where there is none
abbrev pub lowest : List ℕ → Option ℕ
lowest [] = None
lowest (x ∷ xs) = Some (least x xs)
  where
    least : ℕ → List ℕ → ℕ
    least a [] = a
    least a (y ∷ ys) = least (min a y) ys

-- the activations of p that stand on stack n, each with the RSP and RIP that it has now
abbrev pub standing : Mode → System → ℕ → ℕ → List Activation
standing mode s p n = filter (stands_on mode s.memory.words p n) (interrupted (s.cpus p) (s.activations p))

-- from the lowest number on
abbrev pub is_from : Option ℕ → ℕ → Bool
is_from None address = false
is_from (Some low) address = nat_le low address

-- Under IDT the NMI stack's words from T - 38H up count only where an inner NMI stands there, or where FIRST hasn't set `running` for its activation: the
-- processor is in the block of NMI, and `running` isn't 1.
abbrev pub is_open : Mode → System → ℕ → ℕ → List Activation → ℕ → Bool
is_open Fred s p n on address = true
is_open Idt s p n on address =
    not (n == 4) || nat_lt address (stack_top p 4 - 0x38) || list_any (λ (a : Activation). a.inner) on
    || (nat_le nmi_entry (s.cpus p).rip && nat_lt (s.cpus p).rip repeat_entry && not (s.memory.words (stack_top p 4 - 0x40) == 1))

-- the first case: the words in use of stack n
abbrev pub is_in_use : Mode → System → ℕ → ℕ → ℕ → Bool
is_in_use mode s p n address =
    let on : List Activation = standing mode s p n in
    nat_lt address (stack_top p n) && is_from (lowest (map (λ (a : Activation). a.rsp) on)) address && is_open mode s p n on address

-- the second case: the saved area of a task that no activation uses
abbrev pub area_bytes : Mode → ℕ
area_bytes Idt = 0xb0
area_bytes Fred = 0xc0

-- whether p is in user code of its task i
abbrev pub runs_task : System → ℕ → ℕ → Bool
runs_task s p i = is_user (s.cpus p) && (s.memory.words (pcpu p + 0x18) == task_words p i)

-- whether the address is in the saved area of task i of p, which waits
abbrev pub is_kept : Mode → System → ℕ → ℕ → ℕ → Bool
is_kept mode s p i address =
    nat_le (stack_top p i - area_bytes mode) address && nat_lt address (stack_top p i)
    && not (list_any (λ (a : Activation). nat_lt a.rsp (stack_top p i)) (standing mode s p i)) && not (runs_task s p i)

-- the word at an address is live on processor p, which has so many tasks
abbrev pub is_live_on : Mode → System → ℕ → ℕ → ℕ → Bool
is_live_on mode s address tasks p =
    list_any (λ n. is_in_use mode s p n address) (numbers_from 0 7) || list_any (λ i. is_kept mode s p i address) (numbers_from 0 tasks)

-- the word at an address is live
unfoldable pub is_live : Mode → Image → System → ℕ → Bool
is_live mode image s address = list_any (λ p. is_live_on mode s address (length (tasks_of image p)) p) (numbers_from 0 image.processors)

-- whether a frame holds a word that is live in a state
abbrev pub overwrites : Mode → Image → System → FrameNote → Bool
overwrites mode image s f = list_any (is_live mode image s) (addresses f.address (length f.words.items))

-- a step of p from s writes over no live word
abbrev pub IsSafeStep : Mode → Image → System → ℕ → Type 0
IsSafeStep mode image s p = list_any (overwrites mode image s) (concrete_step image.processors s p).1 ≡ false
