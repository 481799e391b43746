-- What user code raises (SDM volume 3, chapter 6; volume 2, INT n, INT1, INT3, SYSCALL). Which of
-- them there are is own.
use Rattle.std.specs.Prelude.{◌≡◌, ◌≢◌, ℕ, ◌+◌, ◌*◌, ◌^◌, ◌<◌, ◌≤◌, Bool, true, false}
use Rattle.ev_isa.specs.Word.{is_canonical}
use Rattle.ev_event.specs.declared.event.EventType.{EventType}
use Rattle.ev_event.specs.declared.event.EventType.TheVariants.{SoftInt, Other}
use Rattle.ev_event.specs.declared.event.Event.{Event}
use Rattle.ev_event.specs.Event.{ud, ss, gp, pf, ac, software, interrupt_event}
use Rattle.ev_state.specs.Processor.{Processor}
use Rattle.ev_apic.specs.declared.apic.Apic.{Apic}
use Rattle.ev_mem.specs.Memory.{Memory}
use Rattle.ev_proc.specs.ProcessorStep.{After, delivering, system_call}

-- invalid opcode, stack-segment fault, general protection, page fault with its error code and
-- address, alignment check
pub data Fault : Type 0 where
  Undefined : Fault
  Stack : Fault
  Protection : Fault
  Page : (code address : ℕ) → Fault
  Alignment : Fault

-- its event
abbrev pub fault_event : Fault → Event
fault_event Undefined = ud
fault_event Stack = ss 0
fault_event Protection = gp 0
fault_event (Page code address) = pf code address
fault_event Alignment = ac

-- a fault, or what an instruction raises by itself: INT1, INT3, INT 3 in two bytes, another INT n,
-- SYSCALL; or no instruction but an interrupt, which comes first
pub data Cause : Type 0 where
  Faulted : Fault → Cause
  Debug : Cause
  Breakpoint : Cause
  Three : Cause
  Refused : ℕ → Cause
  Call : Cause
  Arrived : (vector : ℕ) → Cause

-- whether an instruction raises it
abbrev pub is_own : Cause → Bool
is_own (Arrived v) = false
is_own cause = true

-- the event that the processor begins to deliver
abbrev pub own_event : Cause → Event
own_event (Faulted f) = fault_event f
own_event Debug = software EventType.Int1 1 1
own_event Breakpoint = software EventType.Int3 3 1
own_event Three = software SoftInt 3 2
own_event (Refused n) = software SoftInt n 2
own_event Call = software Other 1 2
own_event (Arrived v) = interrupt_event v

-- the event that the abstract machine raises: INT n is a general protection fault, with the vector
-- in its error code
abbrev pub raised_event : Cause → Event
raised_event (Refused n) = gp (8 * n + 2)
raised_event cause = own_event cause

-- page faults are at canonical addresses, INT n has a vector other than 3, and an interrupt none of
-- an exception
abbrev pub IsCause : Cause → Type 0
IsCause (Faulted (Page code address)) = (code < 32) × (is_canonical address ≡ true)
IsCause (Refused n) = (n < 2 ^ 8) × (n ≢ 3)
IsCause (Arrived v) = (32 ≤ v) × (v < 2 ^ 8)
IsCause _ = Unit {0}

-- The step that delivers it. A fault or an interrupt, which has no length, saves RIP of its instruction, and the
-- others that of the next.
abbrev pub raising : Processor → Apic → Memory → Bool → Cause → After
raising c a m nmi Call = system_call c a m nmi (c.rip + 2)
raising c a m nmi cause = delivering c a m nmi (own_event cause) (c.rip + (own_event cause).length)
