-- What deliveries find of the events of user code, as the contract of this crate states it. Own.
use Rattle.std.specs.Prelude.{◌≡◌, ◌≢◌, ℕ, ◌+◌, ◌^◌, ◌<◌, Bool, true, false, ◌&&◌, nat_lt, Some}
use Rattle.ev_isa.specs.Word.{NatMap}
use Rattle.ev_event.specs.declared.event.Event.{Event}
use Rattle.ev_event.specs.declared.event.EventType.TheVariants.{Nmi}
use Rattle.ev_event.specs.Event.{has_error_code, is_hardware}
use Rattle.ev_state.specs.Processor.{Processor, is_user}
use Rattle.ev_state.specs.Outcome.{Went, Met}
use Rattle.ev_apic.specs.declared.apic.Apic.{Apic}
use Rattle.ev_mem.specs.Memory.{Memory}
use Rattle.ev_idt.specs.IdtDelivery.{is_gated}
use Rattle.ev_proc.specs.Conditions.{IsDeliverable}
use Rattle.ev_proc.specs.ProcessorStep.{has_fred, try, after_arrival}
use Rattle.ev_concrete.specs.Opening.{gate}
use Rattle.ev_user.specs.Causes.{Cause, Refused, Call, IsCause, own_event, raised_event, raising}

-- an event that is no NMI, and whose vector is a byte
pub record IsOwn (e : Event) : Type 0 where
  pub no_nmi : e.kind ≢ Nmi
  pub small : e.vector < 2 ^ 8

-- Of an event that is raised: the kernel's gate is open to user code and isn't that of NMIs, and
-- the event has an error code if its vector has.
pub record Passes (c : Processor) (e : Event) : Type 0 where
  pub passes : (is_gated e.kind && is_user c && nat_lt (gate e.vector).dpl 3) ≡ false
  pub other : e.vector ≢ 2
  pub error : (is_hardware e.kind && has_error_code e.vector) ≡ has_error_code e.vector

-- so it is of every cause, with the event that is raised too
abbrev pub EventsAreOwn : Type 0
EventsAreOwn = (cause : Cause) → IsCause cause
    → IsOwn (own_event cause) × IsOwn (raised_event cause)

-- the kernel's gates are open to what is raised
abbrev pub EventsPass : Type 0
EventsPass = (c : Processor) (cause : Cause) → IsCause cause → Passes c (raised_event cause)

-- each can be delivered, but that without FRED a system call isn't delivered as an event
abbrev pub EventsAreDeliverable : Type 0
EventsAreDeliverable = (c : Processor) (cause : Cause)
    → (has_fred c ≡ false → cause ≢ Call) → IsDeliverable c (own_event cause)

-- what the first try of a delivery starts from: the task's processor with the RIP that is saved
abbrev pub saving : Processor → Cause → Processor
saving c cause = record c { rip = c.rip + (own_event cause).length }

-- where the first try goes on, so does the step, with the event's frame
abbrev pub ArrivesAtOnce : Type 0
ArrivesAtOnce = (c d : Processor) (a : Apic) (m : Memory) (nmi : Bool) (words : NatMap ℕ)
    (frame : ℕ) (cause : Cause) → cause ≢ Call
    → try (saving c cause) m (own_event cause) false ≡ Went d words frame
    → raising c a m nmi cause ≡ after_arrival a nmi (d, words, Some (own_event cause, frame))

-- under FRED so it is of a system call too
abbrev pub CallArrives : Type 0
CallArrives = (c d : Processor) (a : Apic) (m : Memory) (nmi : Bool) (words : NatMap ℕ)
    (frame : ℕ) → has_fred c ≡ true
    → try (saving c Call) m (own_event Call) false ≡ Went d words frame
    → raising c a m nmi Call ≡ after_arrival a nmi (d, words, Some (own_event Call, frame))

-- INT n through a gate that is closed to it: where the delivery of the general protection fault
-- goes on, which saves RIP of the instruction, so does the step
abbrev pub RefusalArrives : Type 0
RefusalArrives = (c d : Processor) (a : Apic) (m : Memory) (nmi : Bool) (words : NatMap ℕ)
    (frame n : ℕ)
    → try (saving c (Refused n)) m (own_event (Refused n)) false
    ≡ Met (saving c (Refused n)) (raised_event (Refused n))
    → try c m (raised_event (Refused n)) true ≡ Went d words frame
    → raising c a m nmi (Refused n)
    ≡ after_arrival a nmi (d, words, Some (raised_event (Refused n), frame))
