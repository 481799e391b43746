-- The events of user code as deliveries find them.
use Rattle.std.proofs.Common.{◌≡◌, ℕ, ◌+◌, ◌<◌, ◌≤◌, ne_eqb, Bool, true, false, ◌&&◌, Some, None, refl, sym, ap, ◌∙◌, arith}
use Rattle.std.specs.Prelude.{◌==◌, if◌then◌else◌}
use Rattle.ev_isa.specs.Word.{NatMap}
use Rattle.ev_event.specs.declared.event.Event.{Event}
use Rattle.ev_event.specs.declared.double_fault.Combined.TheVariants.{Serial}
use Rattle.ev_event.specs.Event.{has_error_code}
use Rattle.ev_event.specs.DoubleFault.{combine}
use Rattle.ev_state.specs.Processor.{Processor, is_user}
use Rattle.ev_state.specs.Outcome.{Went}
use Rattle.ev_apic.specs.declared.apic.Apic.{Apic}
use Rattle.ev_mem.specs.Memory.{Memory}
use Rattle.ev_proc.specs.Conditions.{IsDeliverable}
use Rattle.ev_proc.specs.ProcessorStep.{After, try, after_arrival, delivering}
use Rattle.ev_proc.specs.declared.stepped.Stepped.{Stepped}
use Rattle.ev_idt.specs.IdtDelivery.{syscall_idt}
use Rattle.ev_proc.proofs.Tries.{went, serial}
use Rattle.ev_user.specs.Causes.{Fault, Undefined, Protection, Page, Faulted, Debug, Breakpoint, Three, Refused, Call, Arrived, own_event, raised_event}
use Rattle.ev_user.specs.Deliveries.{IsOwn, Passes, EventsAreOwn, EventsPass, EventsAreDeliverable, ArrivesAtOnce, CallArrives, RefusalArrives, saving}

fault_own : (f : Fault) → IsOwn (own_event (Faulted f))
fault_own Undefined = record { no_nmi = λ e. cc; small = omega arith }
fault_own Fault.Stack = record { no_nmi = λ e. cc; small = omega arith }
fault_own Protection = record { no_nmi = λ e. cc; small = omega arith }
fault_own (Page code address) = record { no_nmi = λ e. cc; small = omega arith }
fault_own Fault.Alignment = record { no_nmi = λ e. cc; small = omega arith }

pub events_are_own : EventsAreOwn
events_are_own (Faulted f) h = (fault_own f, fault_own f)
events_are_own (Refused n) h = (
  record { no_nmi = λ e. cc; small = h.0 },
  record { no_nmi = λ e. cc; small = omega arith },
)
events_are_own Debug h = let k : IsOwn (own_event Debug) = record { no_nmi = λ e. cc; small = omega arith } in (k, k)
events_are_own Breakpoint h = let k : IsOwn (own_event Breakpoint) = record { no_nmi = λ e. cc; small = omega arith } in (k, k)
events_are_own Three h = let k : IsOwn (own_event Three) = record { no_nmi = λ e. cc; small = omega arith } in (k, k)
events_are_own Call h = let k : IsOwn (own_event Call) = record { no_nmi = λ e. cc; small = omega arith } in (k, k)
events_are_own (Arrived v) h = let k : IsOwn (own_event (Arrived v)) = record { no_nmi = λ e. cc; small = h.1 } in (k, k)

both_no : (b : Bool) → (b && false) ≡ false
both_no true = refl
both_no false = refl

fault_passes : (c : Processor) (f : Fault) → Passes c (own_event (Faulted f))
fault_passes c Undefined = record { passes = refl; other = λ e. let z : ⊥ = omega arith in z; error = refl }
fault_passes c Fault.Stack = record { passes = refl; other = λ e. let z : ⊥ = omega arith in z; error = refl }
fault_passes c Protection = record { passes = refl; other = λ e. let z : ⊥ = omega arith in z; error = refl }
fault_passes c (Page code address) = record { passes = refl; other = λ e. let z : ⊥ = omega arith in z; error = refl }
fault_passes c Fault.Alignment = record { passes = refl; other = λ e. let z : ⊥ = omega arith in z; error = refl }

-- no vector of an interrupt has an error code
pub interrupts_have_none : (v : ℕ) → 32 ≤ v → has_error_code v ≡ false
interrupts_have_none v h = rw (
  other 8 (omega arith),
  other 10 (omega arith),
  other 11 (omega arith),
  other 12 (omega arith),
  other 13 (omega arith),
  other 14 (omega arith),
  other 17 (omega arith),
  other 21 (omega arith),
) refl
  where
    other : (n : ℕ) → n < 32 → (v == n) ≡ false
    other n l = ne_eqb v n (λ e. let z : ⊥ = omega arith in z)

pub events_pass : EventsPass
events_pass c (Faulted f) h = fault_passes c f
events_pass c (Refused n) h = record { passes = refl; other = λ e. let z : ⊥ = omega arith in z; error = refl }
events_pass c Debug h = record { passes = refl; other = λ e. let z : ⊥ = omega arith in z; error = refl }
events_pass c Breakpoint h = record { passes = both_no (is_user c); other = λ e. let z : ⊥ = omega arith in z; error = refl }
events_pass c Three h = record { passes = both_no (is_user c); other = λ e. let z : ⊥ = omega arith in z; error = refl }
events_pass c Call h = record { passes = refl; other = λ e. let z : ⊥ = omega arith in z; error = refl }
events_pass c (Arrived v) h = record { passes = refl; other = λ e. let l = h.0 in let z : ⊥ = omega arith in z; error = sym (interrupts_have_none v h.0) }

pub events_are_deliverable : EventsAreDeliverable
events_are_deliverable c (Faulted f) h = pick f
  where
    pick : (f : Fault) → IsDeliverable c (own_event (Faulted f))
    pick Undefined = record { short = omega arith; kind = λ k e. cc }
    pick Fault.Stack = record { short = omega arith; kind = λ k e. cc }
    pick Protection = record { short = omega arith; kind = λ k e. cc }
    pick (Page code address) = record { short = omega arith; kind = λ k e. cc }
    pick Fault.Alignment = record { short = omega arith; kind = λ k e. cc }
events_are_deliverable c (Refused n) h = record { short = omega arith; kind = λ k e. cc }
events_are_deliverable c Debug h = record { short = omega arith; kind = λ k e. cc }
events_are_deliverable c Breakpoint h = record { short = omega arith; kind = λ k e. cc }
events_are_deliverable c Three h = record { short = omega arith; kind = λ k e. cc }
events_are_deliverable c Call h = record { short = omega arith; kind = λ k e. h k refl }
events_are_deliverable c (Arrived v) h = record { short = omega arith; kind = λ k e. cc }

-- ---- tries

pub arrives : (c d : Processor) (a : Apic) (m : Memory) (nmi : Bool) (words : NatMap ℕ) (frame : ℕ) (e : Event) (rip : ℕ)
    → try (record c { rip = rip }) m e false ≡ Went d words frame → delivering c a m nmi e rip ≡ after_arrival a nmi (d, words, Some (e, frame))
arrives c d a m nmi words frame e rip h = ap (after_arrival a nmi) (sym (went 3 4 (record c { rip = rip }) d c.rip frame m words e false refl (sym h)))

pub arrives_at_once : ArrivesAtOnce
arrives_at_once c d a m nmi words frame (Faulted f) other h = arrives c d a m nmi words frame (own_event (Faulted f)) (c.rip + (own_event (Faulted f)).length) h
arrives_at_once c d a m nmi words frame Debug other h = arrives c d a m nmi words frame (own_event Debug) (c.rip + 1) h
arrives_at_once c d a m nmi words frame Breakpoint other h = arrives c d a m nmi words frame (own_event Breakpoint) (c.rip + 1) h
arrives_at_once c d a m nmi words frame Three other h = arrives c d a m nmi words frame (own_event Three) (c.rip + 2) h
arrives_at_once c d a m nmi words frame (Refused n) other h = arrives c d a m nmi words frame (own_event (Refused n)) (c.rip + 2) h
arrives_at_once c d a m nmi words frame Call other h = absurd (other refl)
arrives_at_once c d a m nmi words frame (Arrived v) other h = arrives c d a m nmi words frame (own_event (Arrived v)) (c.rip + 0) h

pub call_arrives : CallArrives
call_arrives c d a m nmi words frame fred h =
    let called : After = record {
      cpu = syscall_idt (record c { rip = c.rip + 2 });
      apic = a;
      words = m.words;
      nmi = nmi;
      step = Stepped.Delivered (own_event Call) None;
    } in
    ap (λ b. if b then delivering c a m nmi (own_event Call) (c.rip + 2) else called) fred ∙ arrives c d a m nmi words frame (own_event Call) (c.rip + 2) h

-- INT n is benign, so that its fault is delivered in its place
serial_refusal : (n : ℕ) → combine (own_event (Refused n)) (raised_event (Refused n)) ≡ Serial
unfolding combine
serial_refusal n = refl

pub refusal_arrives : RefusalArrives
refusal_arrives c d a m nmi words frame n h k =
    let s : Processor = saving c (Refused n) in
    let e : Event = own_event (Refused n) in
    let f : Event = raised_event (Refused n) in
    ap (after_arrival a nmi)
    (sym (serial 3 4 s s c.rip m e f false refl (sym h) (sym (serial_refusal n))) ∙ sym (went 2 3 c d c.rip frame m words f true refl (sym k)))
