-- One try of a delivery, and the chain of tries.
use Rattle.std.proofs.Common.{◌≡◌, ◌+◌, ◌*◌, ◌/◌, ◌%◌, ℕ, suc, Bool, true, false, ◌&&◌, ◌==◌, nat_lt, if◌then◌else◌, List, length, reverse, Option, Some, None, refl, sym, ap, subst, ◌∙◌, arith}
use Rattle.ev_isa.specs.Word.{NatMap}
use Rattle.ev_event.specs.declared.event.Event.{Event}
use Rattle.ev_event.specs.declared.event.EventType.TheVariants.{Hardware}
use Rattle.ev_event.specs.declared.double_fault.Combined.{Combined}
use Rattle.ev_event.specs.declared.double_fault.Combined.TheVariants.{Serial, Shutdown}
use Rattle.ev_event.specs.DoubleFault.{combine}
use Rattle.ev_event.specs.Event.{gp, is_hardware}
use Rattle.ev_effect.specs.Frame.{first_event, addresses}
use Rattle.ev_gate.specs.declared.gate.Gate.{Gate}
use Rattle.ev_gate.specs.Gate.{gate_at}
use Rattle.ev_state.specs.Processor.{Processor, is_user}
use Rattle.ev_state.specs.Outcome.{Outcome, Went, Met, with_cr2, frame_written, below}
use Rattle.ev_mem.specs.Memory.{Memory, view}
use Rattle.ev_idt.specs.IdtDelivery.{idt_delivery, through_gate, is_gated, new_rsp, idt_frame, in_handler}
use Rattle.ev_idt.specs.Tables.{HasTables}
use Rattle.ev_fred.specs.FredDelivery.{fred_delivery, new_level, frame_top, fred_frame, in_fred_handler}
use Rattle.ev_proc.specs.ProcessorStep.{Arrival, try, deliveries, double_fault, has_fred}
use Rattle.ev_proc.specs.Conditions.{HasEntries, IsDeliverable, IsException, arrived}
use Rattle.ev_proc.proofs.Raised.{is_exception, IsNoOther, first}

-- what a delivery reads of the processor
pub record AreSame (c d : Processor) : Type 0 where
  pub cr4 : d.cr4 ≡ c.cr4
  pub idt : d.idt ≡ c.idt
  pub tss : d.tss ≡ c.tss

cr2_same : (c d : Processor) (b : Bool) (a : ℕ) → AreSame c d → AreSame c (if b then (let x : Processor = record d { cr2 = a } in x) else d)
cr2_same c d true a p = record { cr4 = p.cr4; idt = p.idt; tss = p.tss }
cr2_same c d false a p = p

pub with_cr2_same : (c d : Processor) (e : Event) → AreSame c d → AreSame c (with_cr2 d e)
with_cr2_same c d e p = cr2_same c d (is_hardware e.kind && (e.vector == 14)) e.info p

pub same : (c : Processor) → AreSame c c
same c = record { cr4 = refl; idt = refl; tss = refl }

abbrev pub IsAgain : Processor → Outcome → Type 0
IsAgain c (Went d words a) = Unit {0}
IsAgain c (Met d e) = AreSame c d × IsException e

written_again : (c d d' : Processor) (words : NatMap ℕ) (a : ℕ) (frame : List ℕ) (o : Option Event) → AreSame c d → IsNoOther o
    → IsAgain c (frame_written d d' words a frame o)
written_again c d d' words a frame None p q = tt
written_again c d d' words a frame (Some e) p q = (with_cr2_same c d e p, q)

choice : {A : Type 0} (P : A → Type 0) (b : Bool) (x y : A) → P x → P y → P (if b then x else y)
choice P true x y p q = p
choice P false x y p q = q

fred_again : (c : Processor) (m : Memory) (e : Event) (nested : Bool) → IsAgain c (fred_delivery c m e nested)
unfolding fred_delivery
fred_again c m e nested =
    let d : Processor = with_cr2 c e in
    let level : ℕ = new_level d e nested in
    let a : ℕ = below (frame_top d level) 8 in
    written_again c d (in_fred_handler d e level a) m.words a (fred_frame d e nested) (first_event (view m false) true (reverse (addresses a 8)))
    (with_cr2_same c c e (same c)) (first (view m false) true (reverse (addresses a 8)))

gate_again : (c d : Processor) (m : Memory) (e : Event) (g : Gate) → AreSame c d → IsAgain c (through_gate d m e g)
gate_again c d m e g p =
    let frame : List ℕ = idt_frame d e in
    let a : ℕ = below (new_rsp d m.words g) (length frame) in
    written_again c d (in_handler d g e.kind a) m.words a frame (first_event (view m false) true (reverse (addresses a (length frame)))) p
    (first (view m false) true (reverse (addresses a (length frame))))

idt_again : (c : Processor) (m : Memory) (e : Event) → IsAgain c (idt_delivery c m e)
unfolding idt_delivery
idt_again c m e =
    let g : Gate = gate_at m.words c.idt e.vector in
    choice (IsAgain c) (is_gated e.kind && is_user c && nat_lt g.dpl 3) (Met c (gp (8 * e.vector + 2))) (through_gate (with_cr2 c e) m e g)
    (same c, is_exception 13 (8 * e.vector + 2) 0) (gate_again c (with_cr2 c e) m e g (with_cr2_same c c e (same c)))

pub try_again : (c : Processor) (m : Memory) (e : Event) (nested : Bool) → IsAgain c (try c m e nested)
try_again c m e nested = choice (IsAgain c) (has_fred c) (fred_delivery c m e nested) (idt_delivery c m e) (fred_again c m e nested) (idt_again c m e)

-- the conditions of the next try
pub entries_kept : (c d : Processor) (m : Memory) → AreSame c d → HasEntries c m → HasEntries d m
entries_kept c d m s h = record {
  tables = λ no_fred. let t : HasTables c m = h.tables (ap (λ (x : ℕ). x / 4294967296 % 2 == 1) (sym s.cr4) ∙ no_fred) in record {
    idt_aligned = rw s.idt t.idt_aligned;
    tss_aligned = rw s.tss t.tss_aligned;
    idt_mapped = rw s.idt t.idt_mapped;
    tss_mapped = rw s.tss t.tss_mapped;
    handlers = rw s.idt t.handlers;
  };
}

pub exception_deliverable : (c : Processor) (e : Event) → IsException e → IsDeliverable c e
exception_deliverable c e x = record {
  short = let n : e.length ≡ 0 = x.no_length in omega arith;
  kind = λ no_fred other. let k : e.kind ≡ Hardware =
      x.kind in cc;
}

-- the chain
pub at_end : (c : Processor) (rip : ℕ) (m : Memory) (e : Event) (nested : Bool) → arrived c m None ≡ deliveries 0 c rip m e nested
unfolding deliveries
at_end c rip m e nested = refl

abbrev by_combined : ℕ → Processor → ℕ → Memory → Event → Combined → Arrival
by_combined n c' rip m e' x = elim x [
  | Serial ↦ deliveries n (record c' { rip = rip }) rip m e' true
  | Combined.Double ↦ deliveries n (record c' { rip = rip }) rip m double_fault true
  | Shutdown ↦ (c', m.words, None)
]

abbrev by_try : ℕ → ℕ → Memory → Event → Outcome → Arrival
by_try n rip m e o = elim o [
  | Went c' words a ↦ (c', words, Some (e, a))
  | Met c' e' ↦ by_combined n c' rip m e' (combine e e')
]

one : (n : ℕ) (c : Processor) (rip : ℕ) (m : Memory) (e : Event) (nested : Bool) → deliveries (suc n) c rip m e nested ≡ by_try n rip m e (try c m e nested)
unfolding deliveries
one n c rip m e nested = refl

pub went : (n k : ℕ) (c d : Processor) (rip a : ℕ) (m : Memory) (words : NatMap ℕ) (e : Event) (nested : Bool) → k ≡ suc n
    → Went d words a ≡ try c m e nested → (d, words, Some (e, a)) ≡ deliveries k c rip m e nested
went n k c d rip a m words e nested hk h =
    sym (ap (λ (x : ℕ). deliveries x c rip m e nested) hk ∙ one n c rip m e nested ∙ ap (λ (o : Outcome). by_try n rip m e o) (sym h))

met : (n k : ℕ) (c d : Processor) (rip : ℕ) (m : Memory) (e f : Event) (nested : Bool) (x : Combined) → k ≡ suc n → Met d f ≡ try c m e nested
    → x ≡ combine e f → deliveries k c rip m e nested ≡ by_combined n d rip m f x
met n k c d rip m e f nested x hk h hx =
    ap (λ (j : ℕ). deliveries j c rip m e nested) hk ∙ one n c rip m e nested ∙ ap (λ (o : Outcome). by_try n rip m e o) (sym h)
    ∙ ap (λ (y : Combined). by_combined n d rip m f y) (sym hx)

pub shut : (n k : ℕ) (c d : Processor) (rip : ℕ) (m : Memory) (e f : Event) (nested : Bool) → k ≡ suc n → Met d f ≡ try c m e nested
    → Shutdown ≡ combine e f → arrived d m None ≡ deliveries k c rip m e nested
shut n k c d rip m e f nested hk h hx = sym (met n k c d rip m e f nested Shutdown hk h hx)

pub serial : (n k : ℕ) (c d : Processor) (rip : ℕ) (m : Memory) (e f : Event) (nested : Bool) → k ≡ suc n → Met d f ≡ try c m e nested
    → Serial ≡ combine e f → deliveries n (record d { rip = rip }) rip m f true ≡ deliveries k c rip m e nested
serial n k c d rip m e f nested hk h hx = sym (met n k c d rip m e f nested Serial hk h hx)

pub double : (n k : ℕ) (c d : Processor) (rip : ℕ) (m : Memory) (e f : Event) (nested : Bool) → k ≡ suc n → Met d f ≡ try c m e nested
    → Combined.Double ≡ combine e f → deliveries n (record d { rip = rip }) rip m double_fault true ≡ deliveries k c rip m e nested
double n k c d rip m e f nested hk h hx = sym (met n k c d rip m e f nested Combined.Double hk h hx)

again : (c d : Processor) (m : Memory) (e f : Event) (nested : Bool) → Met d f ≡ try c m e nested → IsAgain c (Met d f)
again c d m e f nested h = let P : Outcome → Type 0 = λ o. IsAgain c o in subst P (sym h) (try_again c m e nested)

pub next_entries : (c d d' : Processor) (rip : ℕ) (m m' : Memory) (e f : Event) (nested : Bool) → Met d f ≡ try c m e nested → d' ≡ record d { rip = rip }
    → m' ≡ m → HasEntries c m → HasEntries d' m'
next_entries c d d' rip m m' e f nested h hd hm p =
    let a : IsAgain c (Met d f) = again c d m e f nested h in
    let s : AreSame c (record d { rip = rip }) = record { cr4 = a.0.cr4; idt = a.0.idt; tss = a.0.tss } in
    let q : HasEntries (record d { rip = rip }) m = entries_kept c (record d { rip = rip }) m s p in
    let P : Processor → Type 0 = λ x. HasEntries x m' in
    let Q : Memory → Type 0 = λ x. HasEntries (record d { rip = rip }) x in
    subst P (sym hd) (subst Q (sym hm) q)

pub next_event : (c d d' : Processor) (m : Memory) (e f : Event) (nested : Bool) → Met d f ≡ try c m e nested → IsDeliverable d' f
next_event c d d' m e f nested h = exception_deliverable d' f (again c d m e f nested h).1

pub double_fault_event : (d : Processor) (g : Event) → g ≡ double_fault → IsDeliverable d g
double_fault_event d g h = let P : Event → Type 0 = λ x. IsDeliverable d x in subst P (sym h) (exception_deliverable d double_fault (is_exception 8 0 0))

pub serial_to : (n k : ℕ) (c d d' : Processor) (rip : ℕ) (m m' : Memory) (e f : Event) (nested : Bool) (r : Arrival) → k ≡ suc n
    → Met d f ≡ try c m e nested → Serial ≡ combine e f → d' ≡ record d { rip = rip } → m' ≡ m → r ≡ deliveries n d' rip m' f true
    → r ≡ deliveries k c rip m e nested
serial_to n k c d d' rip m m' e f nested r hk h hx hd hm hr =
    hr ∙ ap (λ (x : Processor). deliveries n x rip m' f true) hd ∙ ap (λ (x : Memory). deliveries n (record d { rip = rip }) rip x f true) hm
    ∙ serial n k c d rip m e f nested hk h hx

pub double_to : (n k : ℕ) (c d d' : Processor) (rip : ℕ) (m m' : Memory) (e f g : Event) (nested : Bool) (r : Arrival) → k ≡ suc n
    → Met d f ≡ try c m e nested → Combined.Double ≡ combine e f → d' ≡ record d { rip = rip } → m' ≡ m → g ≡ double_fault
    → r ≡ deliveries n d' rip m' g true → r ≡ deliveries k c rip m e nested
double_to n k c d d' rip m m' e f g nested r hk h hx hd hm hg hr =
    hr ∙ ap (λ (x : Processor). deliveries n x rip m' g true) hd ∙ ap (λ (x : Memory). deliveries n (record d { rip = rip }) rip x g true) hm
    ∙ ap (λ (x : Event). deliveries n (record d { rip = rip }) rip m x true) hg ∙ double n k c d rip m e f nested hk h hx

pub shut_to : (n k : ℕ) (c d : Processor) (rip : ℕ) (m m' : Memory) (e f : Event) (nested : Bool) → k ≡ suc n → Met d f ≡ try c m e nested
    → Shutdown ≡ combine e f → m' ≡ m → arrived d m' None ≡ deliveries k c rip m e nested
shut_to n k c d rip m m' e f nested hk h hx hm = ap (λ (x : Memory). arrived d x None) hm ∙ shut n k c d rip m e f nested hk h hx
