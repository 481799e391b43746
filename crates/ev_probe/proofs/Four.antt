-- No delivery is tried more than four times: INT n, #GP, #PF and #DF.
use Rattle.std.proofs.Common.{◌≡◌, ℕ, zero, suc, ◌+◌, ◌-◌, ◌*◌, ◌%◌, ◌^◌, ◌<◌, ◌≤◌, ◌⊎◌, ⊎_elim, inl, inr, Bool, true, false, ◌&&◌, ◌||◌, List, [], ◌∷◌, get_or, reverse, Option, Some, None, refl, sym, ap, ◌∙◌, subst, arith}
use Rattle.std.specs.Prelude.{if◌then◌else◌, nat_lt}
use mathlib.Core.List.{reverse_aux}
use Rattle.std.proofs.lemmas.Bool.{eq-eqb}
use Rattle.ev_isa.specs.Word.{NatMap, is_aligned, is_canonical, wrap}
use Rattle.ev_isa.specs.Pages.{View}
use Rattle.ev_event.specs.declared.double_fault.Combined.{Combined}
use Rattle.ev_event.specs.declared.double_fault.Combined.TheVariants.{Serial, Shutdown}
use Rattle.ev_event.specs.DoubleFault.{class_by, combine, combined, fault_class}
use Rattle.ev_event.specs.declared.event.Event.{Event}
use Rattle.ev_event.specs.declared.event.EventType.{EventType}
use Rattle.ev_event.specs.declared.event.EventType.TheVariants.{Hardware}
use Rattle.ev_event.specs.Event.{gp, ss}
use Rattle.ev_effect.specs.Effect.{access_event, page_event}
use Rattle.ev_effect.specs.Frame.{addresses, first_event, or_else, placed}
use Rattle.ev_state.specs.Processor.{Processor, is_user, rsp}
use Rattle.ev_state.specs.Outcome.{Outcome, Went, Met, below, frame_written, with_cr2}
use Rattle.ev_mem.specs.Memory.{Memory, view}
use Rattle.ev_idt.specs.IdtDelivery.{idt_delivery, idt_frame, in_handler, is_gated, through_gate}
use Rattle.ev_fred.specs.FredDelivery.{decrement, fred_delivery, fred_frame, frame_top, in_fred_handler, new_level}
use Rattle.ev_proc.specs.ProcessorStep.{double_fault, has_fred, try}
use Rattle.ev_concrete.specs.Opening.{gate, opening_word}
use Rattle.ev_listing.specs.AddressMap.{stack_top}
use Rattle.ev_tables.proofs.Gates.{upper_canonical}
use Rattle.ev_probe.specs.declared.line.Op.{Op}
use Rattle.ev_probe.specs.Probe.{bare, probe_cpu, probe_memory, report, with_try}
use Rattle.ev_probe.specs.ProbeLine.{event_of}
use Rattle.ev_probe.specs.Answer.{probe_of, told_from, told_of, words_by}
use Rattle.ev_probe.specs.BareMemory.{HoldsGates, HoldsStacks}
use Rattle.ev_probe.specs.Laws.{FourTriesSuffice}
use Rattle.ev_probe.proofs.Alike.{EndsWell, IsBare, by_gate, end_by, end_in, end_is, gate_is_pushed, idt_is, idt_size, new_level_small, noted_bare, pushed, size_small, top_in}
use Rattle.ev_probe.proofs.Tries.{by_combined, by_outcome, one_try}
use Rattle.ev_probe.proofs.Lines.{AreValues, are_values}
use Rattle.ev_probe.proofs.Processors.{is_delivery}
use Rattle.ev_probe.proofs.Opened.{opened_gates, opened_tss}
use Rattle.ev_probe.proofs.Same.{bare_cpu, vector_small}

-- ---- frames among the stacks meet page faults alone

abbrev IsPage : Option Event → Type 0
IsPage None = Unit {0}
IsPage (Some e) = (e.kind ≡ Hardware) × (e.vector ≡ 14)

abbrev AllGood : List ℕ → Type 0
AllGood [] = Unit {0}
AllGood (a ∷ as') = ((is_canonical a ≡ true) × (is_aligned a ≡ true)) × AllGood as'

good_turned : (xs ys : List ℕ) → AllGood xs → AllGood ys → AllGood (reverse_aux xs ys)
good_turned [] ys p q = q
good_turned (x ∷ xs) ys p q = good_turned xs (x ∷ ys) p.1 (p.0, q)

page_is : (o : Option ℕ) (a : ℕ) → IsPage (page_event o a)
page_is None a = tt
page_is (Some code) a = (refl, refl)

page_access : (m : View) (a : ℕ) → is_canonical a ≡ true → is_aligned a ≡ true → IsPage (access_event m true (ss 0) a)
unfolding access_event
page_access m a p q = rw (p, q) (page_is (m.fault true a) a)

page_either : (x y : Option Event) → IsPage x → IsPage y → IsPage (or_else x y)
page_either None y p q = q
page_either (Some e) y p q = p

page_first : (m : View) (as' : List ℕ) → AllGood as' → IsPage (first_event m true as')
page_first m [] p = tt
page_first m (a ∷ as') p =
    page_either (access_event m true (ss 0) a) (first_event m true as') (page_access m a p.0.0 p.0.1) (page_first m as' p.1)

good_addresses : (n a : ℕ) → a % 8 ≡ 0 → stack_top 0 0 - 0x4000 ≤ a → a + 8 * n ≤ stack_top 0 6 → AllGood (addresses a n)
good_addresses zero a e l h = tt
good_addresses (suc n) a e l h =
    let next : wrap (a + 8) ≡ a + 8 = omega arith in
    ((upper_canonical a (omega arith) (omega arith), eq-eqb (a % 8) 0 e), good_addresses n (wrap (a + 8)) (omega arith) (omega arith) (omega arith))

frame_pages : (m : Memory) (r n : ℕ) → n ≤ 8 → EndsWell r → r % 8 ≡ 0 → IsPage (first_event (view m false) true (reverse (addresses (below r n) n)))
frame_pages m r n few h e =
    let lo = h.0 in let hi = h.1 in
    let a : below r n ≡ r - 8 * n = omega arith in
    page_first (view m false) (reverse (addresses (below r n) n))
    (good_turned (addresses (below r n) n) [] (good_addresses n (below r n) (omega arith) (omega arith) (omega arith)) tt)

-- ---- what a try meets

-- a page fault, or #GP of a gate that is closed
pub record IsMet (gated : Bool) (d : Processor) (f : Event) : Type 0 where
  pub bare : IsBare d
  pub kind : f.kind ≡ Hardware
  pub vector : (f.vector ≡ 14) ⊎ ((gated ≡ true) × (f.vector ≡ 13))

abbrev Meets : Bool → Outcome → Type 0
Meets g (Went d words a) = Unit {0}
Meets g (Met d f) = IsMet g d f

written_meets : (g : Bool) (c c' : Processor) (words : NatMap ℕ) (a : ℕ) (frame : List ℕ) (o : Option Event) → IsBare c → IsPage o
    → Meets g (frame_written c c' words a frame o)
written_meets g c c' words a frame None b p = tt
written_meets g c c' words a frame (Some e) b p = record { bare = noted_bare c e b; kind = p.0; vector = inl p.1 }

along : (g : Bool) (o p : Outcome) → o ≡ p → Meets g p → Meets g o
along g o p e h = let P : Outcome → Type 0 = Meets g in subst P (sym e) h

gate_meets : (g : Bool) (m : Memory) (c : Processor) (e : Event) → HoldsStacks m.words → IsBare c → Meets g (through_gate c m e (gate e.vector))
gate_meets g m c e h b =
    let r : ℕ = end_by c e.vector in
    let k : ℕ = idt_size e in
    along g (through_gate c m e (gate e.vector)) (pushed c m e (gate e.vector) (below r k) k)
    (gate_is_pushed c m e (gate e.vector) r (end_is c m.words e.vector b h))
    (written_meets g c (in_handler c (gate e.vector) e.kind (below r k)) m.words (below r k) (idt_frame c e)
    (first_event (view m false) true (reverse (addresses (below r k) k))) b
    (frame_pages m r k (size_small _) (end_in c e.vector b) (omega arith)))

closed : (g u d : Bool) (c : Processor) (v : ℕ) (o : Outcome) → IsBare c → Meets g o → Meets g (if g && u && d then Met c (gp v) else o)
closed true true true c v o b h = record { bare = b; kind = refl; vector = inr (refl, refl) }
closed true true false c v o b h = h
closed true false d c v o b h = h
closed false u d c v o b h = h

idt_meets : (m : Memory) (c : Processor) (e : Event) → HoldsGates 512 m.words → HoldsStacks m.words → IsBare c → e.vector < 256
    → Meets (is_gated e.kind) (idt_delivery c m e)
idt_meets m c e hg hs b l =
    along (is_gated e.kind) (idt_delivery c m e) (by_gate c m e (gate e.vector)) (idt_is c m e b hg l)
    (closed (is_gated e.kind) (is_user c) (nat_lt (gate e.vector).dpl 3) c (8 * e.vector + 2) (through_gate (with_cr2 c e) m e (gate e.vector)) b
    (gate_meets (is_gated e.kind) m (with_cr2 c e) e hs (noted_bare c e b)))

rsp_aligned : (level : ℕ) → get_or (stack_top 0 0 ∷ stack_top 0 6 ∷ stack_top 0 4 ∷ stack_top 0 5 ∷ []) level 0 % 8 ≡ 0
rsp_aligned zero = refl
rsp_aligned (suc zero) = refl
rsp_aligned (suc (suc zero)) = refl
rsp_aligned (suc (suc (suc zero))) = refl
rsp_aligned (suc (suc (suc (suc n)))) = refl

top_aligned : (c : Processor) (level : ℕ) → IsBare c → frame_top c level % 8 ≡ 0
top_aligned c level b =
    by (is_user c || nat_lt c.level level) (get_or c.msrs.rsp level 0) (ap (λ (x : List ℕ). get_or x level 0 % 8) b.rsps ∙ rsp_aligned level)
    (wrap (rsp c + 2 ^ 64 - decrement c.msrs.config))
  where
    by : (t : Bool) (x : ℕ) → x % 8 ≡ 0 → (a : ℕ) → (if t then x else a - a % 64) % 8 ≡ 0
    by true x h a = h
    by false x h a = omega arith

fred_meets : (g : Bool) (m : Memory) (c : Processor) (e : Event) (nested : Bool) → IsBare c → Meets g (fred_delivery c m e nested)
unfolding fred_delivery
fred_meets g m c e nested b =
    let d : Processor = with_cr2 c e in
    let bd : IsBare d = noted_bare c e b in
    let level : ℕ = new_level d e nested in
    let r : ℕ = frame_top d level in
    written_meets g d (in_fred_handler d e level (below r 8)) m.words (below r 8) (fred_frame d e nested)
    (first_event (view m false) true (reverse (addresses (below r 8) 8))) bd
    (frame_pages m r 8 (omega arith) (top_in d level bd (new_level_small d e nested bd.level)) (top_aligned d level bd))

try_meets : (m : Memory) (c : Processor) (e : Event) (nested : Bool) → HoldsGates 512 m.words → HoldsStacks m.words → IsBare c → e.vector < 256
    → Meets (is_gated e.kind) (try c m e nested)
try_meets m c e nested hg hs b l = by (has_fred c)
  where
    by : (t : Bool) → Meets (is_gated e.kind) (if t then fred_delivery c m e nested else idt_delivery c m e)
    by true = fred_meets (is_gated e.kind) m c e nested b
    by false = idt_meets m c e hg hs b l

-- ---- how many tries are left

combine_is : (e f : Event) (v w : ℕ) → e.kind ≡ Hardware → e.vector ≡ v → f.kind ≡ Hardware → f.vector ≡ w
    → combine e f ≡ combined (fault_class v) (fault_class w)
unfolding combine
combine_is e f v w ke ve kf vf =
    ap (λ (k : EventType). combined (class_by k e.vector) (class_by f.kind f.vector)) ke
    ∙ ap (λ (x : ℕ). combined (fault_class x) (class_by f.kind f.vector)) ve
    ∙ ap (λ (k : EventType). combined (fault_class v) (class_by k f.vector)) kf ∙ ap (λ (x : ℕ). combined (fault_class v) (fault_class x)) vf

double_page : combined (fault_class 8) (fault_class 14) ≡ Shutdown
unfolding fault_class
double_page = refl

page_page : combined (fault_class 14) (fault_class 14) ≡ Combined.Double
unfolding fault_class
page_page = refl

gp_page : combined (fault_class 13) (fault_class 14) ≡ Serial
unfolding fault_class
gp_page = refl

not_gated : (e : Event) (f : Event) → e.kind ≡ Hardware → (f.vector ≡ 14) ⊎ ((is_gated e.kind ≡ true) × (f.vector ≡ 13)) → f.vector ≡ 14
not_gated e f k h = ⊎_elim (λ p. p) (λ p. absurd (let c : false ≡ true = sym (ap is_gated k) ∙ p.0 in cc)) h

abbrev Holds : Memory → Type 0
Holds m = HoldsGates 512 m.words × HoldsStacks m.words

-- a hardware exception that meets a page fault, with what the two come to
of_double : (k : ℕ) (c : Processor) (m : Memory) (e : Event) (o : Outcome) → e.kind ≡ Hardware → e.vector ≡ 8 → Meets (is_gated e.kind) o
    → by_outcome k c m e o ≡ by_outcome 0 c m e o
of_double k c m e (Went d words a) hk hv h = refl
of_double k c m e (Met d f) hk hv h =
    let x : combine e f ≡ Shutdown = combine_is e f 8 14 hk hv h.kind (not_gated e f hk h.vector) ∙ double_page in
    ap (by_combined k d m e f) x ∙ sym (ap (by_combined 0 d m e f) x)

eight : (k : ℕ) (c : Processor) (m : Memory) (e : Event) (nested : Bool) → Holds m → IsBare c → e.kind ≡ Hardware → e.vector ≡ 8
    → report (suc k) c m e nested ≡ report 1 c m e nested
eight k c m e nested t b hk hv =
    one_try k c m e nested
    ∙ of_double k c m e (try c m e nested) hk hv (try_meets m c e nested t.0 t.1 b (omega (arith, hv)))
    ∙ sym (one_try 0 c m e nested)

of_page : (k : ℕ) (c : Processor) (m : Memory) (e : Event) (o : Outcome) → Holds m → e.kind ≡ Hardware → e.vector ≡ 14 → Meets (is_gated e.kind) o
    → by_outcome (suc k) c m e o ≡ by_outcome 1 c m e o
of_page k c m e (Went d words a) t hk hv h = refl
of_page k c m e (Met d f) t hk hv h =
    let x : combine e f ≡ Combined.Double = combine_is e f 14 14 hk hv h.kind (not_gated e f hk h.vector) ∙ page_page in
    ap (by_combined (suc k) d m e f) x ∙ ap (with_try e) (eight k d m double_fault true t h.bare refl refl) ∙ sym (ap (by_combined 1 d m e f) x)

fourteen : (k : ℕ) (c : Processor) (m : Memory) (e : Event) (nested : Bool) → Holds m → IsBare c → e.kind ≡ Hardware → e.vector ≡ 14
    → report (suc (suc k)) c m e nested ≡ report 2 c m e nested
fourteen k c m e nested t b hk hv =
    one_try (suc k) c m e nested
    ∙ of_page k c m e (try c m e nested) t hk hv (try_meets m c e nested t.0 t.1 b (omega (arith, hv)))
    ∙ sym (one_try 1 c m e nested)

of_gp : (k : ℕ) (c : Processor) (m : Memory) (e : Event) (o : Outcome) → Holds m → e.kind ≡ Hardware → e.vector ≡ 13 → Meets (is_gated e.kind) o
    → by_outcome (suc (suc k)) c m e o ≡ by_outcome 2 c m e o
of_gp k c m e (Went d words a) t hk hv h = refl
of_gp k c m e (Met d f) t hk hv h =
    let v = not_gated e f hk h.vector in
    let x : combine e f ≡ Serial = combine_is e f 13 14 hk hv h.kind v ∙ gp_page in
    ap (by_combined (suc (suc k)) d m e f) x ∙ ap (with_try e) (fourteen k d m f true t h.bare h.kind v) ∙ sym (ap (by_combined 2 d m e f) x)

thirteen : (k : ℕ) (c : Processor) (m : Memory) (e : Event) (nested : Bool) → Holds m → IsBare c → e.kind ≡ Hardware → e.vector ≡ 13
    → report (suc (suc (suc k))) c m e nested ≡ report 3 c m e nested
thirteen k c m e nested t b hk hv =
    one_try (suc (suc k)) c m e nested
    ∙ of_gp k c m e (try c m e nested) t hk hv (try_meets m c e nested t.0 t.1 b (omega (arith, hv)))
    ∙ sym (one_try 2 c m e nested)

of_any : (k : ℕ) (m : Memory) (d : Processor) (e f : Event) (x : Combined) → Holds m → IsBare d → f.kind ≡ Hardware → (f.vector ≡ 14) ⊎ (f.vector ≡ 13)
    → by_combined (suc (suc (suc k))) d m e f x ≡ by_combined 3 d m e f x
of_any k m d e f Serial t b hk hv =
    ap (with_try e) (⊎_elim (λ v. fourteen (suc k) d m f true t b hk v ∙ sym (fourteen 1 d m f true t b hk v)) (λ v. thirteen k d m f true t b hk v) hv)
of_any k m d e f Combined.Double t b hk hv =
    ap (with_try e) (eight (suc (suc k)) d m double_fault true t b refl refl ∙ sym (eight 2 d m double_fault true t b refl refl))
of_any k m d e f Shutdown t b hk hv = refl

of_first : (k : ℕ) (c : Processor) (m : Memory) (e : Event) (o : Outcome) → Holds m → Meets (is_gated e.kind) o
    → by_outcome (suc (suc (suc k))) c m e o ≡ by_outcome 3 c m e o
of_first k c m e (Went d words a) t h = refl
of_first k c m e (Met d f) t h = of_any k m d e f (combine e f) t h.bare h.kind (⊎_elim (λ v. inl v) (λ v. inr v.1) h.vector)

four : (k : ℕ) (c : Processor) (m : Memory) (e : Event) (nested : Bool) → Holds m → IsBare c → e.vector < 256
    → report (suc (suc (suc (suc k)))) c m e nested ≡ report 4 c m e nested
four k c m e nested t b l =
    one_try (suc (suc (suc k))) c m e nested ∙ of_first k c m e (try c m e nested) t (try_meets m c e nested t.0 t.1 b l) ∙ sym (one_try 3 c m e nested)

-- ---- of a line

pub four_suffice : FourTriesSuffice
unfolding probe_of told_of told_from
four_suffice l h r n many =
    let v = are_values l.mode l.op l.values h in
    let op : l.op ≡ Op.Deliver = is_delivery l.op r in
    let none : words_by l.op l.values.words ≡ [] = rw r refl in
    let w : NatMap ℕ = opening_word [] l.mode bare in
    let gates = subst (λ (ws : List ℕ). HoldsGates 512 (placed w l.values.rsp ws)) (sym none) (opened_gates l.mode) in
    let stacks = subst (λ (ws : List ℕ). HoldsStacks (placed w l.values.rsp ws)) (sym none) (opened_tss l.mode) in
    let k : n ≡ suc (suc (suc (suc (n - 4)))) = omega arith in
    let bare_one = bare_cpu l (subst (λ (x : Op). AreValues l.mode x l.values) op v) in
    ap (λ (j : ℕ). report j (probe_cpu (probe_of l)) (probe_memory (probe_of l)) (event_of l.values) false) k
    ∙ four (n - 4) (probe_cpu (probe_of l)) (probe_memory (probe_of l)) (event_of l.values) false (gates, stacks) bare_one (vector_small l.values v.vector)
    ∙ sym (ap (λ (x : Op). told_from x (probe_cpu (probe_of l)) (probe_memory (probe_of l)) (event_of l.values)) op)
