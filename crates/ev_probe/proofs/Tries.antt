-- Deliveries with all their tries, and returns, in memories that are alike.
use Rattle.std.proofs.Common.{◌≡◌, ℕ, zero, suc, ◌/◌, ◌%◌, ◌^◌, ◌<◌, Bool, true, false, ◌&&◌, ◌==◌, nat_le, if◌then◌else◌, List, [], ◌∷◌, Option, Some, None, refl, ap, ◌∙◌, arith}
use Rattle.ev_isa.specs.Word.{NatMap, is_canonical}
use Rattle.ev_event.specs.declared.double_fault.Combined.{Combined}
use Rattle.ev_event.specs.declared.double_fault.Combined.TheVariants.{Serial, Shutdown}
use Rattle.ev_event.specs.DoubleFault.{combine}
use Rattle.ev_event.specs.declared.event.Event.{Event}
use Rattle.ev_event.specs.Event.{gp}
use Rattle.ev_effect.specs.Frame.{addresses, first_event}
use Rattle.ev_state.specs.Processor.{Processor, rsp, selector}
use Rattle.ev_state.specs.Outcome.{Outcome, Went, Met, words_at}
use Rattle.ev_mem.specs.Memory.{Memory, view}
use Rattle.ev_idt.specs.IdtDelivery.{iret_after, iret_words, iretq, is_return}
use Rattle.ev_fred.specs.FredDelivery.{erets, erets_words, eretu, eretu_words, frame_read, return_addresses}
use Rattle.ev_proc.specs.ProcessorStep.{double_fault, try}
use Rattle.ev_concrete.specs.ConcreteRun.{frame_size}
use Rattle.ev_probe.specs.declared.report.ProbeEnd.{ProbeEnd}
use Rattle.ev_probe.specs.Told.{Told}
use Rattle.ev_probe.specs.Probe.{frame_words, last_try, report, returned, with_try}
use Rattle.ev_probe.specs.BareMemory.{AreAlike}
use Rattle.ev_probe.proofs.Places.{AllIn, HaveSameWords, first_same, map_same}
use Rattle.ev_probe.proofs.Alike.{AreSameOutcomes, IsBare, try_same}

-- ---- a delivery

-- what is told behind a fault that is met, by what comes of the two
abbrev pub by_combined : ℕ → Processor → Memory → Event → Event → Combined → Told
by_combined k c m e f x = elim x [
  | Serial ↦ with_try e (report k c m f true)
  | Combined.Double ↦ with_try e (report k c m double_fault true)
  | Shutdown ↦ last_try e None ProbeEnd.Shutdown
]

-- what is told of a try, by its outcome
abbrev pub by_outcome : ℕ → Processor → Memory → Event → Outcome → Told
by_outcome k c m e o = elim o [
  | Went d words a ↦ last_try e (Some (a, frame_words c words a e)) (ProbeEnd.State d)
  | Met d f ↦ by_combined k d m e f (combine e f)
]

pub one_try : (k : ℕ) (c : Processor) (m : Memory) (e : Event) (nested : Bool) → report (suc k) c m e nested ≡ by_outcome k c m e (try c m e nested)
unfolding report
one_try k c m e nested = refl

pub no_try : (c : Processor) (m : Memory) (e : Event) (nested : Bool)
    → record { tries = []; frame = None; end = ProbeEnd.Shutdown } ≡ report zero c m e nested
unfolding report
no_try c m e nested = refl

-- the rest of the tries is told the same
abbrev AreTold : ℕ → Memory → Memory → Type 0
AreTold k m n = (c : Processor) (e : Event) (nested : Bool) → IsBare c → e.vector < 256 → report k c m e nested ≡ report k c n e nested

combined_same : (k : ℕ) (m n : Memory) (c : Processor) (e f : Event) (x : Combined) → AreTold k m n → IsBare c → f.vector < 256
    → by_combined k c m e f x ≡ by_combined k c n e f x
combined_same k m n c e f Serial h b l = ap (with_try e) (h c f true b l)
combined_same k m n c e f Combined.Double h b l = ap (with_try e) (h c double_fault true b (omega arith))
combined_same k m n c e f Shutdown h b l = refl

outcome_same : (k : ℕ) (m n : Memory) (c : Processor) (e : Event) (o p : Outcome) → AreTold k m n → AreSameOutcomes (frame_size c e) o p
    → by_outcome k c m e o ≡ by_outcome k c n e p
outcome_same k m n c e (Went d v a) (Went d' w b) h s =
    ap (λ (x : Processor). last_try e (Some (a, frame_words c v a e)) (ProbeEnd.State x)) s.0
    ∙ ap (λ (x : ℕ). last_try e (Some (x, frame_words c v a e)) (ProbeEnd.State d')) s.1
    ∙ ap (λ (x : List ℕ). last_try e (Some (b, x)) (ProbeEnd.State d')) s.2
outcome_same k m n c e (Met d f) (Met d' f') h s =
    combined_same k m n d e f (combine e f) h s.2 s.3 ∙ ap (λ (x : Processor). by_combined k x n e f (combine e f)) s.0
    ∙ ap (λ (x : Event). by_combined k d' n e x (combine e x)) s.1
outcome_same k m n c e (Went d v a) (Met d' f') h s = absurd s
outcome_same k m n c e (Met d f) (Went d' w b) h s = absurd s

pub report_same : (k : ℕ) (m n : Memory) → AreAlike m n → (c : Processor) (e : Event) (nested : Bool) → IsBare c → e.vector < 256
    → report k c m e nested ≡ report k c n e nested
unfolding report
report_same zero m n h c e nested b l = refl
report_same (suc k) m n h c e nested b l =
    outcome_same k m n c e (try c m e nested) (try c n e nested) (report_same k m n h) (try_same m n c e nested h b l)

-- ---- a return

went_same : (t : Bool) (c d : Processor) (v w : NatMap ℕ) → returned (if t then Went d v 0 else Met c (gp 0)) ≡ returned
    (if t then Went d w 0 else Met c (gp 0))
went_same true c d v w = refl
went_same false c d v w = refl

iret_words_same : (c : Processor) (v w : NatMap ℕ) (ws : List ℕ) → returned (iret_words c v ws) ≡ returned (iret_words c w ws)
iret_words_same c v w (rip ∷ cs ∷ flags ∷ rsp ∷ ss ∷ []) = went_same (is_canonical rip && is_return (selector cs) (selector ss)) c _ v w
iret_words_same c v w _ = refl

iret_after_same : (c : Processor) (v w : NatMap ℕ) (as' : List ℕ) (o : Option Event) → HaveSameWords v w → AllIn as'
    → returned (iret_after c v as' o) ≡ returned (iret_after c w as' o)
iret_after_same c v w as' None h p =
    ap (λ (ws : List ℕ). returned (iret_words c v ws)) (map_same v w as' h p) ∙ iret_words_same c v w (words_at w as')
iret_after_same c v w as' (Some e) h p = refl

pub iretq_same : (m n : Memory) → AreAlike m n → (c : Processor) → AllIn (addresses (rsp c) 5) → returned (iretq c m) ≡ returned (iretq c n)
unfolding iretq
iretq_same m n h c p =
    let as' : List ℕ = addresses (rsp c) 5 in
    let d : Processor = record c { nmi_blocked = false } in
    ap (λ (o : Option Event). returned (iret_after d m.words as' o)) (first_same m n false as' h.faults p)
    ∙ iret_after_same d m.words n.words as' (first_event (view n false) false as') h.words p

eretu_words_same : (c : Processor) (v w : NatMap ℕ) (ws : List ℕ) → returned (eretu_words c v ws) ≡ returned (eretu_words c w ws)
eretu_words_same c v w (rip ∷ cs ∷ flags ∷ rsp ∷ ss ∷ []) =
    went_same ((c.level == 0) && is_canonical rip && (selector cs == 0x33) && (selector ss == 0x2b)) c _ v w
eretu_words_same c v w _ = refl

erets_words_same : (c : Processor) (v w : NatMap ℕ) (ws : List ℕ) → returned (erets_words c v ws) ≡ returned (erets_words c w ws)
erets_words_same c v w (rip ∷ cs ∷ flags ∷ rsp ∷ ss ∷ []) =
    went_same (nat_le (cs / 2 ^ 16 % 4) c.level && is_canonical rip && (selector cs == 0x10)) c _ v w
erets_words_same c v w _ = refl

read_same : (c : Processor) (f g : List ℕ → Outcome) (v w : NatMap ℕ) (as' : List ℕ) (o : Option Event)
    → ((ws : List ℕ) → returned (f ws) ≡ returned (g ws)) → HaveSameWords v w → AllIn as'
    → returned (frame_read c f v as' o) ≡ returned (frame_read c g w as' o)
read_same c f g v w as' None k h p = ap (λ (ws : List ℕ). returned (f ws)) (map_same v w as' h p) ∙ k (words_at w as')
read_same c f g v w as' (Some e) k h p = refl

pub eretu_same : (m n : Memory) → AreAlike m n → (c : Processor) → AllIn (return_addresses c) → returned (eretu c m) ≡ returned (eretu c n)
unfolding eretu
eretu_same m n h c p =
    ap (λ (o : Option Event). returned (frame_read c (eretu_words c m.words) m.words (return_addresses c) o))
    (first_same m n false (return_addresses c) h.faults p)
    ∙ read_same c (eretu_words c m.words) (eretu_words c n.words) m.words n.words (return_addresses c)
    (first_event (view n false) false (return_addresses c)) (eretu_words_same c m.words n.words) h.words p

pub erets_same : (m n : Memory) → AreAlike m n → (c : Processor) → AllIn (return_addresses c) → returned (erets c m) ≡ returned (erets c n)
unfolding erets
erets_same m n h c p =
    ap (λ (o : Option Event). returned (frame_read c (erets_words c m.words) m.words (return_addresses c) o))
    (first_same m n false (return_addresses c) h.faults p)
    ∙ read_same c (erets_words c m.words) (erets_words c n.words) m.words n.words (return_addresses c)
    (first_event (view n false) false (return_addresses c)) (erets_words_same c m.words n.words) h.words p
