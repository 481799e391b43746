-- A delivery that meets an event.
use Rattle.std.proofs.Common.{◌≡◌, ℕ, Bool, true, false, List, length, reverse, Option, Some, refl, sym, ap, ◌∙◌}
use Rattle.ev_event.specs.declared.event.Event.{Event}
use Rattle.ev_state.specs.Processor.{Processor}
use Rattle.ev_state.specs.Outcome.{Outcome, Met, with_cr2, frame_written, below}
use Rattle.ev_effect.specs.Frame.{addresses, first_event}
use Rattle.ev_mem.specs.Memory.{Memory, view}
use Rattle.ev_fred.specs.FredDelivery.{fred_delivery, new_level, frame_top, fred_frame, in_fred_handler}

-- a delivery by its level, the frame's address, and the frame
abbrev written : Memory → Event → Processor → ℕ → ℕ → List ℕ → Outcome
written m e d level a words = frame_written d (in_fred_handler d e level a) m.words a words (first_event (view m false) true (reverse (addresses a 8)))

parts : (c d : Processor) (m : Memory) (e : Event) (nested : Bool) (level top a : ℕ) (words : List ℕ) → d ≡ with_cr2 c e → level ≡ new_level d e nested
    → top ≡ frame_top d level → a ≡ below top 8 → words ≡ fred_frame d e nested → fred_delivery c m e nested ≡ written m e d level a words
unfolding fred_delivery
parts c d m e nested level top a words hd hl ht ha hw =
    let start : fred_delivery c m e nested ≡ written m e (with_cr2 c e) (new_level (with_cr2 c e) e nested)
    (below (frame_top (with_cr2 c e) (new_level (with_cr2 c e) e nested)) 8) (fred_frame (with_cr2 c e) e nested) = refl in
    start
    ∙ ap (λ (x : Processor). written m e x (new_level x e nested) (below (frame_top x (new_level x e nested)) 8) (fred_frame x e nested)) (sym hd)
    ∙ ap (λ (x : ℕ). written m e d x (below (frame_top d x) 8) (fred_frame d e nested)) (sym hl)
    ∙ ap (λ (x : ℕ). written m e d level (below x 8) (fred_frame d e nested)) (sym ht)
    ∙ ap (λ (x : ℕ). written m e d level x (fred_frame d e nested)) (sym ha)
    ∙ ap (λ (x : List ℕ). written m e d level a x) (sym hw)

pub met : (c d after : Processor) (m : Memory) (e f : Event) (nested : Bool) (level top a : ℕ) (words : List ℕ) → d ≡ with_cr2 c e
    → level ≡ new_level d e nested → top ≡ frame_top d level → a ≡ below top 8 → words ≡ fred_frame d e nested
    → first_event (view m false) true (reverse (addresses a (length words))) ≡ Some f → after ≡ with_cr2 d f → Met after f ≡ fred_delivery c m e nested
met c d after m e f nested level top a words hd hl ht ha hw h hc =
    let count : length words ≡ 8 = ap length hw in
    let g : first_event (view m false) true (reverse (addresses a 8)) ≡ Some f = ap (λ (n : ℕ). first_event (view m false) true (reverse (addresses a n)))
    (sym count) ∙ h in
    sym (parts c d m e nested level top a words hd hl ht ha hw
    ∙ ap (λ (o : Option Event). frame_written d (in_fred_handler d e level a) m.words a words o) g
    ∙ ap (λ (x : Processor). Met x f) (sym hc))
