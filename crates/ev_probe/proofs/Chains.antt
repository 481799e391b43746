-- The tries of a delivery, one after another.
use Rattle.std.proofs.Common.{◌≡◌, ℕ, suc, Bool, true, List, [], ◌∷◌, ◌++◌, Some, None, ap, sym, ◌∙◌, append-nil, append_assoc}
use Rattle.ev_isa.specs.Word.{NatMap}
use Rattle.ev_event.specs.declared.event.Event.{Event}
use Rattle.ev_event.specs.declared.frame_note.FrameNote.{FrameNote}
use Rattle.ev_event.specs.declared.double_fault.Combined.{Combined}
use Rattle.ev_event.specs.declared.double_fault.Combined.TheVariants.{Serial, Shutdown}
use Rattle.ev_event.specs.DoubleFault.{combine}
use Rattle.ev_state.specs.Processor.{Processor}
use Rattle.ev_state.specs.Outcome.{Outcome, Went, Met}
use Rattle.ev_mem.specs.Memory.{Memory}
use Rattle.ev_proc.specs.ProcessorStep.{double_fault, try}
use Rattle.ev_probe.specs.declared.report.Try.{Try}
use Rattle.ev_probe.specs.declared.report.ProbeEnd.{ProbeEnd}
use Rattle.ev_probe.specs.Told.{Told, behind, noted, told_by, try_of}
use Rattle.ev_probe.specs.Probe.{frame_words, report, with_try}
use Rattle.ev_probe.proofs.Tries.{by_combined, by_outcome, no_try, one_try}

-- no try is left
pub none_left : (tries : List Try) (left : ℕ) (c : Processor) (m : Memory) (e : Event) (nested : Bool) → left ≡ 0
    → told_by tries None c ≡ behind tries (report left c m e nested)
none_left tries left c m e nested h =
    ap (λ (xs : List Try). let r : Told = record { tries = xs; frame = None; end = ProbeEnd.Shutdown } in r) (sym (append-nil tries))
    ∙ ap (behind tries) (no_try c m e nested ∙ ap (λ (k : ℕ). report k c m e nested) (sym h))

-- a try by its outcome
by_try : (k left : ℕ) (c : Processor) (m : Memory) (e : Event) (nested : Bool) (o : Outcome) → left ≡ suc k → o ≡ try c m e nested
    → report left c m e nested ≡ by_outcome k c m e o
by_try k left c m e nested o n h =
    ap (λ (j : ℕ). report j c m e nested) n ∙ one_try k c m e nested ∙ ap (by_outcome k c m e) (sym h)

-- the last one delivers
pub delivers : (tries xs : List Try) (t : Try) (f : FrameNote) (k left : ℕ) (c d : Processor) (m : Memory) (words : NatMap ℕ) (a : ℕ) (e : Event)
    (nested : Bool)
    → left ≡ suc k → Went d words a ≡ try c m e nested → xs ≡ tries ++ t ∷ [] → t ≡ try_of e → noted f ≡ (a, frame_words c words a e)
    → told_by xs (Some f) d ≡ behind tries (report left c m e nested)
delivers tries xs t f k left c d m words a e nested n h hx ht hf =
    ap (λ (ys : List Try). told_by ys (Some f) d) (hx ∙ ap (λ (x : Try). tries ++ x ∷ []) ht)
    ∙ ap (λ (p : ℕ × List ℕ). let r : Told = record { tries = tries ++ try_of e ∷ []; frame = Some p; end = ProbeEnd.State d } in r) hf
    ∙ ap (behind tries) (sym (by_try k left c m e nested (Went d words a) n h))

-- one meets a fault
meets : (k left : ℕ) (c d : Processor) (m : Memory) (e f : Event) (nested : Bool) (x : Combined) → left ≡ suc k → Met d f ≡ try c m e nested
    → x ≡ combine e f → report left c m e nested ≡ by_combined k d m e f x
meets k left c d m e f nested x n h hx = by_try k left c m e nested (Met d f) n h ∙ ap (by_combined k d m e f) (sym hx)

pub shuts_down : (tries xs : List Try) (t : Try) (k left : ℕ) (c d : Processor) (m : Memory) (e f : Event) (nested : Bool)
    → left ≡ suc k → Met d f ≡ try c m e nested → xs ≡ tries ++ t ∷ [] → t ≡ try_of e → Shutdown ≡ combine e f
    → told_by xs None d ≡ behind tries (report left c m e nested)
shuts_down tries xs t k left c d m e f nested n h hx ht x =
    ap (λ (ys : List Try). told_by ys None d) (hx ∙ ap (λ (y : Try). tries ++ y ∷ []) ht)
    ∙ ap (behind tries) (sym (meets k left c d m e f nested Shutdown n h x))

-- one more try before the rest
behind_more : (tries xs : List Try) (t : Try) (e : Event) (r : Told) → xs ≡ tries ++ t ∷ [] → t ≡ try_of e → behind xs r ≡ behind tries (with_try e r)
behind_more tries xs t e r hx ht =
    ap (λ (ys : List Try). behind ys r) (hx ∙ ap (λ (y : Try). tries ++ y ∷ []) ht)
    ∙ ap (λ (ys : List Try). let q : Told = record r { tries = ys } in q) (append_assoc tries (try_of e ∷ []) r.tries)

pub goes_on : (tries xs : List Try) (t : Try) (r : Told) (k left : ℕ) (c d : Processor) (m m' : Memory) (e f : Event) (nested : Bool)
    → left ≡ suc k → Met d f ≡ try c m e nested → xs ≡ tries ++ t ∷ [] → t ≡ try_of e → Serial ≡ combine e f → m' ≡ m
    → r ≡ behind xs (report k d m' f true) → r ≡ behind tries (report left c m e nested)
goes_on tries xs t r k left c d m m' e f nested n h hx ht x hm hr =
    hr ∙ ap (λ (y : Memory). behind xs (report k d y f true)) hm ∙ behind_more tries xs t e (report k d m f true) hx ht
    ∙ ap (behind tries) (sym (meets k left c d m e f nested Serial n h x))

pub doubles : (tries xs : List Try) (t : Try) (r : Told) (k left : ℕ) (c d : Processor) (m m' : Memory) (e f g : Event) (nested : Bool)
    → left ≡ suc k → Met d f ≡ try c m e nested → xs ≡ tries ++ t ∷ [] → t ≡ try_of e → Combined.Double ≡ combine e f → m' ≡ m → g ≡ double_fault
    → r ≡ behind xs (report k d m' g true) → r ≡ behind tries (report left c m e nested)
doubles tries xs t r k left c d m m' e f g nested n h hx ht x hm hg hr =
    hr ∙ ap (λ (y : Memory). behind xs (report k d y g true)) hm ∙ ap (λ (y : Event). behind xs (report k d m y true)) hg
    ∙ behind_more tries xs t e (report k d m double_fault true) hx ht ∙ ap (behind tries) (sym (meets k left c d m e f nested Combined.Double n h x))
