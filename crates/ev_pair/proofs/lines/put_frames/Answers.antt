use Rattle.std.proofs.Common.{◌≡◌, suc, ◌+◌, ◌<◌, ◌≤◌, List, ◌∷◌, drop, length, ap, sym, ◌∙◌, subst, arith}
use Rattle.ev_event.specs.declared.frame_note.FrameNote.{FrameNote}
use Rattle.ev_abstract.specs.EntryText.{Text}
use Rattle.ev_trace.specs.FrameText.{mode_text, frames_text}
use Rattle.ev_concrete.specs.ConcreteRun.{noted}
use Rattle.ev_io.proofs.Writes.{Wrote, none_yet, more_written, failed_within, none_left, err_now}
use Rattle.ev_pair.proofs.Rest.{from_place, none_there}
use Rattle.ev_pair.proofs.lines.put_frames.Goals as goal

pub loop-frame-init : goal.loop-frame-init
loop-frame-init g c = record { wrote = none_yet (g.K.Sink.taken c.args.sink.now) _; count = omega arith }

pub loop-frame-preserved : goal.loop-frame-preserved
loop-frame-preserved g c =
    let i = c.loop-frame.frame-index in
    let e : i + 1 ≡ suc i = omega arith in
    let lt : i < length c.args.frames.now = omega arith in
    let rest = from_place c.args.frames.now i (i + 1) c.frame-item.result e lt
    ∙ ap (λ f. f ∷ drop (i + 1) c.args.frames.now) (sym c.frame-item.is) in record {
      wrote = more_written _ _ _ _ _ _ _ c.loop-frame.invariant.wrote
          (ap (λ fs. frames_text (mode_text c.args.mode) (noted c.args.p fs)) rest) c.in_ok-put_frame.ensures.ok;
      count = omega arith;
    }

pub returns-in_err-put_frame-clause-failed : goal.returns-in_err-put_frame-clause-failed
returns-in_err-put_frame-clause-failed g c =
    let i = c.loop-frame.frame-index in
    let e : i + 1 ≡ suc i = omega arith in
    let lt : i < length c.args.frames.now = omega arith in
    let rest = from_place c.args.frames.now i (i + 1) c.frame-item.result e lt
    ∙ ap (λ f. f ∷ drop (i + 1) c.args.frames.now) (sym c.frame-item.is) in
    err_now _ _ (failed_within _ _ _ _ _ _ _ c.loop-frame.invariant.wrote
    (ap (λ fs. frames_text (mode_text c.args.mode) (noted c.args.p fs)) rest) c.in_err-put_frame.ensures.failed)

pub returns-clause-ok : goal.returns-clause-ok
returns-clause-ok g c =
    let old = g.K.Sink.taken c.args.sink.now in
    let now = g.K.Sink.taken c.loop-frame.sink in
    let text : List FrameNote → Text = λ fs. frames_text (mode_text c.args.mode) (noted c.args.p fs) in
    let past : length c.args.frames.now ≤ c.loop-frame.frame-index = omega arith in
    none_left old now _ (subst (λ fs. Wrote old now (text fs) (text c.args.frames.now)) (none_there c.args.frames.now c.loop-frame.frame-index past)
    c.loop-frame.invariant.wrote)
