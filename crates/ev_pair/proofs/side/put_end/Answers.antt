use Rattle.std.proofs.Common.{◌++◌, ap, refl, ◌∙◌, subst}
use Rattle.std.specs.Io.KnownBytes.{append_known}
use Rattle.ev_io.specs.Transfer.{TookPrefix}
use Rattle.ev_abstract.specs.Run.{run}
use Rattle.ev_abstract.specs.EntryText.{all_end_lines}
use Rattle.ev_trace.specs.FrameText.{mode_text, totals_text}
use Rattle.ev_concrete.specs.RunText.{shown_frames, settling}
use Rattle.ev_pair.specs.SideText.{side_at}
use Rattle.ev_io.proofs.Writes.{then_ok, first_failed, second_failed, ok_then, err_then, err_now}
use Rattle.ev_pair.proofs.Shown.{end_shown}
use Rattle.ev_pair.proofs.Settled.{settled_first}
use Rattle.ev_pair.proofs.side.put_end.Goals as goal

pub returns-in_err-put_settling-clause-failed : goal.returns-in_err-put_settling-clause-failed
returns-in_err-put_settling-clause-failed g c image script r =
    let old = g.K.Sink.taken c.args.sink.now in
    let new = g.K.Sink.taken c.put_settling.new.sink in
    let side = side_at c.args.mode image script in
    let first = shown_frames c.args.frames c.args.mode (settling image side).1 in
    let second = all_end_lines (mode_text c.args.mode) (run image script) 0 image.processors in
    let third = totals_text (mode_text c.args.mode) (settling image side).0.totals in
    err_now _ _ (subst (TookPrefix old new) (end_shown c.args.frames c.args.mode image script (settling image side).0.totals refl)
    (first_failed old new (first ++ second) third (first_failed old new first second (c.in_err-put_settling.ensures.failed image script r))))

pub returns-in_err-put_states-clause-failed : goal.returns-in_err-put_states-clause-failed
returns-in_err-put_states-clause-failed g c image script r =
    let old = g.K.Sink.taken c.args.sink.now in
    let mid = g.K.Sink.taken c.put_settling.new.sink in
    let new = g.K.Sink.taken c.put_states.new.sink in
    let side = side_at c.args.mode image script in
    let first = shown_frames c.args.frames c.args.mode (settling image side).1 in
    let second = all_end_lines (mode_text c.args.mode) (run image script) 0 image.processors in
    let third = totals_text (mode_text c.args.mode) (settling image side).0.totals in
    let so = c.in_ok-put_settling.ensures.so image script r in
    err_now _ _ (subst (TookPrefix old new) (end_shown c.args.frames c.args.mode image script (settling image side).0.totals refl)
    (first_failed old new (first ++ second) third (second_failed old mid new first second (c.in_ok-put_settling.ensures.ok image script r)
    (c.in_err-put_states.ensures.failed image (settled_first c.args.mode image script image.processors).0 (run image script) so))))

pub returns-clause-ok : goal.returns-clause-ok
returns-clause-ok g c image script r =
    let old = g.K.Sink.taken c.args.sink.now in
    let mid = g.K.Sink.taken c.put_settling.new.sink in
    let late = g.K.Sink.taken c.put_states.new.sink in
    let new = g.K.Sink.taken c.put_totals.new.sink in
    let side = side_at c.args.mode image script in
    let first = shown_frames c.args.frames c.args.mode (settling image side).1 in
    let second = all_end_lines (mode_text c.args.mode) (run image script) 0 image.processors in
    let third = totals_text (mode_text c.args.mode) c.totals.result in
    let so = c.in_ok-put_settling.ensures.so image script r in
    let before = then_ok old mid late first second (c.in_ok-put_settling.ensures.ok image script r)
    (c.in_ok-put_states.ensures.ok image (settled_first c.args.mode image script image.processors).0 (run image script) so) in
    ok_then c.put_totals.result _ _
    (λ h. then_ok old late new (first ++ second) third before h
    ∙ ap (append_known old) (end_shown c.args.frames c.args.mode image script c.totals.result (c.totals.ensures ∙ so.at.shows.totals)))
    c.put_totals.ensures.ok

pub returns-clause-failed : goal.returns-clause-failed
returns-clause-failed g c image script r =
    let old = g.K.Sink.taken c.args.sink.now in
    let mid = g.K.Sink.taken c.put_settling.new.sink in
    let late = g.K.Sink.taken c.put_states.new.sink in
    let new = g.K.Sink.taken c.put_totals.new.sink in
    let side = side_at c.args.mode image script in
    let first = shown_frames c.args.frames c.args.mode (settling image side).1 in
    let second = all_end_lines (mode_text c.args.mode) (run image script) 0 image.processors in
    let third = totals_text (mode_text c.args.mode) c.totals.result in
    let so = c.in_ok-put_settling.ensures.so image script r in
    let before = then_ok old mid late first second (c.in_ok-put_settling.ensures.ok image script r)
    (c.in_ok-put_states.ensures.ok image (settled_first c.args.mode image script image.processors).0 (run image script) so) in
    err_then c.put_totals.result _ _
    (λ h. subst (TookPrefix old new) (end_shown c.args.frames c.args.mode image script c.totals.result (c.totals.ensures ∙ so.at.shows.totals))
    (second_failed old late new (first ++ second) third before h)) c.put_totals.ensures.failed
