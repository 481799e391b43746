use Rattle.std.proofs.Common.{◌≡◌, ◌<◌, ap, sym, ◌∙◌, subst, arith}
use Rattle.std.specs.Io.KnownBytes.{append_known}
use Rattle.ev_io.specs.Transfer.{TookPrefix}
use Rattle.ev_abstract.specs.Machine as abstract
use Rattle.ev_abstract.specs.EntryText.{end_lines}
use Rattle.ev_trace.specs.FrameText.{mode_text}
use Rattle.ev_io.proofs.Writes.{ok_then, err_then}
use Rattle.ev_pair.proofs.Ends.{busy_line, tasks_end, no_bodies}
use Rattle.ev_pair.proofs.side.put_state.Goals as goal

pub returns-then-depth-gt0-clause-ok : goal.returns-then-depth-gt0-clause-ok
returns-then-depth-gt0-clause-ok g c image s m so =
    let x = abstract.processor m c.args.p in
    let depth = c.depth-depth.ensures c.args.mode image s m so in
    let text = busy_line (mode_text c.args.mode) c.args.p c.depth-depth.result x c.if-depth-gt0.true
    ∙ ap (end_lines (mode_text c.args.mode) c.args.p x) depth in
    ok_then c.put_busy.result _ _ (λ h. h ∙ ap (append_known (g.K.Sink.taken c.args.sink.now)) text) c.put_busy.ensures.ok

pub returns-then-depth-gt0-clause-failed : goal.returns-then-depth-gt0-clause-failed
returns-then-depth-gt0-clause-failed g c image s m so =
    let x = abstract.processor m c.args.p in
    let depth = c.depth-depth.ensures c.args.mode image s m so in
    let text = busy_line (mode_text c.args.mode) c.args.p c.depth-depth.result x c.if-depth-gt0.true
    ∙ ap (end_lines (mode_text c.args.mode) c.args.p x) depth in
    err_then c.put_busy.result _ _ (λ h. subst (TookPrefix (g.K.Sink.taken c.args.sink.now) (g.K.Sink.taken c.put_busy.new.sink)) text h)
    c.put_busy.ensures.failed

pub returns-clause-ok : goal.returns-clause-ok
returns-clause-ok g c image s m so =
    let x = abstract.processor m c.args.p in
    let depth = c.depth-depth.ensures c.args.mode image s m so in
    let none : c.depth-depth.result ≡ 0 = let f = c.if-depth-gt0.false in omega arith in
    let processors = so.at.shows.processors in
    let lt : c.args.p < image.processors = omega arith in
    let text = tasks_end c.args.mode image s m _ so c.args.p lt (mode_text c.args.mode) c.depth-depth.result none
    ∙ ap (end_lines (mode_text c.args.mode) c.args.p x) depth in
    ok_then c.put_tasks.result _ _ (λ h. h ∙ ap (append_known (g.K.Sink.taken c.args.sink.now)) text)
    (c.put_tasks.ensures.ok image s m so (no_bodies x.bodies (sym depth ∙ none)))

pub returns-clause-failed : goal.returns-clause-failed
returns-clause-failed g c image s m so =
    let x = abstract.processor m c.args.p in
    let depth = c.depth-depth.ensures c.args.mode image s m so in
    let none : c.depth-depth.result ≡ 0 = let f = c.if-depth-gt0.false in omega arith in
    let processors = so.at.shows.processors in
    let lt : c.args.p < image.processors = omega arith in
    let text = tasks_end c.args.mode image s m _ so c.args.p lt (mode_text c.args.mode) c.depth-depth.result none
    ∙ ap (end_lines (mode_text c.args.mode) c.args.p x) depth in
    err_then c.put_tasks.result _ _ (λ h. subst (TookPrefix (g.K.Sink.taken c.args.sink.now) (g.K.Sink.taken c.put_tasks.new.sink)) text h)
    (c.put_tasks.ensures.failed image s m so (no_bodies x.bodies (sym depth ∙ none)))
