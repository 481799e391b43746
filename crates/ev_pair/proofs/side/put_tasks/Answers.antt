use Rattle.std.proofs.Common.{◌≡◌, ◌+◌, ◌-◌, ◌<◌, ◌≤◌, length, ap, sym, ◌∙◌, subst, arith}
use Rattle.std.proofs.lemmas.Bool.{ltb-true, ltb-false}
use Rattle.ev_abstract.specs.Machine as abstract
use Rattle.ev_abstract.specs.EntryText.{task_lines}
use Rattle.ev_trace.specs.FrameText.{mode_text}
use Rattle.ev_concrete.specs.Opening.{tasks_of}
use Rattle.ev_io.proofs.Writes.{Wrote, none_yet, more_written, failed_within, none_left, err_now}
use Rattle.ev_pair.proofs.Ends.{task_count, next_task, none_next, no_more}
use Rattle.ev_pair.proofs.side.put_tasks.Goals.{then-has_task+in_ok-put_task, else-has_task}
use Rattle.ev_pair.proofs.side.put_tasks.Goals as goal

pub loop-i-init : goal.loop-i-init
loop-i-init g c = record {
  wrote = λ image s m so none.
      let taken = g.K.Sink.taken c.args.sink.now in
      let x = abstract.processor m c.args.p in
      let e : length (tasks_of image c.args.p) ≡ length (tasks_of image c.args.p) - 0 = omega arith in
      subst (λ n. Wrote taken taken (task_lines (mode_text c.args.mode) c.args.p x 0 n)
      (task_lines (mode_text c.args.mode) c.args.p x 0 (length (tasks_of image c.args.p)))) e (none_yet taken _);
  count = omega arith;
}

pub loop-i-preserved : goal.loop-i-preserved
loop-i-preserved g c = elim c.if-has_task.branch [
  | then-has_task+in_ok-put_task w ↦ record {
    wrote = λ image s m so none.
        let x = abstract.processor m c.args.p in
        let there = ltb-true c.loop-i.i (length (tasks_of image c.args.p))
        (sym (c.has_task.ensures c.args.mode image s m so none) ∙ w.if-has_task.true) in
        more_written _ _ _ _ _ _ _ (c.loop-i.invariant.wrote image s m so none)
        (next_task (mode_text c.args.mode) c.args.p c.loop-i.i (c.loop-i.i + 1) (length (tasks_of image c.args.p)) x (omega arith) there w.task.result
        (w.task.ensures c.args.mode image s m so none there))
        (ap (g.K.Sink.taken) w.sink-is ∙ w.in_ok-put_task.ensures.ok);
    count = subst (λ k. g.K.Sink.faults c.args.sink.now ≤ g.K.Sink.faults k) (sym w.sink-is)
        (let before = c.loop-i.invariant.count in let after = w.put_task.ensures.later in omega arith);
  }
  | else-has_task w ↦ record {
    wrote = λ image s m so none.
        let x = abstract.processor m c.args.p in
        let past = ltb-false c.loop-i.i (length (tasks_of image c.args.p))
        (sym (c.has_task.ensures c.args.mode image s m so none) ∙ w.if-has_task.false) in
        subst (λ k. Wrote (g.K.Sink.taken c.args.sink.now) (g.K.Sink.taken k)
        (task_lines (mode_text c.args.mode) c.args.p x (c.loop-i.i + 1) (length (tasks_of image c.args.p) - (c.loop-i.i + 1)))
        (task_lines (mode_text c.args.mode) c.args.p x 0 (length (tasks_of image c.args.p)))) (sym w.sink-is)
        (subst (λ t. Wrote (g.K.Sink.taken c.args.sink.now) (g.K.Sink.taken c.loop-i.sink) t
        (task_lines (mode_text c.args.mode) c.args.p x 0 (length (tasks_of image c.args.p))))
        (none_next (mode_text c.args.mode) c.args.p c.loop-i.i (c.loop-i.i + 1) (length (tasks_of image c.args.p)) x (omega arith) past)
        (c.loop-i.invariant.wrote image s m so none));
    count = subst (λ k. g.K.Sink.faults c.args.sink.now ≤ g.K.Sink.faults k) (sym w.sink-is) c.loop-i.invariant.count;
  }
]

pub returns-in_err-put_task-clause-failed : goal.returns-in_err-put_task-clause-failed
returns-in_err-put_task-clause-failed g c image s m so none =
    let x = abstract.processor m c.args.p in
    let there = ltb-true c.loop-i.i (length (tasks_of image c.args.p)) (sym (c.has_task.ensures c.args.mode image s m so none) ∙ c.if-has_task.true) in
    err_now _ _ (failed_within _ _ _ _ _ _ _ (c.loop-i.invariant.wrote image s m so none)
    (next_task (mode_text c.args.mode) c.args.p c.loop-i.i (c.loop-i.i + 1) (length (tasks_of image c.args.p)) x (omega arith) there c.task.result
    (c.task.ensures c.args.mode image s m so none there))
    c.in_err-put_task.ensures.failed)

pub returns-clause-ok : goal.returns-clause-ok
returns-clause-ok g c image s m so none =
    let x = abstract.processor m c.args.p in
    let within = subst (λ k. c.args.p < k) so.at.shows.processors c.requires.place in
    let few = task_count c.args.mode image s m _ so c.args.p within in
    none_left _ _ _ (subst (λ t. Wrote (g.K.Sink.taken c.args.sink.now) (g.K.Sink.taken c.loop-i.sink) t
    (task_lines (mode_text c.args.mode) c.args.p x 0 (length (tasks_of image c.args.p))))
    (no_more (mode_text c.args.mode) c.args.p c.loop-i.i (length (tasks_of image c.args.p)) x (omega arith))
    (c.loop-i.invariant.wrote image s m so none))
