use Rattle.std.proofs.Common.{◌≡◌, ◌+◌, ◌-◌, ◌<◌, subst, arith}
use Rattle.ev_abstract.specs.EntryText.{all_end_lines}
use Rattle.ev_trace.specs.FrameText.{mode_text}
use Rattle.ev_io.proofs.Writes.{Wrote, none_yet, more_written, failed_within, none_left, err_now}
use Rattle.ev_pair.proofs.Ends.{next_lines}
use Rattle.ev_pair.proofs.side.put_states.Goals as goal

pub loop-p-init : goal.loop-p-init
loop-p-init g c = record {
  wrote = λ image s m so.
      let taken = g.K.Sink.taken c.args.sink.now in
      let e : image.processors ≡ image.processors - 0 = omega arith in
      subst (λ n. Wrote taken taken (all_end_lines (mode_text c.args.mode) m 0 n) (all_end_lines (mode_text c.args.mode) m 0 image.processors)) e
      (none_yet taken _);
  count = omega arith;
}

pub loop-p-preserved : goal.loop-p-preserved
loop-p-preserved g c = record {
  wrote = λ image s m so.
      let processors = so.at.shows.processors in
      let lt : c.loop-p.p < image.processors = omega arith in
      more_written _ _ _ _ _ _ _ (c.loop-p.invariant.wrote image s m so)
      (next_lines (mode_text c.args.mode) m c.loop-p.p (c.loop-p.p + 1) image.processors (omega arith) lt)
      (c.in_ok-put_state.ensures.ok image s m so);
  count = omega arith;
}

pub returns-in_err-put_state-clause-failed : goal.returns-in_err-put_state-clause-failed
returns-in_err-put_state-clause-failed g c image s m so =
    let processors = so.at.shows.processors in
    let lt : c.loop-p.p < image.processors = omega arith in
    err_now _ _ (failed_within _ _ _ _ _ _ _ (c.loop-p.invariant.wrote image s m so)
    (next_lines (mode_text c.args.mode) m c.loop-p.p (c.loop-p.p + 1) image.processors (omega arith) lt)
    (c.in_err-put_state.ensures.failed image s m so))

pub returns-clause-ok : goal.returns-clause-ok
returns-clause-ok g c image s m so =
    let processors = so.at.shows.processors in
    let e : image.processors - c.loop-p.p ≡ 0 = omega arith in
    none_left _ _ _ (subst (λ n. Wrote (g.K.Sink.taken c.args.sink.now) (g.K.Sink.taken c.loop-p.sink)
    (all_end_lines (mode_text c.args.mode) m c.loop-p.p n) (all_end_lines (mode_text c.args.mode) m 0 image.processors)) e
    (c.loop-p.invariant.wrote image s m so))
