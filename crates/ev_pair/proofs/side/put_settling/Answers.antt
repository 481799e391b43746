use Rattle.std.proofs.Common.{◌≡◌, ◌+◌, ◌<◌, ◌≤◌, refl, sym, ◌∙◌, subst, arith}
use Rattle.std.specs.Io.KnownBytes.{append_known}
use Rattle.ev_io.specs.Transfer.{TookPrefix}
use Rattle.ev_concrete.specs.ConcreteRun.{noted}
use Rattle.ev_concrete.specs.RunText.{shown_frames, settling}
use Rattle.ev_abstract.specs.Run.{run}
use Rattle.ev_core.specs.Run.{IsStandingAs}
use Rattle.ev_pair.specs.SideText.{side_at}
use Rattle.ev_io.proofs.Writes.{Wrote, none_yet, more_written, failed_within, none_left, err_now}
use Rattle.ev_pair.proofs.Settled.{settled_first, settled_next, run_stands, all_later, next_later, none_later}
use Rattle.ev_pair.proofs.side.put_settling.Goals as goal

pub loop-p-init : goal.loop-p-init
loop-p-init g c = record {
  so = λ image script r. run_stands c.args.mode image script _ r;
  wrote = λ image script r.
      let taken = g.K.Sink.taken c.args.sink.now in
      subst (λ t. Wrote taken taken t (shown_frames c.args.frames c.args.mode (settling image (side_at c.args.mode image script)).1))
      (sym (all_later c.args.frames c.args.mode image script)) (none_yet taken _);
  totals = omega arith;
  same = refl;
  count = omega arith;
}

pub loop-p-preserved : goal.loop-p-preserved
loop-p-preserved g c = record {
  so = λ image script r. subst (λ s. IsStandingAs c.args.mode image s (run image script) c.settle-settled.new.self)
      (sym (settled_next c.args.mode image script c.loop-p.p (c.loop-p.p + 1) (omega arith)))
      (c.settle-settled.ensures.settles c.args.mode image (settled_first c.args.mode image script c.loop-p.p).0 (run image script)
      (c.loop-p.invariant.so image script r)).so;
  wrote = λ image script r.
      let processors = r.at.shows.processors in
      let lt : c.loop-p.p < image.processors = omega arith in
      let old = g.K.Sink.taken c.loop-p.sink in
      let new = g.K.Sink.taken c.put_shown_frames.new.sink in
      let frames = c.as_slice.ensures.value
      ∙ (c.settle-settled.ensures.settles c.args.mode image (settled_first c.args.mode image script c.loop-p.p).0 (run image script)
      (c.loop-p.invariant.so image script r)).frames in
      more_written _ _ _ _ _ _ _ (c.loop-p.invariant.wrote image script r)
      (next_later c.args.frames c.args.mode image script c.loop-p.p (c.loop-p.p + 1) (omega arith) lt)
      (subst (λ fs. new ≡ append_known old (shown_frames c.args.frames c.args.mode (noted c.loop-p.p fs))) frames c.in_ok-put_shown_frames.ensures.ok);
  totals = let t = c.settle-settled.ensures.cost.totals in let f = c.settle-settled.ensures.cost.few in omega arith;
  same = c.settle-settled.ensures.same ∙ c.loop-p.invariant.same;
  count = omega arith;
}

pub returns-in_err-put_shown_frames-clause-failed : goal.returns-in_err-put_shown_frames-clause-failed
returns-in_err-put_shown_frames-clause-failed g c image script r =
    let processors = r.at.shows.processors in
    let lt : c.loop-p.p < image.processors = omega arith in
    let old = g.K.Sink.taken c.loop-p.sink in
    let new = g.K.Sink.taken c.put_shown_frames.new.sink in
    let frames = c.as_slice.ensures.value
    ∙ (c.settle-settled.ensures.settles c.args.mode image (settled_first c.args.mode image script c.loop-p.p).0 (run image script)
    (c.loop-p.invariant.so image script r)).frames in
    err_now _ _ (failed_within _ _ _ _ _ _ _ (c.loop-p.invariant.wrote image script r)
    (next_later c.args.frames c.args.mode image script c.loop-p.p (c.loop-p.p + 1) (omega arith) lt)
    (subst (λ fs. TookPrefix old new (shown_frames c.args.frames c.args.mode (noted c.loop-p.p fs))) frames c.in_err-put_shown_frames.ensures.failed))

pub returns-clause-so : goal.returns-clause-so
returns-clause-so g c image script r =
    let processors = r.at.shows.processors in
    let all : c.loop-p.p ≡ image.processors = omega arith in
    subst (λ k. IsStandingAs c.args.mode image (settled_first c.args.mode image script k).0 (run image script) c.loop-p.machine) all
    (c.loop-p.invariant.so image script r)

pub returns-clause-ok : goal.returns-clause-ok
returns-clause-ok g c image script r =
    let processors = r.at.shows.processors in
    let past : image.processors ≤ c.loop-p.p = omega arith in
    let old = g.K.Sink.taken c.args.sink.now in
    let now = g.K.Sink.taken c.loop-p.sink in
    none_left old now _ (subst (λ t. Wrote old now t (shown_frames c.args.frames c.args.mode (settling image (side_at c.args.mode image script)).1))
    (none_later c.args.frames c.args.mode image script c.loop-p.p past) (c.loop-p.invariant.wrote image script r))
