use Rattle.std.proofs.Common.{◌≡◌, ◌+◌, ◌<◌, ◌≤◌, suc, true, [], ◌∷◌, length, get_or, take, refl, sym, ◌∙◌, subst, arith}
use Rattle.ev_abstract.specs.declared.script_line.Line.TheVariants.{Turn}
use Rattle.ev_concrete.specs.RunText.{run_text}
use Rattle.ev_pair.specs.Within.{is_within}
use Rattle.ev_pair.proofs.Opened.{line_at, script_line}
use Rattle.ev_core.specs.Run.{IsRun}
use Rattle.ev_pair.specs.SideText.{shown_end}
use Rattle.ev_io.proofs.Writes.{Wrote, more_written, all_written, failed_within, failed_at_end, ok_then, err_then, err_now}
use Rattle.ev_pair.proofs.Rest.{at_start, up_to_place, one_place, all_done, end_place, one_end}
use Rattle.ev_pair.proofs.run.put_one.Goals as goal

pub loop-line-init : goal.loop-line-init
loop-line-init g c = record {
  at = λ image r script. r;
  wrote = λ image r script. at_start c.args.frames (c.args.mode ∷ []) image c.args.script.now (g.K.Sink.taken c.args.sink.now);
  processors = refl;
  totals = omega arith;
  count = omega arith;
}

pub put_line-requires-clause-within : goal.put_line-requires-clause-within
put_line-requires-clause-within g c =
    let n = length c.args.machine.now.parts.cpus in
    subst (λ k. is_within k (get_or c.args.script.now c.loop-line.line-index (Turn 0)) ≡ true) (sym c.loop-line.invariant.processors)
    (line_at n c.args.script.now c.loop-line.line-index (Turn 0) c.requires.within (omega arith))

pub loop-line-preserved : goal.loop-line-preserved
loop-line-preserved g c =
    let ls = c.args.script.now in
    let i = c.loop-line.line-index in
    let e : i + 1 ≡ suc i = omega arith in
    let lt : i < length ls = omega arith in record {
      at = λ image r script. subst (λ done. IsRun c.args.mode image done c.put_line.new.machine) (sym (up_to_place ls i (i + 1) _ e lt))
          (c.in_ok-put_line.ensures.run image (take i ls) (c.loop-line.invariant.at image r script) (script_line image ls i (Turn 0) script lt));
      wrote = λ image r script. more_written _ _ _ _ _ _ _ (c.loop-line.invariant.wrote image r script)
          (one_place c.args.frames image ls i (i + 1) _ e lt c.args.mode)
          (c.in_ok-put_line.ensures.ok image (take i ls) (c.loop-line.invariant.at image r script));
      processors = c.put_line.ensures.same ∙ c.loop-line.invariant.processors;
      totals = omega arith;
      count = omega arith;
    }

pub returns-in_err-put_line-clause-failed : goal.returns-in_err-put_line-clause-failed
returns-in_err-put_line-clause-failed g c image r script =
    let ls = c.args.script.now in
    let i = c.loop-line.line-index in
    let e : i + 1 ≡ suc i = omega arith in
    let lt : i < length ls = omega arith in
    err_now _ _ (failed_within _ _ _ _ _ _ _ (c.loop-line.invariant.wrote image r script) (one_place c.args.frames image ls i (i + 1) _ e lt c.args.mode)
    (c.in_err-put_line.ensures.failed image (take i ls) (c.loop-line.invariant.at image r script)))

pub returns-clause-ok : goal.returns-clause-ok
returns-clause-ok g c image r script =
    let ls = c.args.script.now in
    let i = c.loop-line.line-index in
    let past : length ls ≤ i = omega arith in
    let old = g.K.Sink.taken c.args.sink.now in
    let now = g.K.Sink.taken c.loop-line.sink in
    let whole = run_text image ls (c.args.mode ∷ []) c.args.frames in
    let here = subst (λ done. IsRun c.args.mode image done c.loop-line.machine) (all_done ls i past) (c.loop-line.invariant.at image r script) in
    let left = subst (λ t. Wrote old now t whole) (end_place c.args.frames (c.args.mode ∷ []) image ls i past ∙ one_end c.args.frames c.args.mode image ls)
    (c.loop-line.invariant.wrote image r script) in
    ok_then c.put_end.result _ _ (λ h. all_written old now (g.K.Sink.taken c.put_end.new.sink) (shown_end c.args.frames c.args.mode image ls) whole left h)
    (c.put_end.ensures.ok image ls here)

pub returns-clause-failed : goal.returns-clause-failed
returns-clause-failed g c image r script =
    let ls = c.args.script.now in
    let i = c.loop-line.line-index in
    let past : length ls ≤ i = omega arith in
    let old = g.K.Sink.taken c.args.sink.now in
    let now = g.K.Sink.taken c.loop-line.sink in
    let whole = run_text image ls (c.args.mode ∷ []) c.args.frames in
    let here = subst (λ done. IsRun c.args.mode image done c.loop-line.machine) (all_done ls i past) (c.loop-line.invariant.at image r script) in
    let left = subst (λ t. Wrote old now t whole) (end_place c.args.frames (c.args.mode ∷ []) image ls i past ∙ one_end c.args.frames c.args.mode image ls)
    (c.loop-line.invariant.wrote image r script) in
    err_then c.put_end.result _ _ (λ h. failed_at_end old now (g.K.Sink.taken c.put_end.new.sink) (shown_end c.args.frames c.args.mode image ls) whole left
    h) (c.put_end.ensures.failed image ls here)
