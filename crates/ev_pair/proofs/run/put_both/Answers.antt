use Rattle.std.proofs.Common.{◌≡◌, ◌+◌, ◌<◌, ◌≤◌, suc, true, [], ◌∷◌, ◌++◌, length, get_or, take, refl, sym, ◌∙◌, subst, arith}
use Rattle.ev_isa.specs.declared.mode.Mode.TheVariants.{Idt, Fred}
use Rattle.ev_abstract.specs.declared.script_line.Line.TheVariants.{Turn}
use Rattle.ev_concrete.specs.RunText.{run_text}
use Rattle.ev_pair.specs.Within.{is_within}
use Rattle.ev_pair.proofs.Opened.{line_at, script_line}
use Rattle.ev_core.specs.Run.{IsRun}
use Rattle.ev_pair.specs.SideText.{shown_end}
use Rattle.ev_io.proofs.Writes.{Wrote, more_written, all_written, failed_within, failed_at_end, ok_then, err_then, err_now}
use Rattle.ev_pair.proofs.Rest.{at_start, up_to_place, both_places, all_done, end_place, both_ends}
use Rattle.ev_pair.proofs.run.put_both.Goals as goal

pub loop-line-init : goal.loop-line-init
loop-line-init g c = record {
  idt_at = λ image r script. r;
  fred_at = λ image q script. q;
  wrote = λ image r q script. at_start c.args.frames (Idt ∷ Fred ∷ []) image c.args.script.now (g.K.Sink.taken c.args.sink.now);
  idt_processors = refl;
  idt_totals = omega arith;
  fred_processors = refl;
  fred_totals = omega arith;
  count = omega arith;
}

pub put_line-requires-clause-within : goal.put_line-requires-clause-within
put_line-requires-clause-within g c =
    let n = length c.args.idt.now.parts.cpus in
    subst (λ k. is_within k (get_or c.args.script.now c.loop-line.line-index (Turn 0)) ≡ true) (sym c.loop-line.invariant.idt_processors)
    (line_at n c.args.script.now c.loop-line.line-index (Turn 0) c.requires.idt_within (omega arith))

pub put_line-requires-in-loop-line-clause-within : goal.put_line-requires-in-loop-line-clause-within
put_line-requires-in-loop-line-clause-within g c =
    let n = length c.args.fred.now.parts.cpus in
    subst (λ k. is_within k (get_or c.args.script.now c.loop-line.line-index (Turn 0)) ≡ true) (sym c.loop-line.invariant.fred_processors)
    (line_at n c.args.script.now c.loop-line.line-index (Turn 0) c.requires.fred_within (omega arith))

pub loop-line-preserved : goal.loop-line-preserved
loop-line-preserved g c =
    let ls = c.args.script.now in
    let i = c.loop-line.line-index in
    let e : i + 1 ≡ suc i = omega arith in
    let lt : i < length ls = omega arith in record {
      idt_at = λ image r script. subst (λ done. IsRun Idt image done c.put_line.new.machine) (sym (up_to_place ls i (i + 1) _ e lt))
          (c.in_ok-put_line.ensures.run image (take i ls) (c.loop-line.invariant.idt_at image r script) (script_line image ls i (Turn 0) script lt));
      fred_at = λ image q script. subst (λ done. IsRun Fred image done c.put_line-in-loop-line.new.machine) (sym (up_to_place ls i (i + 1) _ e lt))
          (c.in_ok-put_line-2.ensures.run image (take i ls) (c.loop-line.invariant.fred_at image q script) (script_line image ls i (Turn 0) script lt));
      wrote = λ image r q script.
          more_written _ _ _ _ _ _ _
          (more_written _ _ _ _ _ _ _ (c.loop-line.invariant.wrote image r q script) (both_places c.args.frames image ls i (i + 1) _ e lt Idt Fred)
          (c.in_ok-put_line.ensures.ok image (take i ls) (c.loop-line.invariant.idt_at image r script)))
          refl (c.in_ok-put_line-2.ensures.ok image (take i ls) (c.loop-line.invariant.fred_at image q script));
      idt_processors = c.put_line.ensures.same ∙ c.loop-line.invariant.idt_processors;
      idt_totals = omega arith;
      fred_processors = c.put_line-in-loop-line.ensures.same ∙ c.loop-line.invariant.fred_processors;
      fred_totals = omega arith;
      count = omega arith;
    }

pub returns-in_err-put_line-clause-failed : goal.returns-in_err-put_line-clause-failed
returns-in_err-put_line-clause-failed g c image r q script =
    let ls = c.args.script.now in
    let i = c.loop-line.line-index in
    let e : i + 1 ≡ suc i = omega arith in
    let lt : i < length ls = omega arith in
    err_now _ _ (failed_within _ _ _ _ _ _ _ (c.loop-line.invariant.wrote image r q script) (both_places c.args.frames image ls i (i + 1) _ e lt Idt Fred)
    (c.in_err-put_line.ensures.failed image (take i ls) (c.loop-line.invariant.idt_at image r script)))

pub returns-in_err-put_line-2-clause-failed : goal.returns-in_err-put_line-2-clause-failed
returns-in_err-put_line-2-clause-failed g c image r q script =
    let ls = c.args.script.now in
    let i = c.loop-line.line-index in
    let e : i + 1 ≡ suc i = omega arith in
    let lt : i < length ls = omega arith in
    err_now _ _ (failed_within _ _ _ _ _ _ _
    (more_written _ _ _ _ _ _ _ (c.loop-line.invariant.wrote image r q script) (both_places c.args.frames image ls i (i + 1) _ e lt Idt Fred)
    (c.in_ok-put_line.ensures.ok image (take i ls) (c.loop-line.invariant.idt_at image r script)))
    refl (c.in_err-put_line-2.ensures.failed image (take i ls) (c.loop-line.invariant.fred_at image q script)))

pub returns-in_err-put_end-clause-failed : goal.returns-in_err-put_end-clause-failed
returns-in_err-put_end-clause-failed g c image r q script =
    let ls = c.args.script.now in
    let i = c.loop-line.line-index in
    let past : length ls ≤ i = omega arith in
    let old = g.K.Sink.taken c.args.sink.now in
    let now = g.K.Sink.taken c.loop-line.sink in
    let whole = run_text image ls (Idt ∷ Fred ∷ []) c.args.frames in
    let idt_end = shown_end c.args.frames Idt image ls in
    let fred_end = shown_end c.args.frames Fred image ls in
    let here = subst (λ done. IsRun Idt image done c.loop-line.idt) (all_done ls i past) (c.loop-line.invariant.idt_at image r script) in
    let left = subst (λ t. Wrote old now t whole) (end_place c.args.frames (Idt ∷ Fred ∷ []) image ls i past ∙ both_ends c.args.frames Idt Fred image ls)
    (c.loop-line.invariant.wrote image r q script) in
    err_now _ _ (failed_within old now (g.K.Sink.taken c.put_end.new.sink) (idt_end ++ fred_end) idt_end fred_end whole left refl
    (c.in_err-put_end.ensures.failed image ls here))

pub returns-clause-ok : goal.returns-clause-ok
returns-clause-ok g c image r q script =
    let ls = c.args.script.now in
    let i = c.loop-line.line-index in
    let past : length ls ≤ i = omega arith in
    let old = g.K.Sink.taken c.args.sink.now in
    let now = g.K.Sink.taken c.loop-line.sink in
    let whole = run_text image ls (Idt ∷ Fred ∷ []) c.args.frames in
    let idt_end = shown_end c.args.frames Idt image ls in
    let fred_end = shown_end c.args.frames Fred image ls in
    let here = subst (λ done. IsRun Idt image done c.loop-line.idt) (all_done ls i past) (c.loop-line.invariant.idt_at image r script) in
    let there = subst (λ done. IsRun Fred image done c.loop-line.fred) (all_done ls i past) (c.loop-line.invariant.fred_at image q script) in
    let left = subst (λ t. Wrote old now t whole) (end_place c.args.frames (Idt ∷ Fred ∷ []) image ls i past ∙ both_ends c.args.frames Idt Fred image ls)
    (c.loop-line.invariant.wrote image r q script) in
    let last = more_written old now (g.K.Sink.taken c.put_end.new.sink) (idt_end ++ fred_end) idt_end fred_end whole left refl
    (c.in_ok-put_end.ensures.ok image ls here) in
    ok_then c.put_end-2.result _ _ (λ h. all_written old (g.K.Sink.taken c.put_end.new.sink) (g.K.Sink.taken c.put_end-2.new.sink) fred_end whole last h)
    (c.put_end-2.ensures.ok image ls there)

pub returns-clause-failed : goal.returns-clause-failed
returns-clause-failed g c image r q script =
    let ls = c.args.script.now in
    let i = c.loop-line.line-index in
    let past : length ls ≤ i = omega arith in
    let old = g.K.Sink.taken c.args.sink.now in
    let now = g.K.Sink.taken c.loop-line.sink in
    let whole = run_text image ls (Idt ∷ Fred ∷ []) c.args.frames in
    let idt_end = shown_end c.args.frames Idt image ls in
    let fred_end = shown_end c.args.frames Fred image ls in
    let here = subst (λ done. IsRun Idt image done c.loop-line.idt) (all_done ls i past) (c.loop-line.invariant.idt_at image r script) in
    let there = subst (λ done. IsRun Fred image done c.loop-line.fred) (all_done ls i past) (c.loop-line.invariant.fred_at image q script) in
    let left = subst (λ t. Wrote old now t whole) (end_place c.args.frames (Idt ∷ Fred ∷ []) image ls i past ∙ both_ends c.args.frames Idt Fred image ls)
    (c.loop-line.invariant.wrote image r q script) in
    let last = more_written old now (g.K.Sink.taken c.put_end.new.sink) (idt_end ++ fred_end) idt_end fred_end whole left refl
    (c.in_ok-put_end.ensures.ok image ls here) in
    err_then c.put_end-2.result _ _ (λ h. failed_at_end old (g.K.Sink.taken c.put_end.new.sink) (g.K.Sink.taken c.put_end-2.new.sink) fred_end whole last h)
    (c.put_end-2.ensures.failed image ls there)
