use Rattle.std.proofs.Common.{◌<◌, ◌⊎◌, ◌∙◌, ◌∷◌, [], length, sym, ap, arith, inl, inr, refl, subst, All}
use Rattle.std.proofs.lemmas.List.{length_push}
use Rattle.std.proofs.lemmas.List.Elements.{All-push}
use Rattle.std.specs.Io.KnownBytes.{prepend_known}
use Rattle.ev_io.specs.Lines.{IsPrintable}
use Rattle.ev_io.proofs.Bytes.{prepend_first, prepend_prepend, draws_more}
use Rattle.ev_io.proofs.Outcomes.{at_large, at_line, at_long, at_not_ascii, at_end, at_last, takes_line, takes_last, takes_none, text_is, end_here, is_fine, stops_here, stops_behind}
use Rattle.ev_io.proofs.lines.read_line.Goals.{then-b-lt32-via-then-b-lt32, then-b-lt32-via-else-b-lt32+then-b-gt126}
use Rattle.ev_io.proofs.lines.read_line.Goals as goal

pub returns-in-Err-clause-stops : goal.returns-in-Err-clause-stops
returns-in-Err-clause-stops g c =
    let t = c.loop-text.text in
    let k = c.loop-text.gone in
    let kept = c.loop-text.invariant in
    let text = text_is c.args.gone.now k t kept.printable kept.short kept.gone kept.within in
    stops_here c.args.gone.now k t _ _ text kept.gone (kept.same ∙ ap (prepend_known t) c.fill.ensures.same)

pub returns-in-Err-clause-draws : goal.returns-in-Err-clause-draws
returns-in-Err-clause-draws g c =
    draws_more _ c.loop-text.gone _ _ _ _ _ _ c.loop-text.invariant.draws c.fill.ensures.draws refl

pub returns-then-len-eq0-clause-answer : goal.returns-then-len-eq0-clause-answer
returns-then-len-eq0-clause-answer g c =
    let t = c.loop-text.text in
    let k = c.loop-text.gone in
    let kept = c.loop-text.invariant in
    let text = text_is c.args.gone.now k t kept.printable kept.short kept.gone kept.within in
    let rest = prepend_known c.fill.new.self (g.S.Source.left c.fill.new.src) in
    let comes = kept.same ∙ ap (prepend_known t) c.fill.ensures.same in
    let end = end_here _ _ (c.in-Ok-false.ensures.end c.in-Ok-false.field-0-test) in
    at_end c.args.number c.args.gone.now t _ rest text end (omega (arith, c.len.ensures.is, c.if-len-eq0.true)) comes

pub returns-then-len-eq0-clause-end : goal.returns-then-len-eq0-clause-end
returns-then-len-eq0-clause-end g c =
    let t = c.loop-text.text in
    let k = c.loop-text.gone in
    let kept = c.loop-text.invariant in
    let text = text_is c.args.gone.now k t kept.printable kept.short kept.gone kept.within in
    let rest = prepend_known c.fill.new.self (g.S.Source.left c.fill.new.src) in
    let comes = kept.same ∙ ap (prepend_known t) c.fill.ensures.same in
    let end = end_here _ _ (c.in-Ok-false.ensures.end c.in-Ok-false.field-0-test) in
    λ _. takes_none t _ rest (omega (arith, c.len.ensures.is, c.if-len-eq0.true)) end comes

pub returns-then-len-eq0-clause-draws : goal.returns-then-len-eq0-clause-draws
returns-then-len-eq0-clause-draws g c =
    draws_more _ c.loop-text.gone _ _ _ _ _ _ c.loop-text.invariant.draws c.fill.ensures.draws refl

pub returns-in-Ok-false-clause-answer : goal.returns-in-Ok-false-clause-answer
returns-in-Ok-false-clause-answer g c =
    let t = c.loop-text.text in
    let k = c.loop-text.gone in
    let kept = c.loop-text.invariant in
    let text = text_is c.args.gone.now k t kept.printable kept.short kept.gone kept.within in
    let rest = prepend_known c.fill.new.self (g.S.Source.left c.fill.new.src) in
    let comes = kept.same ∙ ap (prepend_known t) c.fill.ensures.same in
    let end = end_here _ _ (c.in-Ok-false.ensures.end c.in-Ok-false.field-0-test) in
    at_last c.args.number c.args.gone.now k t _ rest text kept.gone end (λ e. c.if-len-eq0.false (c.len.ensures.is ∙ e)) comes

pub returns-in-Ok-false-clause-line : goal.returns-in-Ok-false-clause-line
returns-in-Ok-false-clause-line g c =
    let t = c.loop-text.text in
    let k = c.loop-text.gone in
    let kept = c.loop-text.invariant in
    let text = text_is c.args.gone.now k t kept.printable kept.short kept.gone kept.within in
    let rest = prepend_known c.fill.new.self (g.S.Source.left c.fill.new.src) in
    let comes = kept.same ∙ ap (prepend_known t) c.fill.ensures.same in
    let end = end_here _ _ (c.in-Ok-false.ensures.end c.in-Ok-false.field-0-test) in
    λ _. takes_last c.args.gone.now t _ rest text (λ e. c.if-len-eq0.false (c.len.ensures.is ∙ e)) end comes

pub returns-in-Ok-false-clause-draws : goal.returns-in-Ok-false-clause-draws
returns-in-Ok-false-clause-draws g c =
    draws_more _ c.loop-text.gone _ _ _ _ _ _ c.loop-text.invariant.draws c.fill.ensures.draws refl

pub returns-then-gone-ge-INPUT_LIMIT-clause-answer : goal.returns-then-gone-ge-INPUT_LIMIT-clause-answer
returns-then-gone-ge-INPUT_LIMIT-clause-answer g c =
    let t = c.loop-text.text in
    let k = c.loop-text.gone in
    let kept = c.loop-text.invariant in
    let text = text_is c.args.gone.now k t kept.printable kept.short kept.gone kept.within in
    let comes = kept.same ∙ ap (prepend_known t) c.fill.ensures.same in
    let some = c.in-Ok-true.ensures.some c.in-Ok-true.field-0-test in
    at_large c.args.number c.args.gone.now k t c.fill.new.self _ (g.S.Source.left c.fill.new.src) text kept.gone c.if-gone-ge-INPUT_LIMIT.true some comes

pub returns-then-gone-ge-INPUT_LIMIT-clause-stops : goal.returns-then-gone-ge-INPUT_LIMIT-clause-stops
returns-then-gone-ge-INPUT_LIMIT-clause-stops g c =
    let t = c.loop-text.text in
    let k = c.loop-text.gone in
    let kept = c.loop-text.invariant in
    let text = text_is c.args.gone.now k t kept.printable kept.short kept.gone kept.within in
    let comes = kept.same ∙ ap (prepend_known t) c.fill.ensures.same in
    stops_here c.args.gone.now k t _ _ text kept.gone comes

pub returns-then-gone-ge-INPUT_LIMIT-clause-draws : goal.returns-then-gone-ge-INPUT_LIMIT-clause-draws
returns-then-gone-ge-INPUT_LIMIT-clause-draws g c =
    draws_more _ c.loop-text.gone _ _ _ _ _ _ c.loop-text.invariant.draws c.fill.ensures.draws refl

pub returns-then-b-eq10-clause-answer : goal.returns-then-b-eq10-clause-answer
returns-then-b-eq10-clause-answer g c =
    let t = c.loop-text.text in
    let k = c.loop-text.gone in
    let kept = c.loop-text.invariant in
    let text = text_is c.args.gone.now k t kept.printable kept.short kept.gone kept.within in
    let b = c.pop-b.result in
    let left = g.S.Source.left c.fill.new.src in
    let rest = prepend_known c.pop-b.new.self left in
    let comes = kept.same ∙ ap (prepend_known t) (c.fill.ensures.same ∙ ap (λ x. prepend_known x left) c.pop-b.ensures
    ∙ prepend_first b c.pop-b.new.self left) in
    at_line c.args.number c.args.gone.now k b t _ rest text kept.gone c.if-gone-ge-INPUT_LIMIT.false c.if-b-eq10.true comes

pub returns-then-b-eq10-clause-line : goal.returns-then-b-eq10-clause-line
returns-then-b-eq10-clause-line g c =
    let t = c.loop-text.text in
    let k = c.loop-text.gone in
    let kept = c.loop-text.invariant in
    let text = text_is c.args.gone.now k t kept.printable kept.short kept.gone kept.within in
    let b = c.pop-b.result in
    let left = g.S.Source.left c.fill.new.src in
    let rest = prepend_known c.pop-b.new.self left in
    let comes = kept.same ∙ ap (prepend_known t) (c.fill.ensures.same ∙ ap (λ x. prepend_known x left) c.pop-b.ensures
    ∙ prepend_first b c.pop-b.new.self left) in
    λ _. takes_line c.args.gone.now b t _ rest text c.if-b-eq10.true comes

pub returns-then-b-eq10-clause-draws : goal.returns-then-b-eq10-clause-draws
returns-then-b-eq10-clause-draws g c =
    draws_more _ c.loop-text.gone _ _ _ _ _ _ c.loop-text.invariant.draws c.fill.ensures.draws (omega (arith, ap length c.pop-b.ensures))

pub returns-then-len-ge-LINE_LIMIT-clause-answer : goal.returns-then-len-ge-LINE_LIMIT-clause-answer
returns-then-len-ge-LINE_LIMIT-clause-answer g c =
    let t = c.loop-text.text in
    let k = c.loop-text.gone in
    let kept = c.loop-text.invariant in
    let text = text_is c.args.gone.now k t kept.printable kept.short kept.gone kept.within in
    let b = c.pop-b.result in
    let left = g.S.Source.left c.fill.new.src in
    let rest = prepend_known c.pop-b.new.self left in
    let comes = kept.same ∙ ap (prepend_known t) (c.fill.ensures.same ∙ ap (λ x. prepend_known x left) c.pop-b.ensures
    ∙ prepend_first b c.pop-b.new.self left) in
    at_long c.args.number c.args.gone.now k b t _ rest text kept.gone c.if-gone-ge-INPUT_LIMIT.false c.if-b-eq10.false
    (omega (arith, c.if-len-ge-LINE_LIMIT.true, c.len-in-loop-text.ensures.is)) comes

pub returns-then-len-ge-LINE_LIMIT-clause-stops : goal.returns-then-len-ge-LINE_LIMIT-clause-stops
returns-then-len-ge-LINE_LIMIT-clause-stops g c =
    let t = c.loop-text.text in
    let k = c.loop-text.gone in
    let kept = c.loop-text.invariant in
    let text = text_is c.args.gone.now k t kept.printable kept.short kept.gone kept.within in
    let b = c.pop-b.result in
    let left = g.S.Source.left c.fill.new.src in
    let rest = prepend_known c.pop-b.new.self left in
    let comes = kept.same ∙ ap (prepend_known t) (c.fill.ensures.same ∙ ap (λ x. prepend_known x left) c.pop-b.ensures
    ∙ prepend_first b c.pop-b.new.self left) in
    stops_behind c.args.gone.now k b t _ rest text kept.gone comes

pub returns-then-len-ge-LINE_LIMIT-clause-draws : goal.returns-then-len-ge-LINE_LIMIT-clause-draws
returns-then-len-ge-LINE_LIMIT-clause-draws g c =
    draws_more _ c.loop-text.gone _ _ _ _ _ _ c.loop-text.invariant.draws c.fill.ensures.draws (omega (arith, ap length c.pop-b.ensures))

pub returns-then-b-lt32-clause-answer : goal.returns-then-b-lt32-clause-answer
returns-then-b-lt32-clause-answer g c =
    let t = c.loop-text.text in
    let k = c.loop-text.gone in
    let kept = c.loop-text.invariant in
    let text = text_is c.args.gone.now k t kept.printable kept.short kept.gone kept.within in
    let b = c.pop-b.result in
    let left = g.S.Source.left c.fill.new.src in
    let rest = prepend_known c.pop-b.new.self left in
    let comes = kept.same ∙ ap (prepend_known t) (c.fill.ensures.same ∙ ap (λ x. prepend_known x left) c.pop-b.ensures
    ∙ prepend_first b c.pop-b.new.self left) in
    let side : (b < 32) ⊎ (126 < b) =
    elim c.then-b-lt32.branch [
      | then-b-lt32-via-then-b-lt32 w ↦ inl w.if-b-lt32.true
      | then-b-lt32-via-else-b-lt32+then-b-gt126 w ↦ inr
          w.if-b-gt126.true
    ] in
    at_not_ascii c.args.number c.args.gone.now k b _ t _ rest text kept.gone c.if-gone-ge-INPUT_LIMIT.false c.if-b-eq10.false
    (omega (arith, c.if-len-ge-LINE_LIMIT.false, c.len-in-loop-text.ensures.is)) side c.len-then-b-lt32.ensures.is comes

pub returns-then-b-lt32-clause-stops : goal.returns-then-b-lt32-clause-stops
returns-then-b-lt32-clause-stops g c =
    let t = c.loop-text.text in
    let k = c.loop-text.gone in
    let kept = c.loop-text.invariant in
    let text = text_is c.args.gone.now k t kept.printable kept.short kept.gone kept.within in
    let b = c.pop-b.result in
    let left = g.S.Source.left c.fill.new.src in
    let rest = prepend_known c.pop-b.new.self left in
    let comes = kept.same ∙ ap (prepend_known t) (c.fill.ensures.same ∙ ap (λ x. prepend_known x left) c.pop-b.ensures
    ∙ prepend_first b c.pop-b.new.self left) in
    stops_behind c.args.gone.now k b t _ rest text kept.gone comes

pub returns-then-b-lt32-clause-draws : goal.returns-then-b-lt32-clause-draws
returns-then-b-lt32-clause-draws g c =
    draws_more _ c.loop-text.gone _ _ _ _ _ _ c.loop-text.invariant.draws c.fill.ensures.draws (omega (arith, ap length c.pop-b.ensures))

pub loop-text-preserved : goal.loop-text-preserved
loop-text-preserved g c =
    let t = c.loop-text.text in
    let kept = c.loop-text.invariant in
    let b = c.pop-b.result in
    let left = g.S.Source.left c.fill.new.src in
    let rest = prepend_known c.pop-b.new.self left in
    let comes = kept.same ∙ ap (prepend_known t) (c.fill.ensures.same ∙ ap (λ x. prepend_known x left) c.pop-b.ensures
    ∙ prepend_first b c.pop-b.new.self left) in
    let longer = ap length c.push.ensures ∙ length_push t b in
    record {
      within = omega (arith, c.if-gone-ge-INPUT_LIMIT.false);
      most = omega (arith, c.fill.ensures.most, ap length c.pop-b.ensures, kept.within);
      gone = omega (arith, kept.gone, longer);
      short = omega (arith, c.if-len-ge-LINE_LIMIT.false, c.len-in-loop-text.ensures.is, longer);
      printable = subst (All IsPrintable) (sym c.push.ensures) (All-push IsPrintable t b kept.printable (is_fine b c.if-b-lt32.false c.if-b-gt126.false));
      same = comes ∙ prepend_prepend t (b ∷ []) rest ∙ ap (λ x. prepend_known x rest) (sym c.push.ensures);
      draws = draws_more _ c.loop-text.gone _ _ _ _ _ _ kept.draws c.fill.ensures.draws (omega (arith, ap length c.pop-b.ensures));
      count = omega (arith, kept.count, c.in-Ok-true.ensures.cause);
    }
