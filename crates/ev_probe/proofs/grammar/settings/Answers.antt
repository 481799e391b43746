use Rattle.std.proofs.Common.{◌∙◌, ap, sym, map, arith}
use Rattle.std.proofs.lemmas.List.{at_drop_all, drop_more}
use Rattle.std.proofs.lemmas.Result.{err_from_is_err_and}
use Rattle.ev_probe.specs.ProbeLine.{settings_from}
use Rattle.ev_probe.proofs.Settings.{settings_end, settings_step, settings_stop}
use Rattle.ev_probe.proofs.grammar.settings.Goals as goal

pub returns-in_err-place : goal.returns-in_err-place
returns-in_err-place c =
    let p = err_from_is_err_and c.from_residual.result c.from_residual.ensures.1 in
    rw (p.1, p.2)
    (sym (c.loop-t.invariant ∙ ap (λ xs. settings_from c.loop-t.given (map (λ t. t.now) xs))
    (drop_more c.args.tokens.now c.loop-t.t-index _ c.loop-t-test.true)
    ∙ settings_stop c.loop-t.given _ _ _ (sym c.setting_value.ensures.is ∙ c.in_err-place.was)))

pub loop-t-preserved : goal.loop-t-preserved
loop-t-preserved c =
    c.loop-t.invariant ∙ ap (λ xs. settings_from c.loop-t.given (map (λ t. t.now) xs)) (drop_more c.args.tokens.now c.loop-t.t-index _ c.loop-t-test.true)
    ∙ settings_step c.loop-t.given _ _ c.in_ok-place.place c.in_ok-place.n (sym c.setting_value.ensures.is ∙ c.in_ok-place.was)

pub returns : goal.returns
returns c =
    sym (c.loop-t.invariant
    ∙ at_drop_all (λ xs. settings_from c.loop-t.given (map (λ t. t.now) xs)) c.args.tokens.now c.loop-t.t-index (omega (arith, c.loop-t-test.false))
    ∙ settings_end c.loop-t.given)
