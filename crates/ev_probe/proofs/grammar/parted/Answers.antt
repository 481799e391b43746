use Rattle.std.proofs.Common.{◌≡◌, ◌+◌, Some, ap, sym, ◌∙◌, rules, tests, take}
use Rattle.std.specs.Prelude.{◌==◌, position, option_map}
use Rattle.std.proofs.lemmas.List.{take_rest}
use Rattle.std.proofs.lemmas.Iterator.{YieldsList-from_slice}
use Rattle.std.proofs.lemmas.Iterator.Search.{position_from_yields_List}
use Rattle.ev_probe.specs.ProbeLine.{at_equals}
use Rattle.ev_probe.proofs.grammar.parted.Goals as goal

pub returns-in_err-at : goal.returns-in_err-at
unfolding at_equals
returns-in_err-at c =
    let found : c.position.result ≡ position (λ b. b == 0x3d) c.args.t.now =
    position_from_yields_List (λ b. b == 0x3d) _ _ c.position.result c.position.ensures.ran (YieldsList-from_slice c.args.t.now c.iter.ensures.rest)
    (λ x b q k. search (rules, tests)) in
    ap (option_map _) c.from_residual.ensures ∙ sym (ap (option_map _) (sym found ∙ c.in_err-at.was))

pub returns : goal.returns
unfolding at_equals
returns c =
    let t = c.args.t.now in
    let at = c.in_ok-at.at in
    let found : c.position.result ≡ position (λ b. b == 0x3d) t =
    position_from_yields_List (λ b. b == 0x3d) _ _ c.position.result c.position.ensures.ran (YieldsList-from_slice t c.iter.ensures.rest)
    (λ x b q k. search (rules, tests)) in
    ap (λ rest. Some (take at t, rest)) (take_rest t (at + 1)) ∙ sym (ap (option_map _) (sym found ∙ c.in_ok-at.was))
