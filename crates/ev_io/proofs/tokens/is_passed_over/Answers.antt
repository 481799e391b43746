use Rattle.std.proofs.Common.{◌≡◌, rules, tests, not, ap, sym, ◌∙◌}
use Rattle.std.specs.Prelude.{◌==◌}
use Rattle.std.specs.Option.{option_map}
use Rattle.std.proofs.lemmas.Iterator.{YieldsList-from_slice}
use Rattle.std.proofs.lemmas.Iterator.Search.{find_from_yields_List}
use Rattle.ev_io.proofs.TokenLaws.{first_said, passed_by, passed_over}
use Rattle.ev_io.proofs.tokens.is_passed_over.Goals as goal

pub returns-in-None : goal.returns-in-None
returns-in-None c =
    let found : option_map (λ x. x.now) c.find.result ≡ first_said c.args.text.now =
    find_from_yields_List (λ b. not (b == 0x20)) _ _ c.find.result c.find.ensures.ran (YieldsList-from_slice c.args.text.now c.iter.ensures.rest)
    (λ x b q k. search (rules, tests)) in
    sym (passed_over c.args.text.now ∙ ap passed_by (sym found ∙ ap (option_map (λ x. x.now)) c.in-None.is))

pub returns-in-Some : goal.returns-in-Some
returns-in-Some c =
    let found : option_map (λ x. x.now) c.find.result ≡ first_said c.args.text.now =
    find_from_yields_List (λ b. not (b == 0x20)) _ _ c.find.result c.find.ensures.ran (YieldsList-from_slice c.args.text.now c.iter.ensures.rest)
    (λ x b q k. search (rules, tests)) in
    sym (passed_over c.args.text.now ∙ ap passed_by (sym found ∙ ap (option_map (λ x. x.now)) c.in-Some.is))
