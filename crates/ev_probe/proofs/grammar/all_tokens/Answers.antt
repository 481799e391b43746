use Rattle.std.proofs.Common.{rules, tests, ap, ◌∙◌, not, List}
use Rattle.std.specs.List.{filter}
use Rattle.std.proofs.lemmas.Iterator.Consumers.{YieldsList-at, YieldsList-end}
use Rattle.std.proofs.lemmas.Iterator.Splits.{YieldsList-from_slice_split}
use Rattle.ev_io.specs.Tokens.{Token, is_empty, tokens_of}
use Rattle.ev_io.proofs.TokenLaws.{split_pieces}
use Rattle.ev_probe.proofs.grammar.all_tokens.Goals as goal

pub returns : goal.returns
unfolding tokens_of
returns c =
    let all = YieldsList-end
    (YieldsList-at c.into_iter-token-iterator.ensures.into_iter_gives
    (YieldsList-from_slice_split _ _ c.args.text.now c.split-token-items.ensures.rest c.split-token-items.ensures.done
    c.split-token-items.ensures.closure (λ x r q k. search (rules, tests))))
    c.loop-token.yielded _ c.loop-token.yielded_by _ _ c.in-None.is c.next.ensures.steps in
    c.loop-token.invariant ∙ ap (λ (ps : List Token). filter (λ t. not (is_empty t)) ps) (all.0 ∙ split_pieces c.args.text.now)
