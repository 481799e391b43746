use Rattle.std.proofs.Common.{◌∙◌, sym}
use Rattle.ev_script.proofs.LineLaws.{no_tokens, unknown_word, known_word}
use Rattle.ev_script.proofs.line.line_of_tokens.Goals as goal

pub returns-in_default-clause-value : goal.returns-in_default-clause-value
returns-in_default-clause-value c = no_tokens c.args.image.now _ c.args.tokens.now c.in_default.len_below

pub returns-in-None-clause-value : goal.returns-in-None-clause-value
returns-in-None-clause-value c = unknown_word c.args.image.now _ _ c.args.tokens.now c.in-len1-up.len_at_least (sym c.word_of.ensures ∙ c.in-None.is)

pub returns-in-Some-clause-value : goal.returns-in-Some-clause-value
returns-in-Some-clause-value c =
    c.line_of_word.ensures.value ∙ known_word c.args.image.now _ _ c.args.tokens.now c.in-Some.word c.in-len1-up.len_at_least
    (sym c.word_of.ensures ∙ c.in-Some.is)
