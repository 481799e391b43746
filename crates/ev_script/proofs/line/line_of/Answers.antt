use Rattle.std.proofs.Common.{◌∙◌, ap, map}
use Rattle.ev_script.specs.ScriptLine.{line_of_tokens}
use Rattle.ev_io.specs.Tokens.{tokens_of}
use Rattle.ev_script.proofs.LineLaws.{first_tokens_tell}
use Rattle.ev_script.proofs.line.line_of.Goals as goal

pub returns-clause-value : goal.returns-clause-value
returns-clause-value c =
    c.line_of_tokens.ensures.value ∙ ap (λ xs. line_of_tokens c.args.image.now (map (λ t. t.now) xs)) c.as_slice.ensures.value
    ∙ ap (line_of_tokens c.args.image.now) c.tokens_in.ensures
    ∙ first_tokens_tell c.args.image.now (tokens_of c.args.text.now)
