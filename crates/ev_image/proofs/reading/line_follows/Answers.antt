use Rattle.std.proofs.Common.{◌∙◌, ap, map, refl, sym}
use Rattle.ev_io.specs.Tokens.{tokens_of}
use Rattle.ev_image.specs.Head.{head_follows}
use Rattle.ev_image.proofs.SixTokens.{six_tell}
use Rattle.ev_image.proofs.reading.line_follows.Goals as goal

pub returns-in-Ok : goal.returns-in-Ok
returns-in-Ok c =
    let told = ap (λ xs. head_follows c.args.head (map (λ t. t.now) xs)) c.as_slice.ensures.value ∙ ap (head_follows c.args.head) c.tokens_in.ensures
    ∙ six_tell c.args.head (tokens_of c.args.text.now) in
    sym told ∙ c.in-Ok.ensures

pub returns-in-Err-Because : goal.returns-in-Err-Because
returns-in-Err-Because c =
    let told = ap (λ xs. head_follows c.args.head (map (λ t. t.now) xs)) c.as_slice.ensures.value ∙ ap (head_follows c.args.head) c.tokens_in.ensures
    ∙ six_tell c.args.head (tokens_of c.args.text.now) in
    (c.in-Err-Because.cause, refl, sym told ∙ (rw c.in-Err-Because.field-0-is at c.in-Err-Because.ensures))
