use Rattle.std.proofs.Common.{◌∙◌, sym}
use Rattle.std.proofs.lemmas.Result.{err_from_is_err_and}
use Rattle.ev_body.specs.Bodies.{key_number}
use Rattle.ev_script.specs.ScriptLine.{keys_with_bodies}
use Rattle.ev_script.proofs.LineLaws.{bodies_among, with_body, without_body, no_key}
use Rattle.ev_script.proofs.line.key_of_body.Goals as goal

pub returns-in_err-key-clause-value : goal.returns-in_err-key-clause-value
returns-in_err-key-clause-value c =
    let p = err_from_is_err_and c.from_residual.result c.from_residual.ensures.1 in
    rw (p.1, p.2) (no_key (keys_with_bodies c.args.image.now) c.args.t.now _ (sym c.sent_key.ensures.value ∙ c.in_err-key.was))

pub returns-then-has_body-clause-value : goal.returns-then-has_body-clause-value
returns-then-has_body-clause-value c =
    with_body (keys_with_bodies c.args.image.now) c.args.t.now c.in_ok-key.key (sym c.sent_key.ensures.value ∙ c.in_ok-key.was)
    (bodies_among c.args.image.now.bodies (key_number c.in_ok-key.key) ∙ sym c.has_body.ensures ∙ c.if-has_body.true)

pub returns-else-has_body-clause-value : goal.returns-else-has_body-clause-value
returns-else-has_body-clause-value c =
    without_body (keys_with_bodies c.args.image.now) c.args.t.now c.in_ok-key.key (sym c.sent_key.ensures.value ∙ c.in_ok-key.was)
    (bodies_among c.args.image.now.bodies (key_number c.in_ok-key.key) ∙ sym c.has_body.ensures ∙ c.if-has_body.false)
