use Rattle.std.proofs.Common.{◌∙◌, ap, sym, refl, map, true, false, Ok, Err}
use Rattle.std.proofs.lemmas.Result.{err_from_is_err_and}
use Rattle.ev_io.specs.Tokens.{tokens_of}
use Rattle.ev_script.specs.ScriptLine.{line_of_tokens}
use Rattle.ev_script.specs.Script.{ends, one_more}
use Rattle.ev_script.proofs.ScriptLaws.{said_is, too_many, few_enough}
use Rattle.ev_script.proofs.reading.said.Goals as goal

pub returns-in_err-ends-clause-value : goal.returns-in_err-ends-clause-value
returns-in_err-ends-clause-value c =
    let p = err_from_is_err_and c.from_residual.result c.from_residual.ensures.1 in
    let end = c.ends.ensures ∙ ap (λ xs. ends (map (λ t. t.now) xs)) c.as_slice.ensures.value ∙ ap ends c.tokens_in-tokens.ensures in
    rw (p.1, p.2) (said_is c.args.image.now c.args.count (tokens_of c.args.text.now) (Err c.in_err-ends.field-0.0) _ (sym c.in_err-ends.was ∙ end) refl)

pub returns-then-branch-clause-value : goal.returns-then-branch-clause-value
returns-then-branch-clause-value c =
    let end = c.ends.ensures ∙ ap (λ xs. ends (map (λ t. t.now) xs)) c.as_slice.ensures.value ∙ ap ends c.tokens_in-tokens.ensures in
    said_is c.args.image.now c.args.count (tokens_of c.args.text.now) (Ok true) _ (ap Ok (sym c.if-branch.true) ∙ sym c.in_ok-ends.was ∙ end) refl

pub returns-in_err-line-clause-value : goal.returns-in_err-line-clause-value
unfolding one_more
returns-in_err-line-clause-value c =
    let p = err_from_is_err_and c.from_residual-in_err-line.result c.from_residual-in_err-line.ensures.1 in
    let end = c.ends.ensures ∙ ap (λ xs. ends (map (λ t. t.now) xs)) c.as_slice.ensures.value ∙ ap ends c.tokens_in-tokens.ensures in
    let line = c.line_of_tokens.ensures.value ∙ ap (λ xs. line_of_tokens c.args.image.now (map (λ t. t.now) xs)) c.as_slice-2.ensures.value
    ∙ ap (line_of_tokens c.args.image.now) c.tokens_in-tokens.ensures in
    rw (p.1, p.2) (said_is c.args.image.now c.args.count (tokens_of c.args.text.now) (Ok false) (Err c.in_err-line.field-0.0)
    (ap Ok (sym c.if-branch.false) ∙ sym c.in_ok-ends.was ∙ end) (sym c.in_err-line.was ∙ line))

pub returns-then-count-ge-SCRIPT_LIMIT-clause-value : goal.returns-then-count-ge-SCRIPT_LIMIT-clause-value
returns-then-count-ge-SCRIPT_LIMIT-clause-value c =
    let end = c.ends.ensures ∙ ap (λ xs. ends (map (λ t. t.now) xs)) c.as_slice.ensures.value ∙ ap ends c.tokens_in-tokens.ensures in
    let line = c.line_of_tokens.ensures.value ∙ ap (λ xs. line_of_tokens c.args.image.now (map (λ t. t.now) xs)) c.as_slice-2.ensures.value
    ∙ ap (line_of_tokens c.args.image.now) c.tokens_in-tokens.ensures in
    too_many c.args.count c.in_ok-line.line c.if-count-ge-SCRIPT_LIMIT.true
    ∙ said_is c.args.image.now c.args.count (tokens_of c.args.text.now) (Ok false) (Ok c.in_ok-line.line)
    (ap Ok (sym c.if-branch.false) ∙ sym c.in_ok-ends.was ∙ end) (sym c.in_ok-line.was ∙ line)

pub returns-clause-value : goal.returns-clause-value
returns-clause-value c =
    let end = c.ends.ensures ∙ ap (λ xs. ends (map (λ t. t.now) xs)) c.as_slice.ensures.value ∙ ap ends c.tokens_in-tokens.ensures in
    let line = c.line_of_tokens.ensures.value ∙ ap (λ xs. line_of_tokens c.args.image.now (map (λ t. t.now) xs)) c.as_slice-2.ensures.value
    ∙ ap (line_of_tokens c.args.image.now) c.tokens_in-tokens.ensures in
    few_enough c.args.count c.in_ok-line.line c.if-count-ge-SCRIPT_LIMIT.false
    ∙ said_is c.args.image.now c.args.count (tokens_of c.args.text.now) (Ok false) (Ok c.in_ok-line.line)
    (ap Ok (sym c.if-branch.false) ∙ sym c.in_ok-ends.was ∙ end) (sym c.in_ok-line.was ∙ line)
