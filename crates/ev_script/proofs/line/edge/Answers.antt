use Rattle.std.proofs.Common.{◌∙◌, sym, refl, arith, Ok, Err}
use Rattle.std.proofs.lemmas.Result.{err_from_is_err_and}
use Rattle.ev_abstract.specs.Script.{is_line}
use Rattle.ev_line.specs.Operands.{Processor, Within, value}
use Rattle.ev_script.proofs.LineLaws.{count_differs, read_two, edge_formed}
use Rattle.ev_script.proofs.line.edge.Goals as goal

pub returns-in_default-clause-value : goal.returns-in_default-clause-value
returns-in_default-clause-value c = count_differs _ _ c.args.operands.now (λ e. omega (arith, e, c.in_default.len_below))

pub returns-in_default-2-clause-value : goal.returns-in_default-2-clause-value
returns-in_default-2-clause-value c = count_differs _ _ c.args.operands.now (λ e. omega (arith, e, c.in_default.len_at_least))

pub returns-in_err-p-clause-value : goal.returns-in_err-p-clause-value
unfolding value
returns-in_err-p-clause-value c =
    let p = err_from_is_err_and c.from_residual.result c.from_residual.ensures.1 in
    rw (p.1, p.2) (read_two (Processor _) (Within 1 4096) _ _ _ c.args.operands.now (Err c.in_err-p.field-0.0) _ c.in-len2.len_at_least c.in-len2.len_below
    (sym c.in_err-p.was ∙ c.declared.ensures.value) refl)

pub returns-in_err-n-clause-value : goal.returns-in_err-n-clause-value
unfolding value
returns-in_err-n-clause-value c =
    let p = err_from_is_err_and c.from_residual-in_err-n.result c.from_residual-in_err-n.ensures.1 in
    rw (p.1, p.2) (read_two (Processor _) (Within 1 4096) _ _ _ c.args.operands.now (Ok c.in_ok-p.p) (Err c.in_err-n.field-0.0) c.in-len2.len_at_least
    c.in-len2.len_below
    (sym c.in_ok-p.was ∙ c.declared.ensures.value) (sym c.in_err-n.was ∙ c.number_within.ensures.value))

pub returns-clause-value : goal.returns-clause-value
unfolding value
returns-clause-value c =
    read_two (Processor _) (Within 1 4096) _ _ _ c.args.operands.now (Ok c.in_ok-p.p) (Ok c.in_ok-n.n) c.in-len2.len_at_least c.in-len2.len_below
    (sym c.in_ok-p.was ∙ c.declared.ensures.value) (sym c.in_ok-n.was ∙ c.number_within.ensures.value)

pub returns-clause-formed : goal.returns-clause-formed
unfolding is_line
returns-clause-formed c = edge_formed c.args.image.now.processors c.in_ok-p.p c.in_ok-n.n c.in_ok-p.ensures.below c.in_ok-n.ensures.low c.in_ok-n.ensures.high
