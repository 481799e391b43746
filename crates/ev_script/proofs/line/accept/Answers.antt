use Rattle.std.proofs.Common.{◌∙◌, ap, sym}
use Rattle.std.proofs.lemmas.Result.{err_from_is_err_and}
use Rattle.ev_abstract.specs.Script.{is_line}
use Rattle.ev_abstract.specs.declared.script_line.Line.TheVariants as Line
use Rattle.ev_line.specs.Operands.{then_make}
use Rattle.ev_script.proofs.LineLaws.{processor_formed}
use Rattle.ev_script.proofs.line.accept.Goals as goal

pub returns-in_err-one_processor-clause-value : goal.returns-in_err-one_processor-clause-value
returns-in_err-one_processor-clause-value c =
    let p = err_from_is_err_and c.from_residual.result c.from_residual.ensures.1 in
    rw (p.1, p.2) (ap (then_make Line.Accept) (sym c.in_err-one_processor.was ∙ c.one_processor.ensures.value))

pub returns-clause-value : goal.returns-clause-value
returns-clause-value c = ap (then_make Line.Accept) (sym c.in_ok-one_processor.was ∙ c.one_processor.ensures.value)

pub returns-clause-formed : goal.returns-clause-formed
unfolding is_line
returns-clause-formed c = processor_formed c.args.image.now.processors c.in_ok-one_processor.field-0 c.in_ok-one_processor.ensures.below
