use Rattle.std.proofs.Common.{◌∙◌, ap, map, sym}
use Rattle.ev_probe.specs.ProbeLine.{probe_line}
use Rattle.ev_probe.proofs.probing.line_of.Goals as goal

pub returns-in-Ok-probe_line-clause-is : goal.returns-in-Ok-probe_line-clause-is
returns-in-Ok-probe_line-clause-is c =
    ap probe_line (sym (ap (λ xs. map (λ t. t.now) xs) c.as_slice.ensures.value ∙ c.in-Ok.ensures)) ∙ sym c.probe_line.ensures.is ∙ c.in-Ok-probe_line.is

pub returns-clause-is : goal.returns-clause-is
returns-clause-is c =
    ap probe_line (sym (ap (λ xs. map (λ t. t.now) xs) c.as_slice.ensures.value ∙ c.in-Ok.ensures)) ∙ sym c.probe_line.ensures.is ∙ c.in-Err-probe_line.is
