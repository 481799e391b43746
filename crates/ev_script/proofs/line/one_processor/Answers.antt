use Rattle.std.proofs.Common.{◌≡◌, ◌∙◌, ℕ, Result, Ok, Err, refl, sym, arith}
use Rattle.ev_io.specs.declared.cause.Cause.{Cause}
use Rattle.ev_line.specs.Operands.{Processor, then_make, value}
use Rattle.ev_script.proofs.LineLaws.{count_differs, read_one}
use Rattle.ev_script.proofs.line.one_processor.Goals as goal

whole : (r : Result ℕ Cause) → then_make (λ n. n) r ≡ r
whole (Err cause) = refl
whole (Ok n) = refl

pub returns-in_default-clause-value : goal.returns-in_default-clause-value
returns-in_default-clause-value c = count_differs _ _ c.args.operands.now (λ e. omega (arith, e, c.in_default.len_below))

pub returns-in_default-2-clause-value : goal.returns-in_default-2-clause-value
returns-in_default-2-clause-value c = count_differs _ _ c.args.operands.now (λ e. omega (arith, e, c.in_default.len_at_least))

pub returns-clause-value : goal.returns-clause-value
unfolding value
returns-clause-value c =
    sym (whole c.declared.result) ∙ read_one (Processor _) (λ p. p) _ _ c.args.operands.now c.declared.result c.in-len1.len_at_least c.in-len1.len_below
    c.declared.ensures.value
