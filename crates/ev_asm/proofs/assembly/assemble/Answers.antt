use Rattle.std.proofs.Common.{sym, ◌∙◌, arith}
use Rattle.ev_asm.proofs.Statements.{all_lead, total_fits}
use Rattle.ev_asm.proofs.assembly.assemble.Goals as goal

pub written-requires-clause-labels : goal.written-requires-clause-labels
written-requires-clause-labels c =
    let fits = total_fits c.args.stmts.now 0 c.args.limit (sym c.too_large.ensures ∙ c.in_default-too_large.is) in
    c.in_ok-labels.ensures.ok.placed (omega (arith, fits))

pub written-requires-clause-leads : goal.written-requires-clause-leads
written-requires-clause-leads c = all_lead c.args.stmts.now (sym c.lost_jump.ensures ∙ c.in_default.is)

pub written-requires-clause-limit : goal.written-requires-clause-limit
written-requires-clause-limit c = omega (arith, total_fits c.args.stmts.now 0 c.args.limit (sym c.too_large.ensures ∙ c.in_default-too_large.is))

pub written-requires-clause-room : goal.written-requires-clause-room
written-requires-clause-room c = omega (arith, total_fits c.args.stmts.now 0 c.args.limit (sym c.too_large.ensures ∙ c.in_default-too_large.is))
