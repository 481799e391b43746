use Rattle.std.proofs.Common.{List, ap, sym, ◌∙◌, arith}
use Rattle.ev_asm.specs.Assembly.{Name}
use Rattle.ev_asm.specs.Assembled.{leads_nowhere, stmt_labels}
use Rattle.ev_asm.proofs.Statements.{first_at_step, first_at_stop, first_at_end}
use Rattle.ev_asm.proofs.labels.lost_jump.Goals as goal

pub returns-then-is_lost : goal.returns-then-is_lost
returns-then-is_lost c = first_at_stop (λ before s. leads_nowhere (stmt_labels c.args.stmts.now) s) c.args.stmts.now c.loop-n.n _ _
    (omega arith) c.index-stmts-n.is (ap (λ (names : List Name). leads_nowhere names c.index-stmts-n.result) (sym c.requires)
    ∙ sym c.is_lost.ensures ∙ c.if-is_lost.true) c.loop-n.invariant

pub loop-n-preserved : goal.loop-n-preserved
loop-n-preserved c = first_at_step (λ before s. leads_nowhere (stmt_labels c.args.stmts.now) s) c.args.stmts.now c.loop-n.n _ _ _ (omega arith)
    (omega arith) c.index-stmts-n.is (ap (λ (names : List Name). leads_nowhere names c.index-stmts-n.result) (sym c.requires)
    ∙ sym c.is_lost.ensures ∙ c.if-is_lost.false) c.loop-n.invariant

pub returns : goal.returns
returns c = first_at_end (λ before s. leads_nowhere (stmt_labels c.args.stmts.now) s) c.args.stmts.now c.loop-n.n _ (omega arith) c.loop-n.invariant
