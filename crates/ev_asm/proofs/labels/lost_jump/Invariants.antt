use Rattle.std.proofs.Common.{◌≡◌, drop, take, []}
use Rattle.ev_asm.specs.Assembled.{first_at, leads_nowhere, stmt_labels}
use Rattle.ev_asm.proofs.labels.lost_jump.Given as goal

abbrev pub invariant-loop-n : goal.invariant-loop-n
invariant-loop-n l = first_at (λ before s. leads_nowhere (stmt_labels l.stmts) s) l.n (take l.n l.stmts) (drop l.n l.stmts) ≡ first_at
    (λ before s. leads_nowhere (stmt_labels l.stmts) s) 0 [] l.stmts
