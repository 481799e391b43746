use Rattle.std.proofs.Common.{◌≡◌, drop}
use Rattle.ev_asm.specs.Assembled.{first_too_large}
use Rattle.ev_asm.proofs.size.too_large.Given as goal

abbrev pub invariant-loop-n : goal.invariant-loop-n
invariant-loop-n l = first_too_large l.n l.left (drop l.n l.stmts) ≡ first_too_large 0 l.limit l.stmts
