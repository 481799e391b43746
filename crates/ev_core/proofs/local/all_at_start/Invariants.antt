use Rattle.std.proofs.Common.{◌≡◌, replicate}
use Rattle.ev_core.specs.Local.{start}
use Rattle.ev_core.proofs.local.all_at_start.Given as goal

abbrev pub invariant-loop : goal.invariant-loop
invariant-loop l = l.locals.items ≡ replicate l.counter start
