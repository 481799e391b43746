use Rattle.std.proofs.Common.{◌≡◌}
use Rattle.ev_image.specs.Head.{tasks_by}
use Rattle.ev_image.proofs.does.tasks_by.Given as goal

abbrev pub invariant-loop-p : goal.invariant-loop-p
invariant-loop-p l = l.rows.items ≡ tasks_by l.tasks l.p
