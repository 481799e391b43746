use Rattle.std.proofs.Common.{suc, ◌≤◌}
use Rattle.ev_accept.specs.Bound.{is_class, is_on_kernel, faults_by, open_by}
use Rattle.ev_accept.proofs.Loops.{IsGreatestFrom}
use Rattle.ev_accept.proofs.bound.class_room.Given as goal

abbrev pub invariant-loop-body : goal.invariant-loop-body
invariant-loop-body l = record {
  so_far : IsGreatestFrom (is_on_kernel (is_class l.class))
      (λ b. suc (open_by (faults_by l.rooms.bp l.rooms.pf b) l.rooms.nmi l.up b)) l.bodies l.body-index l.most;
  small : l.most ≤ 22;
}
