use Rattle.std.proofs.Common.{suc, ◌≤◌}
use Rattle.ev_abstract.specs.Chain.{is_nmi}
use Rattle.ev_accept.specs.Bound.{is_on_kernel, faults_by}
use Rattle.ev_accept.proofs.Loops.{IsGreatestFrom}
use Rattle.ev_accept.proofs.bound.nmi_room.Given as goal

abbrev pub invariant-loop-body : goal.invariant-loop-body
invariant-loop-body l = record {
  so_far : IsGreatestFrom (is_on_kernel is_nmi) (λ b. suc (faults_by l.bp l.pf b)) l.bodies l.body-index l.most;
  small : l.most ≤ 3;
}
