use Rattle.std.proofs.Common.{◌≡◌, map, drop}
use Rattle.ev_abstract.specs.Rules.{first_some}
use Rattle.ev_accept.specs.Checks.{refusal_by}
use Rattle.ev_accept.proofs.accepted.refusal_of.Given as goal

abbrev pub invariant-loop-rule : goal.invariant-loop-rule
invariant-loop-rule l =
    first_some (map (λ rule. refusal_by rule l.image) (drop l.rule-index l.in_order)) ≡ first_some (map (λ rule. refusal_by rule l.image) l.in_order)
