use Rattle.std.proofs.Common.{◌≡◌, drop}
use Rattle.std.specs.List.{list_any}
use Rattle.ev_abstract.specs.Chain.{has_item}
use Rattle.ev_accept.specs.Kinds.{is_of}
use Rattle.ev_accept.proofs.items.some_body.Given as goal

abbrev pub invariant-loop-body : goal.invariant-loop-body
invariant-loop-body l = list_any (has_item (is_of l.kind)) (drop l.body-index l.bodies) ≡ list_any (has_item (is_of l.kind)) l.bodies
