use Rattle.std.proofs.Common.{◌≡◌, map, take}
use Rattle.ev_body.specs.Bodies.{body_items}
use Rattle.ev_layout.proofs.places.items_in_turn.Given as goal

abbrev pub invariant-loop-body : goal.invariant-loop-body
invariant-loop-body l = l.bodies.items ≡ map body_items (take l.body-index l.body-items)
