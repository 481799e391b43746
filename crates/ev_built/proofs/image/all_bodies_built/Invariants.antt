use Rattle.std.proofs.Common.{◌≡◌, drop}
use Rattle.std.specs.List.{list_all}
use Rattle.ev_built.specs.RunTakes.{body_is_built}
use Rattle.ev_built.proofs.image.all_bodies_built.Given as goal

abbrev pub invariant-loop-body : goal.invariant-loop-body
invariant-loop-body l = list_all body_is_built (drop l.body-index l.bodies) ≡ list_all body_is_built l.bodies
