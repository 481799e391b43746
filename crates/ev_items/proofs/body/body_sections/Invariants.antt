use Rattle.std.proofs.Common.{◌≡◌, ◌++◌, drop, map}
use Rattle.ev_stub.specs.Blocks.{section_of}
use Rattle.ev_concrete.specs.Opening.{body_listings}
use Rattle.ev_items.proofs.body.body_sections.Given as goal

abbrev pub invariant-loop-b : goal.invariant-loop-b
invariant-loop-b l = l.sections.items ++ map section_of (body_listings l.mode l.image l.b (drop l.b l.image.bodies)) ≡ map section_of
    (body_listings l.mode l.image 0 l.image.bodies)
