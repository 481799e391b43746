use Rattle.std.proofs.Common.{◌≡◌, ◌++◌, drop}
use Rattle.ev_isa.specs.declared.mode.Mode.{Mode}
use Rattle.ev_listing.specs.Marks.{all_marks}
use Rattle.ev_concrete.specs.Opening.{body_listings}
use Rattle.ev_layout.specs.Marks.{listed}
use Rattle.ev_layout.proofs.visible.append_bodies.Given as goal

abbrev pub invariant-loop-b : goal.invariant-loop-b
invariant-loop-b l = (mode : Mode) → listed l.places ++ all_marks (body_listings mode l.image l.b (drop l.b l.image.bodies)) ≡ listed l.fn.places
    ++ all_marks (body_listings mode l.image 0 l.image.bodies)
