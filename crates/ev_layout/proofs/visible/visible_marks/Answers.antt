use Rattle.std.proofs.Common.{◌++◌, ◌∙◌, ap}
use Rattle.ev_listing.specs.Marks.{all_marks}
use Rattle.ev_stub.specs.Blocks.{always}
use Rattle.ev_concrete.specs.Opening.{body_listings}
use Rattle.ev_layout.specs.Marks.{listed}
use Rattle.ev_layout.proofs.Marked.{marks_are, Found}
use Rattle.ev_layout.proofs.visible.visible_marks.Goals as goal

pub returns-in-Ok : goal.returns-in-Ok
returns-in-Ok c =
    let i = c.args.image.now in
    let bodies : Found = all_marks (body_listings c.args.mode i 0 i.bodies) in
    let none = ap listed c.new-places.ensures in
    let kernel = ap always c.as_slice.ensures ∙ c.in_ok-kernel.ensures in
    c.in-Ok.ensures c.args.mode ∙ (λ j. (none j ++ bodies) ++ kernel j) ∙ marks_are c.args.mode i
