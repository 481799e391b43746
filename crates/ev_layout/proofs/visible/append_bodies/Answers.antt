use Rattle.std.proofs.Common.{◌∙◌, ◌<◌, ◌≤◌, List, get_or, length, ap, subst}
use Rattle.ev_body.specs.declared.body.Body.{Body}
use Rattle.ev_body.specs.declared.image.Image.{Image}
use Rattle.ev_items.proofs.Slots.{body_slots}
use Rattle.ev_layout.proofs.visible.append_bodies.Goals as goal

pub append_body-requires-clause-slots : goal.append_body-requires-clause-slots
append_body-requires-clause-slots c =
    let i : Image = c.args.image.now in
    let list = c.as_slice-body-items.ensures ∙ ap (λ (v : Image). v.bodies) c.image.view_is in
    let few = subst (λ (v : Image). v.processors ≤ 8) c.image.view_is c.image.invariant.count.1 in
    body_slots i.processors i.bodies c.loop-b.b c.body-item.result few c.requires
    (subst (λ (x : List Body). c.loop-b.b < length x) list c.loop-b-test.true)
    (c.body-item.is ∙ ap (λ (x : List Body). get_or x c.loop-b.b c.body-item.result) list)
