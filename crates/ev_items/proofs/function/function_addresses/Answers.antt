use Rattle.std.proofs.Common.{◌∙◌, ◌<◌, ◌≤◌, List, get_or, length, ap, sym, subst}
use Rattle.ev_body.specs.declared.body.Body.{Body}
use Rattle.ev_body.specs.declared.image.Image.{Image}
use Rattle.ev_body.specs.declared.key.Side.TheVariants.{User}
use Rattle.ev_body.specs.Bodies.{first_body, function_start}
use Rattle.ev_isa.specs.declared.mode.Mode.{Mode}
use Rattle.ev_listing.specs.Expansion.{item_address, function_address}
use Rattle.ev_items.specs.Lines.{AreAddresses}
use Rattle.ev_items.proofs.Slots.{body_slots, got, if_ok, functions_are}
use Rattle.ev_items.proofs.function.function_addresses.Goals as goal

pub addresses_in-requires-clause-slots : goal.addresses_in-requires-clause-slots
addresses_in-requires-clause-slots c =
    let i : Image = c.args.image.now in
    let list = c.as_slice-bodies.ensures ∙ ap (λ (v : Image). v.bodies) c.image.view_is in
    let few = subst (λ (v : Image). v.processors ≤ 8) c.image.view_is c.image.invariant.count.1 in
    body_slots i.processors i.bodies c.in-Some.n c.index-bodies-n.result few c.requires
    (subst (λ (x : List Body). c.in-Some.n < length x) list c.in-Some.ensures.within)
    (c.index-bodies-n.is ∙ ap (λ (x : List Body). get_or x c.in-Some.n c.index-bodies-n.result) list)

pub returns-in-Some : goal.returns-in-Some
returns-in-Some c =
    let i : Image = c.args.image.now in
    let b : Body = c.index-bodies-n.result in
    let list = c.as_slice-bodies.ensures ∙ ap (λ (v : Image). v.bodies) c.image.view_is in
    let lt = subst (λ (x : List Body). c.in-Some.n < length x) list c.in-Some.ensures.within in
    let at = got i.bodies c.in-Some.n b lt (c.index-bodies-n.is ∙ ap (λ (x : List Body). get_or x c.in-Some.n b) list) in
    let first = sym (c.in-Some.ensures.is ∙ ap (λ (x : List Body). first_body 0 x 0xfb User) list) in
    if_ok c.addresses_in.result (λ as'. (mode : Mode) → AreAddresses (λ f. item_address mode c.in-Some.n b (function_start b f)) as')
    (λ as'. (mode : Mode) → AreAddresses (function_address mode i) as') (λ as' h mode. functions_are mode i c.in-Some.n b as' first at (h mode))
    c.addresses_in.ensures
