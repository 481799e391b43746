use Rattle.std.proofs.Common.{◌≡◌, ◌+◌, ◌∙◌, ◌<◌, ◌≤◌, ap, refl, List, get_or, length, arith, subst, sym, not, true}
use Rattle.std.specs.List.{list_all}
use Rattle.ev_body.specs.declared.body.Body.{Body}
use Rattle.ev_body.specs.declared.image.Image.{Image}
use Rattle.ev_body.specs.declared.item.Item.{Item}
use Rattle.ev_body.specs.WellFormed.{is_body}
use Rattle.ev_listing.specs.Expansion.{expansions, function_address, body_stmts}
use Rattle.ev_listing.specs.Marks.{stmts_of}
use Rattle.ev_abstract.specs.Rules.{breaks_slots}
use Rattle.ev_items.proofs.Steps.{section_is, sections_step}
use Rattle.ev_items.proofs.Slots.{body_slots, few_at}
use Rattle.ev_items.proofs.body.body_sections.Goals as goal

pub body_stmts-requires-clause-few : goal.body_stmts-requires-clause-few
body_stmts-requires-clause-few c =
    let i : Image = c.args.image.now in
    let b : Body = c.body-item.result in
    let list = c.as_slice-body-items.ensures ∙ ap (λ (v : Image). v.bodies) c.image.view_is in
    let bodies = subst (λ (v : Image). list_all (is_body (length v.text)) v.bodies ≡ true) c.image.view_is c.image.invariant.bodies_given.1 in
    let few = few_at (length i.text) i.bodies c.loop-b.b b bodies (subst (λ (x : List Body). c.loop-b.b < length x) list c.loop-b-test.true)
    (c.body-item.is ∙ ap (λ (x : List Body). get_or x c.loop-b.b b) list) in
    subst (λ (x : List Item). length x ≤ 256) (sym (c.deref.ensures.value ∙ c.in_ok-items.ensures)) few

pub body_stmts-requires-clause-slots : goal.body_stmts-requires-clause-slots
body_stmts-requires-clause-slots c =
    let i : Image = c.args.image.now in
    let b : Body = c.body-item.result in
    let list = c.as_slice-body-items.ensures ∙ ap (λ (v : Image). v.bodies) c.image.view_is in
    let few = subst (λ (v : Image). v.processors ≤ 8) c.image.view_is c.image.invariant.count.1 in
    let slots = body_slots i.processors i.bodies c.loop-b.b b few c.requires (subst (λ (x : List Body). c.loop-b.b < length x) list c.loop-b-test.true)
    (c.body-item.is ∙ ap (λ (x : List Body). get_or x c.loop-b.b b) list) in
    subst (λ (x : List Item). list_all (λ item. not (breaks_slots 8 item)) x ≡ true) (sym (c.deref.ensures.value ∙ c.in_ok-items.ensures)) slots

pub loop-b-preserved : goal.loop-b-preserved
unfolding body_stmts
loop-b-preserved c =
    let i : Image = c.args.image.now in
    let b : Body = c.body-item.result in
    let list = c.as_slice-body-items.ensures ∙ ap (λ (v : Image). v.bodies) c.image.view_is in
    let lt : c.loop-b.b < length i.bodies = subst (λ (x : List Body). c.loop-b.b < length x) list c.loop-b-test.true in
    let at : b ≡ get_or i.bodies c.loop-b.b b = c.body-item.is ∙ ap (λ (x : List Body). get_or x c.loop-b.b b) list in
    let f = function_address c.args.mode i in
    let stmts = c.from_vec.ensures ∙ c.in_ok-stmts.ensures f (c.in_ok-functions.ensures c.args.mode)
    ∙ ap (λ (x : List Item). stmts_of (expansions c.args.mode c.loop-b.b b.key f 0 x)) (c.deref.ensures.value ∙ c.in_ok-items.ensures) in
    sections_step c.args.mode i i.bodies c.loop-b.b (c.loop-b.b + 1) b _ _ _ _ lt (omega arith) at (section_is c.args.mode i c.loop-b.b _ b _ refl stmts)
    c.in_ok-push.ensures.items c.loop-b.invariant
