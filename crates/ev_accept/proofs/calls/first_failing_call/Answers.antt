use Rattle.std.proofs.Common.{◌≡◌, sym, ◌∙◌, ap, Some, None, slice_get}
use Rattle.ev_body.specs.Bodies.{body_items}
use Rattle.ev_abstract.specs.Rules.{breaks_calls}
use Rattle.ev_accept.proofs.Searches.{search_none, search_found, search_past}
use Rattle.ev_accept.proofs.calls.first_failing_call.Goals as goal

pub returns-in-None : goal.returns-in-None
returns-in-None c =
    let e : slice_get (body_items c.args.body.now) c.loop-i.i ≡ None = ap (slice_get (body_items c.args.body.now)) (sym c.from.ensures)
    ∙ sym c.in-None.ensures in
    sym (search_none (breaks_calls c.args.image.now c.args.n c.args.body.now) (body_items c.args.body.now) c.loop-i.i e) ∙ c.loop-i.invariant

pub returns-then-breaks_calls : goal.returns-then-breaks_calls
returns-then-breaks_calls c =
    let e : slice_get (body_items c.args.body.now) c.loop-i.i ≡ Some c.in-Some.item = ap (slice_get (body_items c.args.body.now)) (sym c.from.ensures)
    ∙ sym c.in-Some.ensures in
    sym (search_found (breaks_calls c.args.image.now c.args.n c.args.body.now) (body_items c.args.body.now) c.loop-i.i c.in-Some.item e
    (sym c.breaks_calls.ensures ∙ c.if-breaks_calls.true)) ∙ c.loop-i.invariant

pub loop-i-preserved : goal.loop-i-preserved
loop-i-preserved c =
    let e : slice_get (body_items c.args.body.now) c.loop-i.i ≡ Some c.in-Some.item = ap (slice_get (body_items c.args.body.now)) (sym c.from.ensures)
    ∙ sym c.in-Some.ensures in
    sym (search_past (breaks_calls c.args.image.now c.args.n c.args.body.now) (body_items c.args.body.now) c.loop-i.i c.in-Some.item e
    (sym c.breaks_calls.ensures ∙ c.if-breaks_calls.false)) ∙ c.loop-i.invariant
