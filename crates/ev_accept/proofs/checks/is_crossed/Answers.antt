use Rattle.std.proofs.Common.{◌≡◌, sym, ◌∙◌, ap, ℕ, Option, Some, None, is_some, slice_get}
use Rattle.ev_body.specs.Bodies.{body_items}
use Rattle.ev_accept.specs.Checks.{crosses}
use Rattle.ev_accept.proofs.Searches.{search_none, search_found, search_past}
use Rattle.ev_accept.proofs.checks.is_crossed.Goals as goal

pub returns-in-None : goal.returns-in-None
returns-in-None c =
    let e : slice_get (body_items c.args.body.now) c.loop-j.j ≡ None = ap (slice_get (body_items c.args.body.now)) (sym c.from.ensures)
    ∙ sym c.in-None.ensures in
    ap (λ (o : Option ℕ). is_some o) (sym (search_none (crosses c.args.e) (body_items c.args.body.now) c.loop-j.j e) ∙ c.loop-j.invariant)

pub returns-then-crosses : goal.returns-then-crosses
returns-then-crosses c =
    let e : slice_get (body_items c.args.body.now) c.loop-j.j ≡ Some c.in-Some.item = ap (slice_get (body_items c.args.body.now)) (sym c.from.ensures)
    ∙ sym c.in-Some.ensures in
    ap (λ (o : Option ℕ). is_some o) (sym (search_found (crosses c.args.e) (body_items c.args.body.now) c.loop-j.j c.in-Some.item e
    (sym c.crosses.ensures ∙ c.if-crosses.true)) ∙ c.loop-j.invariant)

pub loop-j-preserved : goal.loop-j-preserved
loop-j-preserved c =
    let e : slice_get (body_items c.args.body.now) c.loop-j.j ≡ Some c.in-Some.item = ap (slice_get (body_items c.args.body.now)) (sym c.from.ensures)
    ∙ sym c.in-Some.ensures in
    sym (search_past (crosses c.args.e) (body_items c.args.body.now) c.loop-j.j c.in-Some.item e (sym c.crosses.ensures ∙ c.if-crosses.false))
    ∙ c.loop-j.invariant
