use Rattle.std.proofs.Common.{◌≡◌, sym, ◌∙◌, ap, Some, None, slice_get}
use Rattle.ev_body.specs.Bodies.{body_items}
use Rattle.ev_accept.specs.Checks.{breaks_by}
use Rattle.ev_accept.proofs.Searches.{search_none, search_found, search_past}
use Rattle.ev_accept.proofs.checks.first_failing.Goals as goal

pub returns-in-None : goal.returns-in-None
returns-in-None c =
    let e : slice_get (body_items c.args.body.now) c.loop-i.i ≡ None = ap (slice_get (body_items c.args.body.now)) (sym c.from.ensures)
    ∙ sym c.in-None.ensures in
    record { is = sym (search_none (breaks_by c.args.rule c.args.processors c.args.body.now) (body_items c.args.body.now) c.loop-i.i e) ∙ c.loop-i.invariant }

pub returns-then-breaks : goal.returns-then-breaks
returns-then-breaks c =
    let e : slice_get (body_items c.args.body.now) c.loop-i.i ≡ Some c.in-Some.item = ap (slice_get (body_items c.args.body.now)) (sym c.from.ensures)
    ∙ sym c.in-Some.ensures in
    record {
      is = sym (search_found (breaks_by c.args.rule c.args.processors c.args.body.now) (body_items c.args.body.now) c.loop-i.i c.in-Some.item e
          (sym c.breaks.ensures ∙ c.if-breaks.true)) ∙ c.loop-i.invariant;
    }

pub loop-i-preserved : goal.loop-i-preserved
loop-i-preserved c =
    let e : slice_get (body_items c.args.body.now) c.loop-i.i ≡ Some c.in-Some.item = ap (slice_get (body_items c.args.body.now)) (sym c.from.ensures)
    ∙ sym c.in-Some.ensures in
    sym (search_past (breaks_by c.args.rule c.args.processors c.args.body.now) (body_items c.args.body.now) c.loop-i.i c.in-Some.item e
    (sym c.breaks.ensures ∙ c.if-breaks.false)) ∙ c.loop-i.invariant
