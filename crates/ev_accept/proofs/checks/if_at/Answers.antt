use Rattle.std.proofs.Common.{◌≡◌, sym, ◌∙◌, ap, Bool, false, Some, None, slice_get, arith}
use Rattle.ev_body.specs.Bodies.{body_items}
use Rattle.ev_abstract.specs.Rules.{if_after}
use Rattle.ev_accept.proofs.Flags.{along_more, along_past}
use Rattle.ev_accept.proofs.checks.if_at.Goals as goal

pub returns-in-None : goal.returns-in-None
returns-in-None c =
    let e : slice_get (body_items c.args.body.now) c.loop-j.j ≡ None = ap (slice_get (body_items c.args.body.now)) (sym c.from.ensures)
    ∙ sym c.in-None.ensures in
    c.loop-j.invariant ∙ sym (along_past false (body_items c.args.body.now) c.loop-j.j c.args.i (omega arith) e)

pub loop-j-preserved : goal.loop-j-preserved
loop-j-preserved c =
    let e : slice_get (body_items c.args.body.now) c.loop-j.j ≡ Some c.in-Some.item = ap (slice_get (body_items c.args.body.now)) (sym c.from.ensures)
    ∙ sym c.in-Some.ensures in
    c.if_after-on.ensures ∙ ap (λ (t : Bool). if_after t c.in-Some.item) c.loop-j.invariant
    ∙ sym (along_more false (body_items c.args.body.now) c.loop-j.j c.in-Some.item e)
