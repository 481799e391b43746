use Rattle.std.proofs.Common.{◌≡◌, refl, subst, sym, ◌∙◌, ap, ◌+◌, ◌-◌, ◌<◌, length, slice_get, arith, List}
use Rattle.std.proofs.lemmas.Option.{slice_get_read}
use Rattle.ev_body.specs.declared.item.Item.{Item}
use Rattle.ev_accept.proofs.Searches.{part_here, part_later}
use Rattle.ev_accept.proofs.items.part_item.Goals as goal

pub returns-then-left-items : goal.returns-then-left-items
returns-then-left-items c =
    let e : c.as_slice-items.result.now ≡ c.part-item.result.items = c.as_slice-items.ensures in
    let l : c.loop-part.left < length c.part-item.result.items = subst (λ (xs : List Item). c.loop-part.left < length xs) e c.if-left-items.true in
    sym (slice_get_read c.as_slice-items.result.now (length c.as_slice-items.result.now) c.loop-part.left c.index-items-left.result refl c.if-left-items.true
    c.index-items-left.is)
    ∙ ap (λ (xs : List Item). slice_get xs c.loop-part.left) e
    ∙ sym (part_here c.args.parts.now c.loop-part.part-index c.loop-part.left c.part-item.result (omega arith) c.part-item.is l) ∙ c.loop-part.invariant

pub loop-part-preserved : goal.loop-part-preserved
loop-part-preserved c =
    let e : c.as_slice-items.result.now ≡ c.part-item.result.items = c.as_slice-items.ensures in
    let k : length c.as_slice-items.result.now ≡ length c.part-item.result.items = ap length e in
    let l : c.loop-part.left ≡ length c.part-item.result.items + (c.loop-part.left - length c.as_slice-items.result.now) = omega arith in
    sym (part_later c.args.parts.now c.loop-part.part-index c.loop-part.left (c.loop-part.left - length c.as_slice-items.result.now) c.part-item.result
    (omega arith) c.part-item.is l) ∙ c.loop-part.invariant
