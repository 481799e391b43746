use Rattle.std.proofs.Common.{◌+◌, ◌∙◌, ℕ, option_map, ap, sym, arith}
use Rattle.ev_layout.specs.CodePlaces.{item_place}
use Rattle.ev_items.proofs.Counts.{same_size}
use Rattle.ev_layout.proofs.PlacesOf.{item_step, item_stop, items_end}
use Rattle.ev_layout.proofs.place.place_in_body.Goals as goal

pub returns-in-Some : goal.returns-in-Some
returns-in-Some c = λ mode f key.
    ap (option_map item_place) (item_stop mode f c.args.n key c.args.items.now c.loop-i.i c.loop-i.at c.args.rip c.in-Some.index c.index-items-i.result _
    (omega arith) c.index-items-i.is (sym c.in-Some.is ∙ c.index_in.ensures mode c.args.n key f c.loop-i.i) (c.loop-i.invariant.same mode f key))

pub loop-i-preserved : goal.loop-i-preserved
loop-i-preserved c = record {
  same = λ mode f key.
      let next = ap (λ (x : ℕ). c.loop-i.at + x) (c.item_size-at.ensures.is mode c.args.n key c.loop-i.i
      ∙ same_size mode c.args.n key (λ f. 0) f c.loop-i.i c.index-items-i.result) in
      item_step mode f c.args.n key c.args.items.now c.loop-i.i _ c.loop-i.at _ c.args.rip c.index-items-i.result _ (omega arith) (omega arith)
      c.index-items-i.is next (sym c.in-None.is ∙ c.index_in.ensures mode c.args.n key f c.loop-i.i) (c.loop-i.invariant.same mode f key);
  near = omega (arith, c.item_size-at.ensures.small, c.loop-i.invariant.near);
}

pub returns : goal.returns
returns c = λ mode f key.
    ap (option_map item_place) (items_end mode f c.args.n key c.args.items.now c.loop-i.i c.loop-i.at c.args.rip _ (omega arith)
    (c.loop-i.invariant.same mode f key))
