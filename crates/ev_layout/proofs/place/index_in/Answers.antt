use Rattle.std.proofs.Common.{◌≡◌, ◌+◌, ◌∙◌, ℕ, List, ap, sym, arith}
use Rattle.ev_isa.specs.declared.mode.Mode.{Mode}
use Rattle.ev_isa.specs.declared.mode.Mode.TheVariants.{Idt}
use Rattle.ev_body.specs.declared.key.Key.{Key}
use Rattle.ev_body.specs.declared.key.Key.TheVariants.{Sys}
use Rattle.ev_body.specs.declared.item.Item.{Item}
use Rattle.ev_listing.specs.Expansion.{expansion}
use Rattle.ev_stub.specs.Position.{index_from}
use Rattle.ev_stub.proofs.Positions.{label_step, past_step, found_step, none_left}
use Rattle.ev_items.specs.declared.line.ItemLine.{ItemLine}
use Rattle.ev_items.specs.Lines.{marked_of, lines_of}
use Rattle.ev_items.proofs.Counts.{counted_at, no_addresses, same_index}
use Rattle.ev_layout.proofs.place.index_in.Goals as goal
use Rattle.ev_layout.proofs.place.index_in.Goals.{then-is_counted+else-at-rip, else-is_counted}

-- the lines are those of the item, wherever functions stand
all_lines : (mode : Mode) (b : ℕ) (key : Key) (f : ℕ → ℕ) (n a rip : ℕ) (item : Item) (ls : List ItemLine)
    → lines_of mode b key n ls ≡ expansion mode b key (λ f. 0) n item
    → index_from 0 a rip (lines_of mode b key n ls) ≡ index_from 0 a rip (expansion mode b key f n item)
all_lines mode b key f n a rip item ls e = ap (index_from 0 a rip) e ∙ same_index mode b key (λ f. 0) f n 0 a rip item

pub line_size-requires : goal.line_size-requires
line_size-requires c =
    counted_at Idt 0 Sys 0 (λ f. 0) c.args.item.now c.as_slice-line-items.result.now c.loop-line.line-index c.line-item.result
    (ap (lines_of Idt 0 Sys 0) c.as_slice-line-items.ensures.value ∙ c.expansion-lines.ensures Idt 0 Sys (λ f. 0) 0 no_addresses) c.loop-line-test.true
    c.line-item.is

pub returns-then-at-rip : goal.returns-then-at-rip
returns-then-at-rip c = λ mode b key f n.
    found_step (marked_of mode b key n) c.loop-line.index c.loop-line.at c.args.rip c.as_slice-line-items.result.now c.loop-line.line-index
    c.line-item.result _ c.loop-line-test.true c.line-item.is (sym (c.is_counted.ensures mode b key n) ∙ c.if-is_counted.true) c.if-at-rip.true
    (c.loop-line.invariant.same mode b key n)
    ∙ all_lines mode b key f n c.args.address c.args.rip c.args.item.now c.as_slice-line-items.result.now
    (ap (lines_of mode b key n) c.as_slice-line-items.ensures.value ∙ c.expansion-lines.ensures mode b key (λ f. 0) n no_addresses)

pub loop-line-preserved : goal.loop-line-preserved
loop-line-preserved c = record {
  same = λ mode b key n.
      let next = ap (λ (x : ℕ). c.loop-line.at + x) (c.line_size.ensures.is mode b key n) in
      elim c.if-is_counted.branch [
        | then-is_counted+else-at-rip w ↦ past_step (marked_of mode b key n) c.loop-line.index _ c.loop-line.at _ c.args.rip
            c.as_slice-line-items.result.now c.loop-line.line-index _ c.line-item.result _ c.loop-line-test.true (omega arith) c.line-item.is
            (sym (c.is_counted.ensures mode b key n) ∙ w.if-is_counted.true) w.if-at-rip.false (omega (arith, w.index-is)) next
            (c.loop-line.invariant.same mode b key n)
        | else-is_counted w ↦ label_step (marked_of mode b key n) c.loop-line.index _ c.loop-line.at _ c.args.rip
            c.as_slice-line-items.result.now c.loop-line.line-index _ c.line-item.result _ c.loop-line-test.true (omega arith) c.line-item.is
            (sym (c.is_counted.ensures mode b key n) ∙ w.if-is_counted.false) w.index-is next (c.loop-line.invariant.same mode b key n)
      ];
  near = omega (arith, c.line_size.ensures.small, c.loop-line.invariant.near);
  few = elim c.if-is_counted.branch [
    | then-is_counted+else-at-rip w ↦ omega (arith, w.index-is, c.loop-line.invariant.few)
    | else-is_counted w ↦ omega (arith, w.index-is, c.loop-line.invariant.few)
  ];
}

pub returns : goal.returns
returns c = λ mode b key f n.
    none_left (marked_of mode b key n) c.loop-line.index c.loop-line.at c.args.rip c.as_slice-line-items.result.now c.loop-line.line-index _
    c.loop-line-test.false (c.loop-line.invariant.same mode b key n)
    ∙ all_lines mode b key f n c.args.address c.args.rip c.args.item.now c.as_slice-line-items.result.now
    (ap (lines_of mode b key n) c.as_slice-line-items.ensures.value ∙ c.expansion-lines.ensures mode b key (λ f. 0) n no_addresses)
