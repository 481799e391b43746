use Rattle.std.proofs.Common.{◌+◌, ◌∙◌, ◌++◌, ℕ, List, ap, arith}
use Rattle.ev_isa.specs.declared.mode.Mode.TheVariants.{Idt}
use Rattle.ev_body.specs.declared.key.Key.TheVariants.{Sys}
use Rattle.ev_asm.specs.Assembly.{total_size}
use Rattle.ev_listing.specs.Marks.{Marked, stmts_of, marks}
use Rattle.ev_items.specs.Lines.{lines_of}
use Rattle.ev_items.proofs.Counts.{counted_at, lines_step, lines_end, no_addresses, same_size, same_marks}
use Rattle.ev_layout.specs.Marks.{listed}
use Rattle.ev_layout.proofs.Marked.{Found, line_step, line_end}
use Rattle.ev_layout.proofs.visible.append_item.Goals as goal

pub line_size-requires : goal.line_size-requires
line_size-requires c =
    counted_at Idt 0 Sys 0 (λ f. 0) c.args.item.now c.as_slice-line-items.result.now c.loop-line.line-index c.line-item.result
    (ap (lines_of Idt 0 Sys 0) c.as_slice-line-items.ensures.value ∙ c.expansion-lines.ensures Idt 0 Sys (λ f. 0) 0 no_addresses) c.loop-line-test.true
    c.line-item.is

pub loop-line-preserved : goal.loop-line-preserved
loop-line-preserved c = record {
  noted = λ mode b key n. line_step mode b key n c.as_slice-line-items.result.now c.loop-line.line-index _ c.line-item.result _ c.loop-line.at _ _ _ _
      c.loop-line-test.true (omega arith) c.line-item.is (c.line_mark.ensures mode b key n)
      (ap (λ (x : ℕ). c.loop-line.at + x) (c.line_size.ensures.is mode b key n)) c.in_ok-note.ensures (c.loop-line.invariant.noted mode b key n);
  behind = λ mode b key n. lines_step mode b key n c.as_slice-line-items.result.now c.loop-line.line-index _ c.line-item.result c.loop-line.at _ _
      c.loop-line-test.true (omega arith) c.line-item.is (ap (λ (x : ℕ). c.loop-line.at + x) (c.line_size.ensures.is mode b key n))
      (c.loop-line.invariant.behind mode b key n);
  near = omega (arith, c.line_size.ensures.small, c.loop-line.invariant.near);
}

pub returns-clause-noted : goal.returns-clause-noted
returns-clause-noted c = λ mode b key f n.
    line_end mode b key n c.as_slice-line-items.result.now c.loop-line.line-index c.loop-line.at _ _ c.loop-line-test.false
    (c.loop-line.invariant.noted mode b key n)
    ∙ ap (λ (ls : List Marked). listed c.args.places.now ++ marks c.args.address ls)
    (ap (lines_of mode b key n) c.as_slice-line-items.ensures.value ∙ c.expansion-lines.ensures mode b key (λ f. 0) n no_addresses)
    ∙ ap (λ (x : Found). listed c.args.places.now ++ x) (same_marks mode b key (λ f. 0) f n c.args.address c.args.item.now)

pub returns-clause-behind : goal.returns-clause-behind
returns-clause-behind c = λ mode b key f n.
    lines_end mode b key n c.as_slice-line-items.result.now c.loop-line.line-index c.loop-line.at _ c.loop-line-test.false
    (c.loop-line.invariant.behind mode b key n)
    ∙ ap (λ (ls : List Marked). c.args.address + total_size (stmts_of ls))
    (ap (lines_of mode b key n) c.as_slice-line-items.ensures.value ∙ c.expansion-lines.ensures mode b key (λ f. 0) n no_addresses)
    ∙ ap (λ (x : ℕ). c.args.address + x) (same_size mode b key (λ f. 0) f n c.args.item.now)
