use Rattle.std.proofs.Common.{◌+◌, ◌∙◌, ℕ, List, ap, arith}
use Rattle.ev_isa.specs.declared.mode.Mode.TheVariants.{Idt}
use Rattle.ev_body.specs.declared.key.Key.TheVariants.{Sys}
use Rattle.ev_asm.specs.Assembly.{total_size}
use Rattle.ev_listing.specs.Marks.{Marked, stmts_of}
use Rattle.ev_items.specs.Lines.{lines_of}
use Rattle.ev_items.proofs.Counts.{counted_at, lines_step, lines_end, no_addresses}
use Rattle.ev_items.proofs.function.item_size.Goals as goal

pub line_size-requires : goal.line_size-requires
line_size-requires c =
    counted_at Idt 0 Sys 0 (λ f. 0) c.args.item.now c.as_slice-line-items.result.now c.loop-line.line-index c.line-item.result
    (ap (lines_of Idt 0 Sys 0) c.as_slice-line-items.ensures.value ∙ c.expansion-lines.ensures Idt 0 Sys (λ f. 0) 0 no_addresses) c.loop-line-test.true
    c.line-item.is

pub loop-line-preserved : goal.loop-line-preserved
loop-line-preserved c = record {
  sum = λ mode b key n. lines_step mode b key n c.as_slice-line-items.result.now c.loop-line.line-index _ c.line-item.result c.loop-line.size _ _
      c.loop-line-test.true (omega arith) c.line-item.is (ap (λ (x : ℕ). c.loop-line.size + x) (c.line_size.ensures.is mode b key n))
      (c.loop-line.invariant.sum mode b key n);
  small = omega (arith, c.line_size.ensures.small, c.loop-line.invariant.small);
}

pub returns-clause-is : goal.returns-clause-is
returns-clause-is c = λ mode b key n.
    lines_end mode b key n c.as_slice-line-items.result.now c.loop-line.line-index c.loop-line.size _ c.loop-line-test.false
    (c.loop-line.invariant.sum mode b key n)
    ∙ ap (λ (ls : List Marked). total_size (stmts_of ls))
    (ap (lines_of mode b key n) c.as_slice-line-items.ensures.value ∙ c.expansion-lines.ensures mode b key (λ f. 0) n no_addresses)
