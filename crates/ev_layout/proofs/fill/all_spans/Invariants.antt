use Rattle.std.proofs.Common.{◌≡◌, ◌++◌, map, take}
use Rattle.std.specs.Prelude.{flat_map}
use Rattle.ev_isa.specs.Word.{numbers_from}
use Rattle.ev_layout.specs.Filled.{stack_spans, table_spans, block_span}
use Rattle.ev_layout.proofs.fill.all_spans.Given as goal

abbrev pub invariant-loop-p : goal.invariant-loop-p
invariant-loop-p l = l.spans.items ≡ flat_map stack_spans (numbers_from 0 l.p)

abbrev pub invariant-loop-block : goal.invariant-loop-block
invariant-loop-block l = l.spans.items ≡ flat_map stack_spans (numbers_from 0 l.processors) ++ table_spans l.processors ++ map block_span
    (take l.block-index l.blocks)
