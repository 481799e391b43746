use Rattle.ev_layout.specs.Filled.{stack_spans}
use Rattle.ev_layout.proofs.Numbered.{flat_more}
use Rattle.ev_layout.proofs.Filling.{short_at}
use Rattle.ev_layout.proofs.fill.all_spans.Goals as goal

pub loop-p-preserved : goal.loop-p-preserved
loop-p-preserved c = flat_more stack_spans c.loop-p.p _ _ c.loop-p.invariant c.in_ok-append_stacks.ensures

pub block_span-requires : goal.block_span-requires
block_span-requires c = short_at c.args.blocks.now c.loop-block.block-index c.block-item.result c.requires.placed c.loop-block-test.true c.block-item.is
