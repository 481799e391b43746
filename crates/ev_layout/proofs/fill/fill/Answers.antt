use Rattle.std.proofs.Common.{◌∙◌}
use Rattle.ev_mem.specs.Mapped.{memory}
use Rattle.ev_concrete.specs.Opening.{word_there}
use Rattle.ev_layout.specs.Placed.{placed}
use Rattle.ev_layout.proofs.Filling.{regions_kept, words_put, filled_more}
use Rattle.ev_layout.proofs.fill.fill.Goals as goal

pub loop-k-preserved : goal.loop-k-preserved
loop-k-preserved c = record {
  regions = regions_kept _ _ _ _ c.set_word.ensures ∙ c.loop-k.invariant.regions;
  words = λ a. words_put _ _ _ _ c.set_word.ensures a
      ∙ filled_more (word_there (placed c.args.blocks.now) c.args.mode c.args.image.now) (memory c.args.mem.now).words (memory c.loop-k.mem).words c.args.base
      c.loop-k.k c.kernel_word.result c.requires.aligned c.kernel_word.ensures a (c.loop-k.invariant.words a);
}
