use Rattle.std.proofs.Common.{◌++◌, [], ◌∷◌, ap, ◌∙◌, arith}
use Rattle.ev_mem.specs.Mapped.{memory}
use Rattle.ev_probe.proofs.Words.{one_more}
use Rattle.ev_probe.proofs.run.words_at.Goals as goal

pub loop-words-preserved : goal.loop-words-preserved
loop-words-preserved c = record {
  few = omega arith;
  whole = one_more (memory c.args.mem.now).words c.loop-words.at _ _ c.loop-words.words.items _ _ (omega arith)
      (c.push.ensures.items ∙ ap (λ w. c.loop-words.words.items ++ w ∷ []) c.word.ensures) c.loop-words.invariant.whole;
}
