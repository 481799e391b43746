use Rattle.std.proofs.Common.{arith}
use Rattle.ev_asm.proofs.FirstLabels.{sections_step}
use Rattle.ev_asm.proofs.linking.labels_in.Goals as goal

pub loop-section-preserved : goal.loop-section-preserved
loop-section-preserved c = sections_step c.args.sections.now c.loop-section.section-index _ c.section-item.result c.loop-section.labels _ _ (omega arith)
    (omega arith) c.section-item.is c.in_ok-labels.ensures c.loop-section.invariant
