use Rattle.std.proofs.Common.{◌∙◌, ◌++◌, [], ◌∷◌}
use Rattle.std.proofs.lemmas.List.{replicate-append-replicate}
use Rattle.ev_core.specs.Local.{start}
use Rattle.ev_core.proofs.local.all_at_start.Goals as goal

pub loop-preserved : goal.loop-preserved
loop-preserved c =
    c.in_ok-push.ensures.items ∙ (λ i. c.loop.invariant i ++ c.at_start.ensures i ∷ []) ∙ replicate-append-replicate c.loop.counter 1 start
