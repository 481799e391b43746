use Rattle.std.proofs.Common.{ℕ, ◌*◌, ◌∙◌}
use Rattle.ev_mem.specs.Conditions.{first_by}
use Rattle.ev_mem.proofs.FirstWords.{region_more}
use Rattle.ev_mem.proofs.opening.append_region.Goals as goal

pub loop-k-preserved : goal.loop-k-preserved
loop-k-preserved c =
    c.in_ok-push.ensures.items
    ∙ region_more (λ (k : ℕ). first_by c.args.r.now.kind c.args.text.now (8 * k)) c.loop-k.k c.first_word.result c.args.words.now.items c.loop-k.words.items
    c.loop-k.invariant c.first_word.ensures
