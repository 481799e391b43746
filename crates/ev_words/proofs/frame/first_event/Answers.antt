use Rattle.std.proofs.Common.{refl, arith, sym, ◌∙◌, ◌-◌, ◌<◌}
use Rattle.ev_mem.specs.Mapped.{memory}
use Rattle.ev_words.specs.Answer.{kernel_view}
use Rattle.ev_words.proofs.Frames.{found, passed}
use Rattle.ev_words.proofs.frame.first_event.Goals as goal

pub returns-in-Some : goal.returns-in-Some
returns-in-Some c = let l : c.loop-k.k - 1 < c.loop-k.k = omega arith in
    found (kernel_view (memory c.args.mem.now)) c.args.address c.loop-k.k (c.loop-k.k - 1) c.in-Some.e c.ranges.address.fits l refl c.in-Some.ensures
    ∙ c.loop-k.invariant

pub loop-k-preserved : goal.loop-k-preserved
loop-k-preserved c = let l : c.loop-k.k - 1 < c.loop-k.k = omega arith in
    passed (kernel_view (memory c.args.mem.now)) c.args.address c.loop-k.k (c.loop-k.k - 1) c.ranges.address.fits l refl
    (sym c.in_default.is ∙ c.access_event.ensures) ∙ c.loop-k.invariant
