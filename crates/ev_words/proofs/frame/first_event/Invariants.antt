use Rattle.std.proofs.Common.{◌≡◌, true, reverse}
use Rattle.ev_effect.specs.Frame.{addresses, first_event}
use Rattle.ev_mem.specs.Mapped.{memory}
use Rattle.ev_words.specs.Answer.{kernel_view}
use Rattle.ev_words.proofs.frame.first_event.Given as goal

abbrev pub invariant-loop-k : goal.invariant-loop-k
invariant-loop-k l = first_event (kernel_view (memory l.mem)) true (reverse (addresses l.address l.k)) ≡ first_event (kernel_view (memory l.mem)) true
    (reverse (addresses l.address l.count))
