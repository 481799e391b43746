use Rattle.std.proofs.Common.{◌≡◌, ◌+◌, ◌-◌, find}
use Rattle.ev_abstract.specs.Rules.{missing}
use Rattle.ev_accept.specs.Missing.{interrupt_sides}
use Rattle.ev_accept.proofs.missing.missing_interrupt_side.Given as goal

abbrev pub invariant-loop-n : goal.invariant-loop-n
invariant-loop-n l = find (missing l.image) (interrupt_sides l.image (0x20 + l.n) (0xe0 - l.n)) ≡ find (missing l.image) (interrupt_sides l.image 0x20 0xe0)
