use Rattle.std.proofs.Common.{◌≡◌, drop}
use Rattle.ev_state.specs.Descriptors.{base_of}
use Rattle.ev_state.proofs.gdt.Gdt.base_of.Given as goal

abbrev pub invariant-loop-at : goal.invariant-loop-at
invariant-loop-at l = base_of (drop l.at-index l.at-items) l.selector ≡ base_of l.at-items l.selector
