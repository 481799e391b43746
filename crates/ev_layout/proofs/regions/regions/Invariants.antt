use Rattle.std.proofs.Common.{◌≡◌}
use Rattle.std.specs.Prelude.{flat_map}
use Rattle.ev_isa.specs.Word.{numbers_from}
use Rattle.ev_concrete.specs.Opening.{stack_regions}
use Rattle.ev_layout.proofs.regions.regions.Given as goal

abbrev pub invariant-loop-p : goal.invariant-loop-p
invariant-loop-p l = l.regions.items ≡ flat_map stack_regions (numbers_from 0 l.p)
