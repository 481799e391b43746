use Rattle.std.proofs.Common.{◌≡◌, ◌++◌, map}
use Rattle.ev_isa.specs.Word.{numbers_from}
use Rattle.ev_mem.specs.declared.region.RegionKind.TheVariants.{Kernel}
use Rattle.ev_listing.specs.AddressMap.{pcpu}
use Rattle.ev_concrete.specs.Opening.{region}
use Rattle.ev_layout.proofs.regions.append_areas.Given as goal

abbrev pub invariant-loop-p : goal.invariant-loop-p
invariant-loop-p l = l.regions.items ≡ l.fn.regions.items ++ map (λ p. region (pcpu p) 0x10000 Kernel) (numbers_from 0 l.p)
