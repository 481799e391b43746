use Rattle.std.proofs.Common.{◌≡◌, ◌-◌, ◌++◌, map}
use Rattle.ev_isa.specs.Word.{numbers_from}
use Rattle.ev_mem.specs.declared.region.RegionKind.TheVariants.{Kernel}
use Rattle.ev_listing.specs.AddressMap.{stack_top}
use Rattle.ev_concrete.specs.Opening.{region}
use Rattle.ev_layout.proofs.regions.append_stacks.Given as goal

abbrev pub invariant-loop-n : goal.invariant-loop-n
invariant-loop-n l = l.regions.items ≡ l.fn.regions.items ++ map (λ n. region (stack_top l.p n - 0x2000) 0x2000 Kernel) (numbers_from 0 l.n)
