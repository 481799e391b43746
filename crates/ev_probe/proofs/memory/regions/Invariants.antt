use Rattle.std.proofs.Common.{◌≡◌, ◌-◌, ◌++◌, filter, map}
use Rattle.ev_isa.specs.Word.{numbers_from}
use Rattle.ev_mem.specs.declared.region.RegionKind.TheVariants.{Kernel}
use Rattle.ev_listing.specs.AddressMap.{stack_top}
use Rattle.ev_concrete.specs.Opening.{region}
use Rattle.ev_probe.specs.Probe.{is_mapped}
use Rattle.ev_probe.specs.BareMemory.{few_regions}
use Rattle.ev_probe.proofs.memory.regions.Given as goal

abbrev pub invariant-loop-n : goal.invariant-loop-n
invariant-loop-n l =
    few_regions l.bad ≡ l.regions.items ++ filter (is_mapped l.bad) (map (λ n. region (stack_top 0 n - 0x2000) 0x2000 Kernel) (numbers_from l.n (7 - l.n)))
