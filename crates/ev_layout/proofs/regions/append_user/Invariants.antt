use Rattle.std.proofs.Common.{◌≡◌, ◌+◌, ◌*◌, ◌++◌, map}
use Rattle.ev_isa.specs.Word.{numbers_from}
use Rattle.ev_mem.specs.declared.region.RegionKind.TheVariants.{Page}
use Rattle.ev_concrete.specs.Opening.{region}
use Rattle.ev_layout.proofs.regions.append_user.Given as goal

abbrev pub invariant-loop-page : goal.invariant-loop-page
invariant-loop-page l = l.regions.items ≡ l.initial.regions.items ++ map (λ i. region (0x10000000 + 0x1000 * i) 0x1000 (Page i)) (numbers_from 0 l.page)
