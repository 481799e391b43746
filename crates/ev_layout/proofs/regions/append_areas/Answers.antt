use Rattle.std.proofs.Common.{◌∙◌, ap, ℕ}
use Rattle.ev_mem.specs.declared.region.RegionKind.TheVariants.{Kernel}
use Rattle.ev_listing.specs.AddressMap.{pcpu}
use Rattle.ev_concrete.specs.Opening.{region}
use Rattle.ev_layout.proofs.Numbered.{map_more}
use Rattle.ev_layout.proofs.regions.append_areas.Goals as goal

pub loop-p-preserved : goal.loop-p-preserved
loop-p-preserved c =
    map_more (λ p. region (pcpu p) 0x10000 Kernel) c.loop-p.p _ _ _ _ c.loop-p.invariant
    (c.kernel_region.ensures ∙ ap (λ (a : ℕ). region a 0x10000 Kernel) c.area.ensures) c.in_ok-push.ensures.items
