use Rattle.std.proofs.Common.{◌-◌, ◌∙◌, ap, ℕ}
use Rattle.ev_mem.specs.declared.region.RegionKind.TheVariants.{Kernel}
use Rattle.ev_listing.specs.AddressMap.{stack_top}
use Rattle.ev_concrete.specs.Opening.{region}
use Rattle.ev_layout.proofs.Numbered.{map_more}
use Rattle.ev_layout.proofs.regions.append_stacks.Goals as goal

pub loop-n-preserved : goal.loop-n-preserved
loop-n-preserved c =
    map_more (λ n. region (stack_top c.args.p n - 0x2000) 0x2000 Kernel) c.loop-n.n _ _ _ _ c.loop-n.invariant
    (c.kernel_region.ensures ∙ ap (λ (a : ℕ). region (a - 0x2000) 0x2000 Kernel) c.stack_top.ensures) c.in_ok-push.ensures.items
