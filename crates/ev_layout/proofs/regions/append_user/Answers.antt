use Rattle.std.proofs.Common.{ap, ℕ, ◌+◌, ◌*◌}
use Rattle.ev_mem.specs.declared.region.RegionKind.TheVariants.{Page}
use Rattle.ev_concrete.specs.Opening.{region}
use Rattle.ev_layout.proofs.Numbered.{map_more}
use Rattle.ev_layout.proofs.regions.append_user.Goals as goal

pub loop-page-preserved : goal.loop-page-preserved
loop-page-preserved c =
    map_more (λ i. region (0x10000000 + 0x1000 * i) 0x1000 (Page i)) c.loop-page.page _ _ _ _ c.loop-page.invariant
    (ap (λ (p : ℕ). record (region (0x10000000 + 0x1000 * p) 0x1000 (Page c.loop-page.page)) { kind = Page c.loop-page.page }) c.from.ensures)
    c.in_ok-push-2.ensures.items
