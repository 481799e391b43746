use Rattle.std.proofs.Common.{◌≡◌, ◌∙◌, ap, ℕ, length, arith}
use Rattle.std.specs.Prelude.{flat_map}
use Rattle.ev_isa.specs.Word.{numbers_from}
use Rattle.ev_body.specs.declared.image.Image.{Image}
use Rattle.ev_concrete.specs.Opening.{stack_regions}
use Rattle.ev_layout.proofs.Numbered.{flat_more}
use Rattle.ev_layout.proofs.Listed.{regions_are}
use Rattle.ev_layout.proofs.regions.regions.Goals as goal

pub loop-p-preserved : goal.loop-p-preserved
loop-p-preserved c = flat_more stack_regions c.loop-p.p _ _ c.loop-p.invariant c.in_ok-append_stacks.ensures

pub returns : goal.returns
returns c =
    let i : Image = c.args.image.now in
    let last : c.loop-p.p ≡ c.from-processors.result = omega arith in
    regions_are i c.from-processors.result c.len-bodies.result
    c.kernel_region.result c.kernel_region-2.result c.kernel_region-3.result c.kernel_region-4.result c.kernel_region-5.result c.kernel_region-6.result
    c.kernel_region-7.result c.kernel_region-8.result
    c.loop-p.regions.items c.append_areas.new.regions.items c.extend_from_slice.new.self.items c.append_user.new.regions.items
    (c.from-processors.ensures ∙ ap (λ (v : Image). v.processors) c.image.view_is)
    (c.len-bodies.ensures ∙ ap (λ (v : Image). length v.bodies) c.image.view_is)
    (c.loop-p.invariant ∙ ap (λ (x : ℕ). flat_map stack_regions (numbers_from 0 x)) last)
    c.in_ok-append_areas.ensures
    c.kernel_region.ensures c.kernel_region-2.ensures c.kernel_region-3.ensures c.kernel_region-4.ensures c.kernel_region-5.ensures
    c.kernel_region-6.ensures c.kernel_region-7.ensures c.kernel_region-8.ensures
    c.in_ok-extend_from_slice.ensures.items c.in_ok-append_user.ensures
