use Rattle.std.proofs.Common.{◌∙◌, ◌-◌, ap, refl, ℕ}
use Rattle.ev_mem.specs.declared.region.RegionKind.TheVariants.{Kernel}
use Rattle.ev_concrete.specs.Opening.{region}
use Rattle.ev_probe.proofs.Regions.{none_pushed, one_pushed}
use Rattle.ev_probe.proofs.memory.push_stack.Goals as goal

pub returns-in_ok-push : goal.returns-in_ok-push
returns-in_ok-push c =
    one_pushed c.args.bad c.args.n c.args.regions.now.items c.push.new.self.items c.kernel_region.result c.requires c.if-bad-n-eq0.true
    (c.kernel_region.ensures ∙ ap (λ (a : ℕ). region (a - 0x2000) 0x2000 Kernel) c.stack_top.ensures) c.in_ok-push.ensures.items

pub returns-else-bad-n-eq0 : goal.returns-else-bad-n-eq0
returns-else-bad-n-eq0 c =
    none_pushed c.args.bad c.args.n c.args.regions.now.items c.args.regions.now.items c.requires c.if-bad-n-eq0.false refl
