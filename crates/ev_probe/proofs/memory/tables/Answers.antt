use Rattle.std.proofs.Common.{◌∙◌, List, [], ap, inr, arith, subst, sym}
use Rattle.ev_mem.specs.declared.region.Region.{Region}
use Rattle.ev_mem.specs.Conditions.{AreRegions}
use Rattle.ev_mem.specs.Memory.{Memory}
use Rattle.ev_probe.proofs.Regions.{few_are_regions}
use Rattle.ev_probe.proofs.Same.{same_regions, zero_first}
use Rattle.ev_probe.proofs.memory.tables.Goals as goal

pub new-requires : goal.new-requires
new-requires c = subst (λ (rs : List Region). AreRegions rs []) (sym (c.deref.ensures.value ∙ c.in-Ok.ensures)) (few_are_regions c.args.bad)

pub fill_gates-requires : goal.fill_gates-requires
fill_gates-requires c = record {
  regions = sym (same_regions c.in_ok-mem.mem) ∙ ap (λ (m : Memory). m.regions) c.in_ok-mem.ensures ∙ c.deref.ensures.value ∙ c.in-Ok.ensures;
}

pub returns-clause-others : goal.returns-clause-others
returns-clause-others c a h =
    let low = h.0 in
    c.fill_stacks.ensures.others a (inr (omega (arith, low))) ∙ c.fill_gates.ensures.others a (inr (omega (arith, low)))
    ∙ ap (λ (m : Memory). m.words a) c.in_ok-mem.ensures ∙ zero_first _ a
