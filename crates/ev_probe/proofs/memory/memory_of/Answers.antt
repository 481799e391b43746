use Rattle.std.proofs.Common.{◌≤◌, ◌∙◌, ap, sym, length, rules}
use Rattle.ev_mem.specs.Memory.{Memory}
use Rattle.ev_mem.specs.Mapped.{memory}
use Rattle.ev_probe.proofs.Lines.{are_values}
use Rattle.ev_probe.proofs.Regions.{finds_tables}
use Rattle.ev_probe.proofs.Same.{line_delivery, line_return, same_regions}
use Rattle.ev_probe.proofs.memory.memory_of.Goals as goal

pub returns-then-not-is_return-clause-alike : goal.returns-then-not-is_return-clause-alike
returns-then-not-is_return-clause-alike c =
    line_delivery c.args.l.now (memory c.in_ok-mem.mem) (sym c.is_return.ensures ∙ c.if-not-is_return.true)
    (record {
      regions = same_regions c.in_ok-mem.mem ∙ c.in_ok-mem.ensures.regions;
      gates = c.in_ok-mem.ensures.gates;
      stacks = c.in_ok-mem.ensures.stacks;
      others = c.in_ok-mem.ensures.others;
    })

pub returns-then-not-is_return-clause-tables : goal.returns-then-not-is_return-clause-tables
returns-then-not-is_return-clause-tables c =
    finds_tables (memory c.in_ok-mem.mem) c.args.l.now.values.bad (same_regions c.in_ok-mem.mem ∙ c.in_ok-mem.ensures.regions) c.in_ok-mem.ensures.gates

pub returns-clause-alike : goal.returns-clause-alike
returns-clause-alike c =
    let few : length c.args.l.now.values.words ≤ 8 = search rules in
    line_return c.args.l.now (memory c.in_ok-mem.mem) (memory c.place_words.new.mem) (sym c.is_return.ensures ∙ c.if-not-is_return.false)
    (are_values _ _ _ c.requires) few
    (record {
      regions = same_regions c.in_ok-mem.mem ∙ c.in_ok-mem.ensures.regions;
      gates = c.in_ok-mem.ensures.gates;
      stacks = c.in_ok-mem.ensures.stacks;
      others = c.in_ok-mem.ensures.others;
    })
    c.place_words.ensures

pub returns-clause-tables : goal.returns-clause-tables
returns-clause-tables c =
    finds_tables (memory c.place_words.new.mem) c.args.l.now.values.bad
    (ap (λ (m : Memory). m.regions) c.place_words.ensures ∙ same_regions c.in_ok-mem.mem ∙ c.in_ok-mem.ensures.regions)
    (returns-clause-alike c).gates
