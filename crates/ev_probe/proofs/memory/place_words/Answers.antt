use Rattle.std.proofs.Common.{◌≤◌, ◌∙◌, length, rules}
use Rattle.ev_mem.specs.Mapped.{memory}
use Rattle.ev_probe.proofs.Clear.{no_some, return_clear}
use Rattle.ev_probe.proofs.Lines.{are_values, return_stack}
use Rattle.ev_probe.proofs.Same.{same_regions}
use Rattle.ev_probe.proofs.memory.place_words.Goals as goal

pub unreachable-requires : goal.unreachable-requires
unreachable-requires c =
    let v = are_values _ _ _ c.requires.allowed in
    let few : length c.args.l.now.values.words ≤ 8 = search rules in
    no_some _ _
    (return_clear (memory c.args.mem.now) c.args.l.now.values (length c.args.l.now.values.words) (same_regions c.args.mem.now ∙ c.requires.regions)
    (return_stack _ _ c.requires.op v.stack) few) c.in-Err.ensures.met
