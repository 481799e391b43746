use Rattle.std.proofs.Common.{◌≡◌, ◌≤◌, map, ◌++◌, ◌-◌, length}
use Rattle.ev_effect.specs.Frame.{addresses}
use Rattle.ev_mem.specs.Mapped.{memory}
use Rattle.ev_probe.proofs.run.words_at.Given as goal

abbrev pub invariant-loop-words : goal.invariant-loop-words
invariant-loop-words l = record {
  few : length l.words.items ≤ l.count;
  whole : l.words.items ++ map (memory l.mem).words (addresses l.at (l.count - length l.words.items)) ≡ map (memory l.mem).words
      (addresses l.address l.count);
}

abbrev pub decreases-loop-words : goal.decreases-loop-words
decreases-loop-words l = l.count - length l.words.items
