use Rattle.std.proofs.Common.{◌<◌, ◌≤◌, ℕ, ◌+◌, length, get_or}
use Rattle.ev_mem.specs.declared.lookup.Span.{Span}
use Rattle.ev_mem.proofs.lookup.last_below.Given as goal

abbrev pub invariant-loop-count : goal.invariant-loop-count
invariant-loop-count l = record {
  some : 0 < l.count;
  within : l.first + l.count ≤ length l.spans;
  below : 0 < l.first → (d : Span) → (get_or l.spans l.first d).region.base ≤ l.a;
  above : (k : ℕ) (d : Span) → l.first + l.count ≤ k → k < length l.spans → l.a < (get_or l.spans k d).region.base;
}

abbrev pub decreases-loop-count : goal.decreases-loop-count
decreases-loop-count l = l.count
