use Rattle.std.proofs.Common.{◌≡◌, ◌+◌, ◌≤◌, ℕ, length}
use Rattle.ev_concrete.specs.ConcreteRun.{System, edges}
use Rattle.ev_layout.specs.Marks.{marks_in}
use Rattle.ev_core.specs.State.{EdgesTell, Shows}
use Rattle.ev_core.proofs.settle.settle.Given as goal

-- so many edges are made
abbrev pub invariant-loop : goal.invariant-loop
invariant-loop g l = record {
  few : l.counter ≤ 1023;
  shows : (n : ℕ) (s : System) → Shows n l.fn.state s → EdgesTell (marks_in l.places) n s l.p → Shows n l.state (edges l.counter (marks_in l.places) n s l.p).0;
  frames : (n : ℕ) (s : System) → Shows n l.fn.state s → EdgesTell (marks_in l.places) n s l.p
      → l.frames.items ≡ (edges l.counter (marks_in l.places) n s l.p).1;
  counted : l.steps ≡ l.fn.steps + l.counter;
  totals : l.state.totals.steps ≡ l.fn.state.totals.steps + l.counter;
  same : length l.state.cpus ≡ length l.fn.state.cpus;
}
