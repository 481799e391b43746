use Rattle.std.proofs.Common.{◌≡◌, ◌≤◌, ◌-◌, ℕ, List, Some}
use Rattle.ev_io.specs.Transfer.{Draws}
use Rattle.ev_io.specs.Lines.{coming, drawn}
use Rattle.ev_io.proofs.NextLaws.{Passes}
use Rattle.ev_io.proofs.lines.Lines.next_said.Given as goal

abbrev pub invariant-loop-fault : goal.invariant-loop-fault
invariant-loop-fault g l =
    let left = g.S.Source.left in
    let faults = g.S.Source.faults in
    record {
      passes : (bytes : List ℕ) → coming l.fn.self.chunk (left l.fn.src) ≡ Some bytes → Passes l.fn.self bytes l.self (coming l.self.chunk (left l.src));
      draws : Draws (drawn l.fn.self) (drawn l.self) (left l.fn.src) (left l.src);
      count : faults l.src ≡ faults l.fn.src;
      grown : l.fn.self.gone ≤ l.self.gone;
    }

abbrev pub decreases-loop-fault : goal.decreases-loop-fault
decreases-loop-fault g l = 8388608 - l.self.gone
