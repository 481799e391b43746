use Rattle.std.proofs.Common.{◌≡◌, ◌≤◌, ◌-◌, ℕ, List, [], Some, vec_len}
use Rattle.ev_io.specs.Transfer.{Draws}
use Rattle.ev_io.specs.Lines.{coming, drawn}
use Rattle.ev_io.specs.Follow.{Stands}
use Rattle.ev_abstract.specs.Script.{IsScript}
use Rattle.ev_script.specs.Script.{Open, follows}
use Rattle.ev_script.proofs.reading.read_to_end.Given as goal

abbrev pub invariant-loop-fault : goal.invariant-loop-fault
invariant-loop-fault g l =
    let left = g.S.Source.left in
    let faults = g.S.Source.faults in
    record {
      stands : (bytes : List ℕ) → coming l.fn.lines.chunk (left l.fn.src) ≡ Some bytes
          → Stands (follows l.image) l.fn.lines (Open []) bytes l.lines (coming l.lines.chunk (left l.src)) (Open l.script.items);
      formed : IsScript l.image l.script.items;
      few : vec_len l.script ≤ 200000;
      draws : Draws (drawn l.fn.lines) (drawn l.lines) (left l.fn.src) (left l.src);
      count : faults l.src ≡ faults l.fn.src;
    }

abbrev pub decreases-loop-fault : goal.decreases-loop-fault
decreases-loop-fault g l = 8388608 - l.lines.gone
