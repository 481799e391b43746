use Rattle.std.proofs.Common.{◌+◌, ◌≤◌, length}
use Rattle.ev_io.proofs.Writes.{Wrote}
use Rattle.ev_asm_text.specs.AsmText.{asm_text, instruction_lines}
use Rattle.ev_asm_text.proofs.text.put_user_text.Given as goal

-- the lines of what is done are written, and the rest stands at this address
abbrev pub invariant-loop-size : goal.invariant-loop-size
invariant-loop-size g l =
    let taken = g.K.Sink.taken in
    let faults = g.K.Sink.faults in
    record {
      wrote : Wrote (taken l.fn.sink) (taken l.sink) (instruction_lines (length l.rest) l.at l.rest) (asm_text l.fn.image);
      count : faults l.fn.sink ≤ faults l.sink;
      place : l.at + length l.rest ≤ 0x400000 + 65520;
    }

abbrev pub decreases-loop-size : goal.decreases-loop-size
decreases-loop-size g l = length l.rest
