use Rattle.std.proofs.Common.{length, ◌-◌, ◌≡◌, ◌≤◌, take}
use Rattle.std.specs.Io.KnownBytes.{append_known}
use Rattle.ev_io.proofs.write.put_all.Given as goal

abbrev pub invariant-loop-at : goal.invariant-loop-at
invariant-loop-at g l =
    let taken = g.K.Sink.taken in
    let faults = g.K.Sink.faults in
    record {
      within : l.at ≤ length l.piece;
      taken : taken l.sink ≡ append_known (taken l.fn.sink) (take l.at l.piece);
      count : faults l.fn.sink ≤ faults l.sink;
    }

abbrev pub decreases-loop-at : goal.decreases-loop-at
decreases-loop-at g l = length l.piece - l.at
