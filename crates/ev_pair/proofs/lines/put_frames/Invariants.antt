use Rattle.std.proofs.Common.{◌≤◌, drop}
use Rattle.ev_trace.specs.FrameText.{mode_text, frames_text}
use Rattle.ev_concrete.specs.ConcreteRun.{noted}
use Rattle.ev_io.proofs.Writes.{Wrote}
use Rattle.ev_pair.proofs.lines.put_frames.Given as goal

-- so many frames are written
abbrev pub invariant-loop-frame : goal.invariant-loop-frame
invariant-loop-frame g l =
    let taken = g.K.Sink.taken in
    let faults = g.K.Sink.faults in
    record {
      wrote : Wrote (taken l.fn.sink) (taken l.sink) (frames_text (mode_text l.mode) (noted l.p (drop l.frame-index l.frames)))
          (frames_text (mode_text l.mode) (noted l.p l.frames));
      count : faults l.fn.sink ≤ faults l.sink;
    }
