use Rattle.std.proofs.Common.{◌-◌, ◌≤◌}
use Rattle.ev_body.specs.declared.image.Image.{Image}
use Rattle.ev_abstract.specs.Machine as abstract
use Rattle.ev_abstract.specs.EntryText.{all_end_lines}
use Rattle.ev_trace.specs.FrameText.{mode_text}
use Rattle.ev_concrete.specs.ConcreteRun.{System}
use Rattle.ev_core.specs.Run.{IsStandingAs}
use Rattle.ev_io.proofs.Writes.{Wrote}
use Rattle.ev_pair.proofs.side.put_states.Given as goal

-- so many processors' lines are written
abbrev pub invariant-loop-p : goal.invariant-loop-p
invariant-loop-p g l =
    let taken = g.K.Sink.taken in
    let faults = g.K.Sink.faults in
    record {
      wrote : (image : Image) (s : System) (m : abstract.Machine) → IsStandingAs l.mode image s m l.machine
          → Wrote (taken l.fn.sink) (taken l.sink) (all_end_lines (mode_text l.mode) m l.p (image.processors - l.p))
          (all_end_lines (mode_text l.mode) m 0 image.processors);
      count : faults l.fn.sink ≤ faults l.sink;
    }
