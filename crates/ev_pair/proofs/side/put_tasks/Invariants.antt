use Rattle.std.proofs.Common.{◌≡◌, ◌-◌, ◌≤◌, [], length}
use Rattle.ev_body.specs.declared.image.Image.{Image}
use Rattle.ev_abstract.specs.Machine as abstract
use Rattle.ev_abstract.specs.EntryText.{task_lines}
use Rattle.ev_trace.specs.FrameText.{mode_text}
use Rattle.ev_concrete.specs.Opening.{tasks_of}
use Rattle.ev_concrete.specs.ConcreteRun.{System}
use Rattle.ev_core.specs.Run.{IsStandingAs}
use Rattle.ev_io.proofs.Writes.{Wrote}
use Rattle.ev_pair.proofs.side.put_tasks.Given as goal

-- so many tasks' lines are written
abbrev pub invariant-loop-i : goal.invariant-loop-i
invariant-loop-i g l =
    let taken = g.K.Sink.taken in
    let faults = g.K.Sink.faults in
    record {
      wrote : (image : Image) (s : System) (m : abstract.Machine) → IsStandingAs l.mode image s m l.machine → (abstract.processor m l.p).bodies ≡ []
          → Wrote (taken l.fn.sink) (taken l.sink) (task_lines (mode_text l.mode) l.p (abstract.processor m l.p) l.i (length (tasks_of image l.p) - l.i))
          (task_lines (mode_text l.mode) l.p (abstract.processor m l.p) 0 (length (tasks_of image l.p)));
      count : faults l.fn.sink ≤ faults l.sink;
    }
