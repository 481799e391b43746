use Rattle.std.proofs.Common.{◌≡◌, ◌+◌, ◌*◌, ◌≤◌, List, length}
use Rattle.ev_body.specs.declared.image.Image.{Image}
use Rattle.ev_abstract.specs.Run.{run}
use Rattle.ev_abstract.specs.declared.script_line.Line.{Line}
use Rattle.ev_concrete.specs.RunText.{shown_frames, settling}
use Rattle.ev_core.specs.Run.{IsRun, IsStandingAs}
use Rattle.ev_pair.specs.SideText.{side_at}
use Rattle.ev_io.proofs.Writes.{Wrote}
use Rattle.ev_pair.proofs.Settled.{settled_first, later_text}
use Rattle.ev_pair.proofs.side.put_settling.Given as goal

-- so many processors are settled, and their frames are written
abbrev pub invariant-loop-p : goal.invariant-loop-p
invariant-loop-p g l =
    let taken = g.K.Sink.taken in
    let faults = g.K.Sink.faults in
    record {
      so : (image : Image) (script : List Line) → IsRun l.mode image script l.fn.machine
          → IsStandingAs l.mode image (settled_first l.mode image script l.p).0 (run image script) l.machine;
      wrote : (image : Image) (script : List Line) → IsRun l.mode image script l.fn.machine
          → Wrote (taken l.fn.sink) (taken l.sink) (later_text l.frames l.mode image script l.p)
          (shown_frames l.frames l.mode (settling image (side_at l.mode image script)).1);
      totals : l.machine.parts.totals.steps ≤ l.fn.machine.parts.totals.steps + 1024 * l.p;
      same : length l.machine.parts.cpus ≡ length l.fn.machine.parts.cpus;
      count : faults l.fn.sink ≤ faults l.sink;
    }
