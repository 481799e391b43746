use Rattle.std.proofs.Common.{◌≡◌, ◌*◌, ◌≤◌, [], ◌∷◌, length, take, drop}
use Rattle.ev_body.specs.declared.image.Image.{Image}
use Rattle.ev_abstract.specs.Script.{IsScript}
use Rattle.ev_concrete.specs.RunText.{run_text}
use Rattle.ev_core.specs.Run.{IsRun}
use Rattle.ev_io.proofs.Writes.{Wrote}
use Rattle.ev_pair.proofs.Rest.{rest_text}
use Rattle.ev_pair.proofs.run.put_one.Given as goal

-- so many lines are made and written
abbrev pub invariant-loop-line : goal.invariant-loop-line
invariant-loop-line g l =
    let taken = g.K.Sink.taken in
    let faults = g.K.Sink.faults in
    record {
      at : (image : Image) → IsRun l.mode image [] l.fn.machine → IsScript image l.script → IsRun l.mode image (take l.line-index l.script) l.machine;
      wrote : (image : Image) → IsRun l.mode image [] l.fn.machine → IsScript image l.script
          → Wrote (taken l.fn.sink) (taken l.sink) (rest_text l.frames (l.mode ∷ []) image (take l.line-index l.script) (drop l.line-index l.script))
          (run_text image l.script (l.mode ∷ []) l.frames);
      processors : length l.machine.parts.cpus ≡ length l.fn.machine.parts.cpus;
      totals : l.machine.parts.totals.steps ≤ 1024 * l.line-index;
      count : faults l.fn.sink ≤ faults l.sink;
    }
