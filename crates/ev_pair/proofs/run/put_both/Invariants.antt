use Rattle.std.proofs.Common.{◌≡◌, ◌*◌, ◌≤◌, [], ◌∷◌, length, take, drop}
use Rattle.ev_isa.specs.declared.mode.Mode.TheVariants.{Idt, Fred}
use Rattle.ev_body.specs.declared.image.Image.{Image}
use Rattle.ev_abstract.specs.Script.{IsScript}
use Rattle.ev_concrete.specs.RunText.{run_text}
use Rattle.ev_core.specs.Run.{IsRun}
use Rattle.ev_io.proofs.Writes.{Wrote}
use Rattle.ev_pair.proofs.Rest.{rest_text}
use Rattle.ev_pair.proofs.run.put_both.Given as goal

-- so many lines are made and written in both modes
abbrev pub invariant-loop-line : goal.invariant-loop-line
invariant-loop-line g l =
    let taken = g.K.Sink.taken in
    let faults = g.K.Sink.faults in
    record {
      idt_at : (image : Image) → IsRun Idt image [] l.fn.idt → IsScript image l.script → IsRun Idt image (take l.line-index l.script) l.idt;
      fred_at : (image : Image) → IsRun Fred image [] l.fn.fred → IsScript image l.script → IsRun Fred image (take l.line-index l.script) l.fred;
      wrote : (image : Image) → IsRun Idt image [] l.fn.idt → IsRun Fred image [] l.fn.fred → IsScript image l.script
          → Wrote (taken l.fn.sink) (taken l.sink) (rest_text l.frames (Idt ∷ Fred ∷ []) image (take l.line-index l.script) (drop l.line-index l.script))
          (run_text image l.script (Idt ∷ Fred ∷ []) l.frames);
      idt_processors : length l.idt.parts.cpus ≡ length l.fn.idt.parts.cpus;
      idt_totals : l.idt.parts.totals.steps ≤ 1024 * l.line-index;
      fred_processors : length l.fred.parts.cpus ≡ length l.fn.fred.parts.cpus;
      fred_totals : l.fred.parts.totals.steps ≤ 1024 * l.line-index;
      count : faults l.fn.sink ≤ faults l.sink;
    }
