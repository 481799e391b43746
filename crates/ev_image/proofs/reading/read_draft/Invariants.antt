use Rattle.std.proofs.Common.{◌≡◌, ◌-◌, ℕ, List, Some, None}
use Rattle.ev_io.specs.Transfer.{Draws}
use Rattle.ev_io.specs.Lines.{coming, drawn}
use Rattle.ev_io.specs.Follow.{Stands}
use Rattle.ev_image.specs.declared.head.Head.TheVariants as Head
use Rattle.ev_image.specs.Head.{head_follows}
use Rattle.ev_image.specs.Reads.{Reached, image_in}
use Rattle.ev_image.proofs.reading.read_draft.Given as goal

abbrev pub invariant-loop-next : goal.invariant-loop-next
invariant-loop-next g l =
    let left = g.S.Source.left in
    let faults = g.S.Source.faults in
    record {
      stands : (bytes : List ℕ) → coming l.fn.lines.chunk (left l.fn.src) ≡ Some bytes
          → Stands head_follows l.fn.lines Head.Image bytes l.lines (coming l.lines.chunk (left l.src)) l.head;
      before : image_in l.head ≡ None;
      reached : Reached l.head;
      draws : Draws (drawn l.fn.lines) (drawn l.lines) (left l.fn.src) (left l.src);
      count : faults l.src ≡ faults l.fn.src;
    }

abbrev pub decreases-loop-next : goal.decreases-loop-next
decreases-loop-next g l = 8388608 - l.lines.gone
