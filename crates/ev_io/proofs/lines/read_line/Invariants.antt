use Rattle.std.proofs.Common.{◌+◌, length, ◌≡◌, ◌≤◌, ◌-◌, All}
use Rattle.std.specs.Io.KnownBytes.{prepend_known}
use Rattle.ev_io.specs.Transfer.{Draws}
use Rattle.ev_io.specs.Lines.{IsPrintable, coming}
use Rattle.ev_io.proofs.lines.read_line.Given as goal

abbrev pub invariant-loop-text : goal.invariant-loop-text
invariant-loop-text g l =
    let left = g.S.Source.left in
    let faults = g.S.Source.faults in
    record {
      within : l.gone ≤ 8388608;
      most : l.gone + length l.chunk ≤ 8388609;
      gone : l.gone ≡ l.fn.gone + length l.text;
      short : length l.text ≤ 4096;
      printable : All IsPrintable l.text;
      same : coming l.fn.chunk (left l.fn.src) ≡ prepend_known l.text (coming l.chunk (left l.src));
      draws : Draws (l.fn.gone + length l.fn.chunk) (l.gone + length l.chunk) (left l.fn.src) (left l.src);
      count : faults l.src ≡ faults l.fn.src;
    }

abbrev pub decreases-loop-text : goal.decreases-loop-text
decreases-loop-text g l = 8388608 - l.gone
