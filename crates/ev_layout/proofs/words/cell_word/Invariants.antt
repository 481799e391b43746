use Rattle.std.proofs.Common.{◌≡◌, drop}
use Rattle.ev_isa.specs.Word.{values}
use Rattle.ev_layout.proofs.words.cell_word.Given as goal

abbrev pub invariant-loop-number : goal.invariant-loop-number
invariant-loop-number l = values (drop l.number-index l.number-items) l.cell ≡ values l.number-items l.cell
