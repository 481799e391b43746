use Rattle.std.proofs.Common.{◌≡◌, take}
use Rattle.arrayvec.specs.ArrayVec.{array_vec_len}
use Rattle.ev_items.proofs.expand.held.Given as goal

abbrev pub invariant-loop-line : goal.invariant-loop-line
invariant-loop-line l = record { lines : l.held.items ≡ take l.line-index l.lines; count : array_vec_len l.held ≡ l.line-index }
