use Rattle.std.proofs.Common.{◌≡◌, ◌++◌, drop}
use Rattle.ev_mem.specs.Conditions.{all_first_words}
use Rattle.ev_mem.proofs.opening.all_first_words.Given as goal

abbrev pub invariant-loop-r : goal.invariant-loop-r
invariant-loop-r l = l.words.items ++ all_first_words (drop l.r-index l.regions) l.text ≡ all_first_words l.regions l.text
