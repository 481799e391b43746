use Rattle.ev_words.proofs.Frames.{IsPlacedSoFar}
use Rattle.ev_words.proofs.frame.place.Given as goal

abbrev pub invariant-loop-word : goal.invariant-loop-word
invariant-loop-word l = IsPlacedSoFar l.fn.mem l.mem l.address l.words l.at l.word-index
