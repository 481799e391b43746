use Rattle.std.proofs.Common.{◌≡◌, drop}
use Rattle.ev_isa.specs.Word.{members}
use Rattle.ev_layout.proofs.words.page_word.Given as goal

abbrev pub invariant-loop-present : goal.invariant-loop-present
invariant-loop-present l = members (drop l.present-index l.present-items) l.page ≡ members l.present-items l.page
