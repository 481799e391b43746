use Rattle.std.proofs.Common.{◌≡◌, drop}
use Rattle.std.specs.List.{list_all}
use Rattle.ev_built.specs.Built.{line_is_built}
use Rattle.fredbox.proofs.run.all_built.Given as goal

abbrev pub invariant-loop-line : goal.invariant-loop-line
invariant-loop-line l = list_all line_is_built (drop l.line-index l.script) ≡ list_all line_is_built l.script
