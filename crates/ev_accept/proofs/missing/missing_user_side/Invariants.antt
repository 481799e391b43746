use Rattle.std.proofs.Common.{◌≡◌, find, drop}
use Rattle.ev_abstract.specs.Rules.{missing}
use Rattle.ev_accept.specs.Missing.{user_sides}
use Rattle.ev_accept.proofs.missing.missing_user_side.Given as goal

abbrev pub invariant-loop-key : goal.invariant-loop-key
invariant-loop-key l = find (missing l.image) (user_sides (drop l.key-index l.keys)) ≡ find (missing l.image) (user_sides l.keys)
