use Rattle.std.proofs.Common.{◌≡◌, ◌++◌, map, take}
use Rattle.ev_image.specs.Head.{plain_body}
use Rattle.ev_image.proofs.does.with_plain.Given as goal

abbrev pub invariant-loop-key : goal.invariant-loop-key
invariant-loop-key l = l.bodies ≡ l.fn.bodies ++ map plain_body (take l.key-index l.keys)
