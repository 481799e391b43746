use Rattle.std.proofs.Common.{◌≡◌, drop}
use Rattle.ev_body.specs.Bodies.{first_body}
use Rattle.ev_body.proofs.body.first_body.Given as goal

abbrev pub invariant-loop-n : goal.invariant-loop-n
invariant-loop-n l = first_body l.n (drop l.n l.bodies) l.number l.side ≡ first_body 0 l.bodies l.number l.side
