use Rattle.std.proofs.Common.{◌≡◌, drop}
use Rattle.ev_body.specs.Bodies.{body_items}
use Rattle.ev_abstract.specs.Rules.{first_item_from, breaks_calls}
use Rattle.ev_accept.proofs.calls.first_failing_call.Given as goal

abbrev pub invariant-loop-i : goal.invariant-loop-i
invariant-loop-i l = first_item_from l.i (breaks_calls l.image l.n l.body) (drop l.i (body_items l.body))
    ≡ first_item_from 0 (breaks_calls l.image l.n l.body) (body_items l.body)
