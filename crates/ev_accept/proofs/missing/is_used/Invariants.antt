use Rattle.std.proofs.Common.{◌≡◌, ◌||◌, drop}
use Rattle.std.specs.Prelude.{◌==◌}
use Rattle.std.specs.List.{list_any}
use Rattle.ev_body.specs.declared.body.Body.{Body}
use Rattle.ev_body.specs.Bodies.{key_number}
use Rattle.ev_abstract.specs.Chain.{has_item}
use Rattle.ev_abstract.specs.Rules.{sends, is_used}
use Rattle.ev_accept.proofs.missing.is_used.Given as goal

abbrev pub invariant-loop-body : goal.invariant-loop-body
invariant-loop-body l =
    list_any (λ (b : Body). (key_number b.key == key_number l.key) || has_item (sends l.key) b) (drop l.body-index l.bodies) ≡ is_used l.image l.key
