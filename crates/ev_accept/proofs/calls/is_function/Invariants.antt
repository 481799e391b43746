use Rattle.std.proofs.Common.{◌≡◌, ◌&&◌, drop}
use Rattle.std.specs.List.{list_any}
use Rattle.ev_body.specs.declared.body.Body.{Body}
use Rattle.ev_abstract.specs.Rules.{is_call_handler}
use Rattle.ev_accept.specs.Calls.{has_function}
use Rattle.ev_accept.proofs.calls.is_function.Given as goal

abbrev pub invariant-loop-body : goal.invariant-loop-body
invariant-loop-body l = list_any (λ (b : Body). is_call_handler b && has_function l.func b.parts) (drop l.body-index l.bodies)
    ≡ list_any (λ (b : Body). is_call_handler b && has_function l.func b.parts) l.bodies
