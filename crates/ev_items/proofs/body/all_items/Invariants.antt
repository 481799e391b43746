use Rattle.std.proofs.Common.{◌≡◌, ◌++◌, drop}
use Rattle.std.specs.Prelude.{flat_map}
use Rattle.ev_body.specs.declared.body.Part.{Part}
use Rattle.ev_body.specs.Bodies.{body_items}
use Rattle.ev_items.proofs.body.all_items.Given as goal

abbrev pub invariant-loop-part : goal.invariant-loop-part
invariant-loop-part l = l.items.items ++ flat_map (λ (part : Part). part.items) (drop l.part-index l.body.parts) ≡ body_items l.body
