use Rattle.std.proofs.Common.{◌≡◌, ◌+◌, length, drop}
use Rattle.std.specs.Prelude.{flat_map}
use Rattle.ev_body.specs.declared.body.Part.{Part}
use Rattle.ev_body.specs.Bodies.{body_items, function_start, first_item}
use Rattle.ev_items.proofs.function.function_start.Given as goal

abbrev pub invariant-loop-part : goal.invariant-loop-part
invariant-loop-part l = record {
  start : first_item l.n (drop l.part-index l.body.parts) l.func ≡ function_start l.body l.func;
  room : l.n + length (flat_map (λ (part : Part). part.items) (drop l.part-index l.body.parts)) ≡ length (body_items l.body);
}
