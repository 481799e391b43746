use Rattle.std.proofs.Common.{◌≡◌, drop, flat_map}
use Rattle.std.specs.List.{list_any}
use Rattle.ev_body.specs.declared.body.Part.{Part}
use Rattle.ev_accept.specs.Kinds.{is_of}
use Rattle.ev_accept.proofs.items.some_part.Given as goal

abbrev pub invariant-loop-part : goal.invariant-loop-part
invariant-loop-part l =
    list_any (is_of l.kind) (flat_map (λ (part : Part). part.items) (drop l.part-index l.parts)) ≡ list_any (is_of l.kind)
    (flat_map (λ (part : Part). part.items) l.parts)
