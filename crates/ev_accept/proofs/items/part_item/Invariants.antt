use Rattle.std.proofs.Common.{◌≡◌, drop, flat_map, slice_get}
use Rattle.ev_body.specs.declared.body.Part.{Part}
use Rattle.ev_accept.proofs.items.part_item.Given as goal

abbrev pub invariant-loop-part : goal.invariant-loop-part
invariant-loop-part l = slice_get (flat_map (λ (part : Part). part.items) (drop l.part-index l.parts)) l.left
    ≡ slice_get (flat_map (λ (part : Part). part.items) l.parts) l.at
