use Rattle.std.proofs.Common.{◌≡◌, drop}
use Rattle.std.specs.List.{list_all}
use Rattle.ev_built.specs.RunTakes.{part_is_built}
use Rattle.ev_built.proofs.image.parts_built.Given as goal

abbrev pub invariant-loop-part : goal.invariant-loop-part
invariant-loop-part l = list_all part_is_built (drop l.part-index l.parts) ≡ list_all part_is_built l.parts
