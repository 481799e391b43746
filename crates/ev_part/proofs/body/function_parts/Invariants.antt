use Rattle.std.proofs.Common.{◌≡◌, ◌++◌, drop, filter_map}
use Rattle.ev_part.specs.BodyParts.{function_part}
use Rattle.ev_part.proofs.body.function_parts.Given as goal

abbrev pub invariant-loop-part : goal.invariant-loop-part
invariant-loop-part l = l.functions.items ++ filter_map function_part (drop l.part-index l.parts) ≡ filter_map function_part l.parts
