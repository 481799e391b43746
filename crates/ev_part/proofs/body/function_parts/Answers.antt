use Rattle.std.proofs.Common.{◌≡◌, ◌<◌, length, arith, sym, ap, ◌∙◌, filter_map}
use Rattle.ev_part.specs.BodyParts.{function_part}
use Rattle.ev_part.proofs.Walks.{with_item, without_item}
use Rattle.ev_part.proofs.body.function_parts.Goals as goal
use Rattle.ev_part.proofs.body.function_parts.Goals.{in-Some+in_ok-push, in_default}

pub loop-part-preserved : goal.loop-part-preserved
loop-part-preserved c = let l : c.loop-part.part-index < length c.args.parts.now = omega arith in elim c.match-branch-2.branch [
  | in-Some+in_ok-push w ↦
      with_item function_part c.args.parts.now c.loop-part.part-index c.part-item.result w.in-Some.function c.loop-part.functions.items
      c.match-branch-2.functions.items _ l
      c.part-item.is (sym w.in-Some.is ∙ c.in_ok-function.ensures) (rw w.functions-is w.in_ok-push.ensures.items) c.loop-part.invariant
  | in_default w ↦
      rw w.functions-is
      (without_item function_part c.args.parts.now c.loop-part.part-index c.part-item.result c.loop-part.functions.items _ l c.part-item.is
      (sym w.in_default.is ∙ c.in_ok-function.ensures) c.loop-part.invariant)
]
