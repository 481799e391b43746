use Rattle.std.proofs.Common.{◌∙◌}
use Rattle.ev_image.proofs.Functions.{declared_so}
use Rattle.ev_image.proofs.follow.is_function.Goals as goal

pub returns : goal.returns
returns c =
    c.any_of.ensures
    ∙ rw (c.is_declared.ensures, c.are_parts_of.ensures, c.as_slice.ensures, c.is_part_of.ensures) (declared_so c.args.bodies.now c.args.body.now c.args.func)
