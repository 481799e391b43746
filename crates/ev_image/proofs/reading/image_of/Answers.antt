use Rattle.std.proofs.Common.{subst, sym}
use Rattle.ev_body.specs.WellFormed.{IsImage}
use Rattle.ev_image.proofs.HeadKept.{image_kept}
use Rattle.ev_image.proofs.reading.image_of.Goals as goal

pub invariant_of-result : goal.invariant_of-result
invariant_of-result c = subst IsImage (sym c.draft.view_is) (image_kept _ c.requires)
