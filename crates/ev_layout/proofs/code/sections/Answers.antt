use Rattle.std.proofs.Common.{◌++◌, ◌∙◌, sym}
use Rattle.ev_concrete.specs.Opening.{body_listings, kernel_listings, listings}
use Rattle.ev_layout.proofs.Linkable.{sections_append}
use Rattle.ev_layout.proofs.code.sections.Goals as goal

pub returns-in-Ok-append : goal.returns-in-Ok-append
unfolding listings
returns-in-Ok-append c =
    let i = c.args.image.now in
    let a = c.in-Ok.ensures in
    let b = c.into_vec-kernel.ensures ∙ c.in_ok-kernel_sections.ensures in
    c.in-Ok-append.ensures.items ∙ (λ j. a j ++ b j) ∙ sym (sections_append (body_listings c.args.mode i 0 i.bodies) (kernel_listings c.args.mode))
