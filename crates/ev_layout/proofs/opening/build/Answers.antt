-- What the code asks of an image holds of an accepted one.
use Rattle.std.proofs.Common.{◌≡◌, ℕ, true, sym, ap, ◌∙◌, subst}
use Rattle.std.specs.List.{list_all}
use Rattle.ev_body.specs.declared.image.Image.{Image}
use Rattle.ev_body.specs.WellFormed.{IsImage}
use Rattle.ev_abstract.specs.Accepted.{IsAcceptedWith}
use Rattle.ev_mem.specs.Memory.{Memory}
use Rattle.ev_concrete.specs.Opening.{regions, opening_word, opening_memory}
use Rattle.ev_fetch.specs.Spelled.{has_spelling}
use Rattle.ev_fetch.proofs.Ruled.{accepted_spelling}
use Rattle.ev_layout.specs.KeptCode.{are_code}
use Rattle.ev_layout.specs.Placed.{placed}
use Rattle.ev_layout.proofs.Slots.{all_keep, all_code}
use Rattle.ev_layout.proofs.opening.build.Goals as goal

spelled : (image given : Image) (bound : ℕ) → image ≡ given → IsImage image → IsAcceptedWith given bound
    → list_all (has_spelling image.processors) image.bodies ≡ true
spelled image given bound same is accepted = accepted_spelling image is (bound, subst (λ (i : Image). IsAcceptedWith i bound) (sym same) accepted)

pub visible_marks-requires : goal.visible_marks-requires
visible_marks-requires c =
    let image = c.image-image.result.now in
    all_keep image.processors image.bodies (spelled image c.args.accepted.now.image c.args.accepted.now.bound c.image-image.ensures.image
    (subst IsImage c.image.view_is c.image.invariant) c.image-image.ensures.accepted)

pub new-places-requires : goal.new-places-requires
new-places-requires c =
    let image = c.image-image.result.now in
    let is = subst IsImage c.image.view_is c.image.invariant in
    ap are_code c.in_ok-bodies.ensures
    ∙ all_code image is (all_keep image.processors image.bodies (spelled image c.args.accepted.now.image c.args.accepted.now.bound c.image-image.ensures.image
    is c.image-image.ensures.accepted))

pub code-requires : goal.code-requires
code-requires c = spelled c.image-image.result.now c.args.accepted.now.image c.args.accepted.now.bound c.image-image.ensures.image
    (subst IsImage c.image.view_is c.image.invariant) c.image-image.ensures.accepted

pub returns-in-Ok-clause-memory : goal.returns-in-Ok-clause-memory
returns-in-Ok-clause-memory c =
    let image : Image = c.image-image.result.now in
    c.in_ok-mem.ensures
    ∙ ap (λ blocks. let m : Memory = record { regions = regions image; words = opening_word blocks c.args.mode image } in m)
    (ap placed c.as_slice.ensures ∙ c.in_ok-code.ensures.is)
    ∙ ap (opening_memory c.args.mode) c.image-image.ensures.image
