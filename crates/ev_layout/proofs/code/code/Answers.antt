use Rattle.std.proofs.Common.{◌≡◌, ◌∙◌, true, length, sym, ap, subst}
use Rattle.ev_body.specs.declared.image.Image.{Image}
use Rattle.ev_body.specs.WellFormed.{IsImage}
use Rattle.ev_asm.specs.Linked.{AreLinkable, linked}
use Rattle.ev_concrete.specs.Opening.{listings, code_of}
use Rattle.ev_layout.specs.Filled.{are_placed}
use Rattle.ev_layout.specs.Placed.{placed}
use Rattle.ev_layout.proofs.Linkable.{all_linkable, blocks_are, blocks_placed}
use Rattle.ev_layout.proofs.Slots.{all_keep}
use Rattle.ev_layout.proofs.Results.{if_ok}
use Rattle.ev_layout.proofs.code.code.Goals as goal

pub sections-requires : goal.sections-requires
sections-requires c = all_keep c.args.image.now.processors c.args.image.now.bodies c.requires

pub link-requires : goal.link-requires
link-requires c =
    let i : Image = c.args.image.now in
    let is = subst IsImage c.image.view_is c.image.invariant in
    subst AreLinkable (sym (c.deref.ensures.value ∙ c.in_ok-sections.ensures)) (all_linkable c.args.mode i is c.requires)

pub returns-clause-is : goal.returns-clause-is
returns-clause-is c =
    let i : Image = c.args.image.now in
    let same = ap linked (c.deref.ensures.value ∙ c.in_ok-sections.ensures) in
    if_ok c.link.result (λ b. b.blocks ≡ linked c.deref.result.now) (λ b. placed b.blocks ≡ code_of (listings c.args.mode i))
    (λ b h. ap placed (h ∙ same) ∙ blocks_are (listings c.args.mode i)) c.link.ensures

pub returns-clause-placed : goal.returns-clause-placed
returns-clause-placed c =
    let i : Image = c.args.image.now in
    let is = subst IsImage c.image.view_is c.image.invariant in
    let same = ap linked (c.deref.ensures.value ∙ c.in_ok-sections.ensures) in
    if_ok c.link.result (λ b. b.blocks ≡ linked c.deref.result.now) (λ b. are_placed (length i.bodies) b.blocks ≡ true)
    (λ b h. ap (are_placed (length i.bodies)) (h ∙ same) ∙ blocks_placed c.args.mode i is) c.link.ensures
