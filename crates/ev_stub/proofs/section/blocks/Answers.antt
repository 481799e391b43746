use Rattle.std.proofs.Common.{◌≡◌, ◌∙◌, ap, List, subst, IfOk}
use Rattle.ev_asm.specs.declared.block.Block.{Block}
use Rattle.ev_asm.specs.Linked.{linked}
use Rattle.ev_stub.specs.Lines.{listings_of}
use Rattle.ev_stub.proofs.Listed.{linked_is}
use Rattle.ev_stub.proofs.section.blocks.Goals as goal

pub returns : goal.returns
returns c =
    subst (λ (x : List Block). IfOk c.link.result (λ b. b.blocks ≡ x)) (ap linked (c.as_slice.ensures ∙ c.in_ok-sections.ensures)
    ∙ linked_is (listings_of c.args.listings.now)) c.link.ensures
