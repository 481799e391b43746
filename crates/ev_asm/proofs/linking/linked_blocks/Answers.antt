use Rattle.std.proofs.Common.{◌≡◌, List, ℕ, ap, ◌∙◌, arith}
use Rattle.ev_asm.specs.declared.block.Block.{Block}
use Rattle.ev_asm.specs.Assembly.{code}
use Rattle.ev_asm.specs.Linked.{section_places, all_reach}
use Rattle.ev_asm.proofs.FirstLabels.{reach_alike, block_alike}
use Rattle.ev_asm.proofs.Sections.{linkable_at, blocks_step}
use Rattle.ev_asm.proofs.linking.linked_blocks.Goals as goal

pub linked_bytes-requires-clause-reach : goal.linked_bytes-requires-clause-reach
linked_bytes-requires-clause-reach c =
    let env = section_places c.args.sections.now in
    ap (all_reach c.in_ok-labels.labels c.section-item.result.address) c.as_slice.ensures
    ∙ reach_alike c.in_ok-labels.labels env c.section-item.result.address c.section-item.result.stmts c.in_ok-labels.ensures
    ∙ (linkable_at env c.args.sections.now c.loop-section.section-index c.section-item.result c.requires (omega arith) c.section-item.is).reach

pub loop-section-preserved : goal.loop-section-preserved
loop-section-preserved c =
    let labels = c.in_ok-labels.labels in
    let env = section_places c.args.sections.now in
    let s = c.section-item.result in
    let bytes : c.from_vec.result ≡ code labels s.address s.stmts = c.from_vec.ensures ∙ c.in_ok-bytes.ensures
    ∙ ap (code labels s.address) c.as_slice.ensures in
    blocks_step env c.args.sections.now c.loop-section.section-index _ s _ _ _ _ (omega arith) (omega arith) c.section-item.is
    (ap (λ (x : List ℕ). let b : Block = record { address = s.address; bytes = x } in b) bytes ∙ block_alike labels env s c.in_ok-labels.ensures)
    c.in_ok-push.ensures.items c.loop-section.invariant
