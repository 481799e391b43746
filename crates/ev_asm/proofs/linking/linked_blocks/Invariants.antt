use Rattle.std.proofs.Common.{◌≡◌, ◌++◌, drop, map}
use Rattle.ev_asm.specs.Linked.{section_places, block_in, linked}
use Rattle.ev_asm.proofs.linking.linked_blocks.Given as goal

abbrev pub invariant-loop-section : goal.invariant-loop-section
invariant-loop-section l = l.blocks.items ++ map (block_in (section_places l.sections)) (drop l.section-index l.sections) ≡ linked l.sections
