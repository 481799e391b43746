use Rattle.std.proofs.Common.{◌++◌, drop}
use Rattle.ev_asm.specs.LabelTable.{FindAlike}
use Rattle.ev_asm.specs.Linked.{section_places}
use Rattle.ev_asm.proofs.linking.labels_in.Given as goal

abbrev pub invariant-loop-section : goal.invariant-loop-section
invariant-loop-section l = FindAlike (l.labels ++ section_places (drop l.section-index l.sections)) (section_places l.sections)
