use Rattle.std.proofs.Common.{sym, ◌∙◌}
use Rattle.ev_asm.proofs.FirstLabels.{again_adds_nothing}
use Rattle.ev_asm.proofs.label_table.Labels.with_new_label_of.Goals as goal

pub returns-then-has_label_of : goal.returns-then-has_label_of
returns-then-has_label_of c = again_adds_nothing c.args.self c.args.s.now c.args.place (sym c.has_label_of.ensures ∙ c.if-has_label_of.true)
