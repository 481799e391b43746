-- No marks, and an empty index.
use Rattle.std.proofs.Common.{nat_eq, ℕ, List, ap, sym, ◌∙◌}
use Rattle.std.specs.Map.{lookup}
use Rattle.ev_layout.specs.declared.mark.Mark.{Mark}
use Rattle.ev_layout.specs.Index.{first_mark}
use Rattle.ev_layout.proofs.mark_table.MarkTable.new.Goals as goal

pub invariant_of-result : goal.invariant_of-result
unfolding first_mark
invariant_of-result c = λ a.
    ap (λ (es : List (ℕ × Mark)). lookup (nat_eq a) es) c.new-2.ensures.empty ∙ ap (λ (ms : List (ℕ × Mark)). first_mark ms a) (sym c.new.ensures.items)
