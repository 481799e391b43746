-- The index answers the first mark of the list.
use Rattle.std.proofs.Common.{ℕ, List, ap, sym, ◌∙◌}
use Rattle.ev_concrete.specs.ConcreteRun.{mark_at}
use Rattle.ev_layout.specs.declared.mark.Mark.{Mark}
use Rattle.ev_layout.specs.Marks.{listed}
use Rattle.ev_layout.proofs.Index.{mark_by, at_first}
use Rattle.ev_layout.proofs.mark_table.MarkTable.mark_at.Goals as goal

pub returns-in-Some : goal.returns-in-Some
unfolding mark_by
returns-in-Some c =
    ap mark_by (c.in-Some.ensures.value ∙ c.self.invariant c.args.rip) ∙ sym (at_first c.self.inside.marks.items c.args.rip)
    ∙ ap (λ (ms : List (ℕ × Mark)). mark_at (listed ms) c.args.rip) c.self.view_is

pub returns-in-None : goal.returns-in-None
unfolding mark_by
returns-in-None c =
    ap mark_by (c.in-None.ensures.value ∙ c.self.invariant c.args.rip) ∙ sym (at_first c.self.inside.marks.items c.args.rip)
    ∙ ap (λ (ms : List (ℕ × Mark)). mark_at (listed ms) c.args.rip) c.self.view_is
