use Rattle.std.proofs.Common.{List, ap, subst, ◌∙◌}
use Rattle.ev_mem.specs.declared.lookup.Span.{Span}
use Rattle.ev_mem.specs.Spans.{span_in, IsHolder}
use Rattle.ev_mem.proofs.Spans.{found}
use Rattle.ev_mem.proofs.mem.Mem.find.Goals as goal

pub returns : goal.returns
returns c =
    let P : List Span → Type 0 = λ ss. IsHolder ss c.args.a c.find.result in
    found c.self.inside.regions.items c.self.inside.spans.items c.args.a c.find.result c.self.invariant.searched (subst P c.deref.ensures.value c.find.ensures)
    ∙ ap (λ m. span_in m.regions c.args.a) c.self.view_is
