use Rattle.std.proofs.Common.{◌≡◌, Some, arith, sym, subst}
use Rattle.ev_mem.specs.Mapped.{MappedWords, AreMapped}
use Rattle.ev_mem.specs.Spans.{span_in}
use Rattle.ev_mem.proofs.Spans.{bounds, slot_is, slot_there}
use Rattle.ev_mem.proofs.mem.Mem.place.Goals as goal

pub overflow_sub-result : goal.overflow_sub-result
overflow_sub-result c = (bounds c.args.self.now.regions c.args.a c.args.span c.requires).0

pub overflow_add-result : goal.overflow_add-result
overflow_add-result c =
    let P : MappedWords → Type 0 = λ m. Some c.args.span ≡ span_in m.regions c.args.a in
    let e : Some c.args.span ≡ span_in c.self.inside.regions.items c.args.a = subst P (sym c.self.view_is) c.requires in
    omega (arith, slot_there c.self.inside.regions.items c.self.inside.words.items c.args.a c.args.span c.self.invariant.mapped e)

pub returns-clause-is : goal.returns-clause-is
returns-clause-is c = slot_is c.args.self.now.regions c.args.a (Some c.args.span) c.requires

pub returns-clause-within : goal.returns-clause-within
returns-clause-within c =
    let P : MappedWords → Type 0 = λ m. AreMapped m.regions m.words in
    slot_there c.args.self.now.regions c.args.self.now.words c.args.a c.args.span (subst P c.self.view_is c.self.invariant.mapped) c.requires
