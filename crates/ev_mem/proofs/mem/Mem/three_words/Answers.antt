use Rattle.std.proofs.Common.{◌≡◌, ◌+◌, arith}
use Rattle.ev_mem.specs.Mapped.{memory}
use Rattle.ev_mem.proofs.Spans.{bounds, word_ahead, read_ahead}
use Rattle.ev_mem.proofs.mem.Mem.three_words.Goals as goal

pub overflow_sub-a : goal.overflow_sub-a
overflow_sub-a c = (bounds c.args.self.now.regions c.args.a c.in-Some.span c.in-Some.ensures).0

pub index-requires-then-a-span : goal.index-requires-then-a-span
index-requires-then-a-span c =
    omega (
      arith,
      (word_ahead _ c.args.self.now _ c.args.a 1 c.place-i.result c.in-Some.span c.self.view_is c.self.invariant c.requires c.in-Some.ensures
          c.place-i.ensures.is (omega (arith, c.if-a-span.true))).0,
    )

pub index-requires-then-a-span-2 : goal.index-requires-then-a-span-2
index-requires-then-a-span-2 c =
    omega (
      arith,
      (word_ahead _ c.args.self.now _ c.args.a 2 c.place-i.result c.in-Some.span c.self.view_is c.self.invariant c.requires c.in-Some.ensures
          c.place-i.ensures.is c.if-a-span.true).0,
    )

pub returns-then-a-span : goal.returns-then-a-span
returns-then-a-span c =
    let t = c.if-a-span.true in
    let e : c.index.result.now ≡ (memory c.args.self.now).words c.args.a =
    read_ahead _ c.args.self.now _ c.args.a 0 c.place-i.result c.in-Some.span _ _ _ c.self.view_is c.self.invariant c.requires c.in-Some.ensures
    c.place-i.ensures.is (omega (arith, t)) (omega arith) (omega arith) c.index.ensures in
    let f : c.index-then-a-span.result.now ≡ (memory c.args.self.now).words (c.args.a + 8) =
    read_ahead _ c.args.self.now _ c.args.a 1 c.place-i.result c.in-Some.span _ _ _ c.self.view_is c.self.invariant c.requires c.in-Some.ensures
    c.place-i.ensures.is (omega (arith, t)) (omega arith) (omega arith) c.index-then-a-span.ensures in
    let g : c.index-then-a-span-2.result.now ≡ (memory c.args.self.now).words (c.args.a + 16) =
    read_ahead _ c.args.self.now _ c.args.a 2 c.place-i.result c.in-Some.span _ _ _ c.self.view_is c.self.invariant c.requires c.in-Some.ensures
    c.place-i.ensures.is t (omega arith) (omega arith) c.index-then-a-span-2.ensures in
    cc
