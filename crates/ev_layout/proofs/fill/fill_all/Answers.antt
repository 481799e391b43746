use Rattle.std.proofs.Common.{get_or}
use Rattle.ev_layout.specs.declared.fill.Span.{Span}
use Rattle.ev_layout.proofs.Filling.{fit_at}
use Rattle.ev_layout.proofs.Waiting.{other_default}
use Rattle.ev_layout.proofs.fill.fill_all.Goals as goal

pub fill-requires-clause-aligned : goal.fill-requires-clause-aligned
fill-requires-clause-aligned c =
    let s : Span = get_or c.args.spans.now c.loop-span.span-index (record { base = 0; count = 0 }) in
    let f = fit_at c.args.mem.now.regions c.loop-span.mem.regions c.args.spans.now c.loop-span.span-index s c.requires c.loop-span.invariant.regions
    c.loop-span-test.true (other_default c.args.spans.now c.loop-span.span-index (record { base = 0; count = 0 }) s c.loop-span-test.true) in
    f.aligned

pub fill-requires-clause-upper : goal.fill-requires-clause-upper
fill-requires-clause-upper c =
    let s : Span = get_or c.args.spans.now c.loop-span.span-index (record { base = 0; count = 0 }) in
    let f = fit_at c.args.mem.now.regions c.loop-span.mem.regions c.args.spans.now c.loop-span.span-index s c.requires c.loop-span.invariant.regions
    c.loop-span-test.true (other_default c.args.spans.now c.loop-span.span-index (record { base = 0; count = 0 }) s c.loop-span-test.true) in
    f.upper

pub fill-requires-clause-room : goal.fill-requires-clause-room
fill-requires-clause-room c =
    let s : Span = get_or c.args.spans.now c.loop-span.span-index (record { base = 0; count = 0 }) in
    let f = fit_at c.args.mem.now.regions c.loop-span.mem.regions c.args.spans.now c.loop-span.span-index s c.requires c.loop-span.invariant.regions
    c.loop-span-test.true (other_default c.args.spans.now c.loop-span.span-index (record { base = 0; count = 0 }) s c.loop-span-test.true) in
    f.room

pub fill-requires-clause-mapped : goal.fill-requires-clause-mapped
fill-requires-clause-mapped c =
    let s : Span = get_or c.args.spans.now c.loop-span.span-index (record { base = 0; count = 0 }) in
    let f = fit_at c.args.mem.now.regions c.loop-span.mem.regions c.args.spans.now c.loop-span.span-index s c.requires c.loop-span.invariant.regions
    c.loop-span-test.true (other_default c.args.spans.now c.loop-span.span-index (record { base = 0; count = 0 }) s c.loop-span-test.true) in
    f.mapped
