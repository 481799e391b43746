use Rattle.std.proofs.Common.{sym}
use Rattle.ev_mem.proofs.Spans.{none_holds}
use Rattle.ev_mem.proofs.lookup.find.Goals as goal

pub returns-else-is_within : goal.returns-else-is_within
returns-else-is_within c =
    none_holds c.args.spans.now c.args.a c.last_below.result _ c.requires c.last_below.ensures.within (sym c.if-is_within.ensures)
    c.last_below.ensures.below c.last_below.ensures.above
