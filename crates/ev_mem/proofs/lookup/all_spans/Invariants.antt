use Rattle.std.proofs.Common.{◌≡◌, ◌+◌, ◌++◌, drop}
use Rattle.ev_mem.specs.Mapped.{words_in}
use Rattle.ev_mem.specs.Spans.{spans_from}
use Rattle.ev_mem.proofs.lookup.all_spans.Given as goal

abbrev pub invariant-loop-r : goal.invariant-loop-r
invariant-loop-r l = record {
  whole : l.before + words_in (drop l.r-index l.regions) ≡ words_in l.regions;
  spans : l.spans.items ++ spans_from l.before (drop l.r-index l.regions) ≡ spans_from 0 l.regions;
}
