use Rattle.std.proofs.Common.{rules}
use Rattle.std.proofs.lemmas.List.Sorted.{IsNonDecreasingBy-from_sort_by_key}
use Rattle.ev_mem.specs.declared.lookup.Span.{Span}
use Rattle.ev_mem.proofs.lookup.all_spans.Goals as goal

pub returns-clause-sorted : goal.returns-clause-sorted
returns-clause-sorted c =
    IsNonDecreasingBy-from_sort_by_key (λ (s : Span). s.region.base) _ c.in_ok-sort_by_key.ensures.sorted (λ a r q k. search rules)
