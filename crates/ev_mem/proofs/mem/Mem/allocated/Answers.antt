use Rattle.std.proofs.Common.{arith}
use Rattle.ev_mem.proofs.FirstWords.{placed, are_mapped, count_first, memory_of}
use Rattle.ev_mem.proofs.Spans.{searched}
use Rattle.ev_mem.proofs.mem.Mem.allocated.Goals as goal

pub all_first_words-requires : goal.all_first_words-requires
all_first_words-requires c = placed c.args.regions.now c.args.text.now c.requires

pub all_spans-requires : goal.all_spans-requires
all_spans-requires c = omega (arith, count_first c.args.regions.now _ _ c.in_ok-words.ensures)

pub invariant_of-result : goal.invariant_of-result
invariant_of-result c = record {
  mapped = are_mapped c.args.regions.now _ c.args.text.now _ _ c.requires c.in_ok-kept.ensures c.in_ok-words.ensures;
  searched = rw c.in_ok-kept.ensures (searched c.args.regions.now _ c.requires.apart c.in_ok-spans.ensures.same c.in_ok-spans.ensures.sorted);
}

pub returns : goal.returns
returns c = memory_of c.args.regions.now _ c.args.text.now _ c.requires c.in_ok-kept.ensures c.in_ok-words.ensures
