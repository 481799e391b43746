use Rattle.std.proofs.Common.{◌∙◌, ◌+◌, ◌*◌, subst, sym, arith, List, is_some, ◌≡◌, true}
use Rattle.std.proofs.lemmas.Bool.{eq-eqb}
use Rattle.ev_mem.specs.declared.region.Region.{Region}
use Rattle.ev_mem.specs.Mapped.{memory, slot_in}
use Rattle.ev_listing.specs.AddressMap.{idt_base}
use Rattle.ev_probe.proofs.Filling.{gates_more, other_words, regions_kept, words_put}
use Rattle.ev_probe.proofs.Regions.{table_slot}
use Rattle.ev_probe.proofs.memory.fill_gates.Goals as goal

pub set_word-requires-clause-aligned : goal.set_word-requires-clause-aligned
set_word-requires-clause-aligned c = eq-eqb _ 0 (omega arith)

pub set_word-requires-clause-mapped : goal.set_word-requires-clause-mapped
set_word-requires-clause-mapped c =
    subst (λ (rs : List Region). is_some (slot_in rs (idt_base + 8 * c.loop-n.n)) ≡ true) (sym c.loop-n.invariant.regions)
    (table_slot c.args.bad (idt_base + 8 * c.loop-n.n) (omega arith, omega arith))

pub loop-n-preserved : goal.loop-n-preserved
loop-n-preserved c = record {
  regions = regions_kept _ _ _ _ c.set_word.ensures ∙ c.loop-n.invariant.regions;
  gates = gates_more c.loop-n.n (memory c.loop-n.mem).words (memory c.set_word.new.self).words _ _ c.loop-n.invariant.gates (omega arith)
      (words_put _ _ _ _ c.set_word.ensures) c.idt_word.ensures;
  others = λ a h. words_put _ _ _ _ c.set_word.ensures a ∙ other_words (memory c.loop-n.mem).words c.loop-n.n _ _ a (omega arith) (omega arith) h
      ∙ c.loop-n.invariant.others a h;
}
