use Rattle.std.proofs.Common.{◌∙◌, ◌+◌, subst, sym, arith, List, is_some, ◌≡◌, true}
use Rattle.std.proofs.lemmas.Bool.{eq-eqb}
use Rattle.ev_mem.specs.declared.region.Region.{Region}
use Rattle.ev_mem.specs.Mapped.{slot_in}
use Rattle.ev_listing.specs.AddressMap.{pcpu}
use Rattle.ev_probe.proofs.Filling.{regions_kept, words_put}
use Rattle.ev_probe.proofs.Regions.{area_slot}
use Rattle.ev_probe.proofs.memory.put.Goals as goal

pub set_word-requires-clause-aligned : goal.set_word-requires-clause-aligned
set_word-requires-clause-aligned c = eq-eqb _ 0 (omega arith)

pub set_word-requires-clause-mapped : goal.set_word-requires-clause-mapped
set_word-requires-clause-mapped c =
    subst (λ (rs : List Region). is_some (slot_in rs (pcpu 0 + c.args.offset)) ≡ true) (sym c.requires.regions)
    (area_slot c.args.bad (pcpu 0 + c.args.offset) (omega arith) (omega arith))

pub returns-clause-regions : goal.returns-clause-regions
returns-clause-regions c = regions_kept _ _ _ _ c.set_word.ensures ∙ c.requires.regions

pub returns-clause-words : goal.returns-clause-words
returns-clause-words c = words_put _ _ _ _ c.set_word.ensures
