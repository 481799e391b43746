use Rattle.std.proofs.Common.{◌≡◌, ℕ, ◌*◌, ◌++◌, map}
use Rattle.ev_isa.specs.Word.{numbers_from}
use Rattle.ev_mem.specs.Conditions.{first_by}
use Rattle.ev_mem.proofs.opening.append_region.Given as goal

abbrev pub invariant-loop-k : goal.invariant-loop-k
invariant-loop-k l = l.words.items ≡ l.initial.words.items ++ map (λ (k : ℕ). first_by l.r.kind l.text (8 * k)) (numbers_from 0 l.k)
