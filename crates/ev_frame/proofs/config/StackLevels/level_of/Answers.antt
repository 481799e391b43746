use Rattle.std.proofs.Common.{◌≡◌, ◌*◌, ◌/◌, ◌^◌, true, nat_lt, ◌∙◌}
use Rattle.std.proofs.lemmas.Bool.{lt-ltb}
use Rattle.std.proofs.lemmas.Nat.{and_mask}
use Rattle.ev_frame.proofs.Fields.{four_pow, two_bits}
use Rattle.ev_frame.proofs.config.StackLevels.level_of.Goals as goal

pub returns-clause-value : goal.returns-clause-value
returns-clause-value c =
    let below : nat_lt c.args.vector 32 ≡ true = lt-ltb c.args.vector 32 c.requires in
    rw (below, four_pow c.args.vector) (and_mask (c.args.self.now.0 / 2 ^ (2 * c.args.vector)) 2)

pub returns-clause-bits : goal.returns-clause-bits
returns-clause-bits c = and_mask (c.args.self.now.0 / 2 ^ (2 * c.args.vector)) 2 ∙ two_bits c.args.self.now.0 (2 * c.args.vector)
