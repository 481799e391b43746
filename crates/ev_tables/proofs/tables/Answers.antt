use Rattle.ev_tables.proofs.Stand as proof
use Rattle.ev_tables.proofs.Stacks.{stacks_stand}
use Rattle.ev_tables.proofs.tables.Goals as goal

pub returns : goal.returns
returns c = record { stand = proof.stand; gates = proof.gates_stand; stacks = stacks_stand }
