use Rattle.ev_symbolic.proofs.Single as proof
use Rattle.ev_symbolic.proofs.instructions.Goals as goal

pub returns : goal.returns
returns c = record { single = proof.singles }
