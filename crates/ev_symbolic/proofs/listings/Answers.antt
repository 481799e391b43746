use Rattle.ev_symbolic.proofs.Parts as proof
use Rattle.ev_symbolic.proofs.listings.Goals as goal

pub returns : goal.returns
returns c = record { parts = proof.parts_stand }
