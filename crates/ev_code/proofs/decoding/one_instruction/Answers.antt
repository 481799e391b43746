use Rattle.ev_code.proofs.Spelled.{one_spelling}
use Rattle.ev_code.proofs.decoding.one_instruction.Goals as goal

pub returns : goal.returns
returns c = one_spelling
