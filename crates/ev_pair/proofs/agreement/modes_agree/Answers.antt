use Rattle.ev_pair.proofs.Parts as parts
use Rattle.ev_pair.proofs.agreement.modes_agree.Goals as goal

pub returns : goal.returns
returns c = record {
  agree = λ image script mode. parts.modes_agree image script mode;
  frames = λ image script mode. parts.frames_come_before image script mode;
}
