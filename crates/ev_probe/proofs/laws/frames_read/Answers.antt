use Rattle.ev_probe.proofs.FramesRead.{frames_read}
use Rattle.ev_probe.proofs.laws.frames_read.Goals as goal

pub returns : goal.returns
returns c = frames_read
