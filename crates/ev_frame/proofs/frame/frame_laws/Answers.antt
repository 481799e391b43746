use Rattle.ev_frame.proofs.FrameLaws.{is_read, is_written}
use Rattle.ev_frame.proofs.frame.frame_laws.Goals as goal

pub returns : goal.returns
returns c = record { is_read = is_read; is_written = is_written }
