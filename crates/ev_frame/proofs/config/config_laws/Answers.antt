use Rattle.ev_frame.proofs.ConfigLaws.{is_read, is_written}
use Rattle.ev_frame.proofs.config.config_laws.Goals as goal

pub returns : goal.returns
returns c = record { is_read = is_read; is_written = is_written }
