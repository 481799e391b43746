use Rattle.ev_gate.proofs.TssLaws.{is_read, is_written}
use Rattle.ev_gate.proofs.tss.tss_laws.Goals as goal

pub returns : goal.returns
returns c = record { is_read = is_read; is_written = is_written }
