use Rattle.ev_gate.proofs.GateLaws.{in_words, is_read, is_written}
use Rattle.ev_gate.proofs.gate.gate_laws.Goals as goal

pub returns : goal.returns
returns c = record { in_words = in_words; is_read = is_read; is_written = is_written }
