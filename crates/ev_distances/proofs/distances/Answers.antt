use Rattle.ev_distances.proofs.Spans as spans
use Rattle.ev_distances.proofs.Windows as windows
use Rattle.ev_distances.proofs.distances.Goals as goal

pub returns : goal.returns
returns c = record {
  far = λ e f W O ss ts h k a. spans.far e f W O ss ts h k a;
  apart = λ e W O ss ts h k a. windows.sep e W O ss ts h k a;
  accessible = λ e regions W ss h a r. windows.open_ok e regions W ss h a r;
}
