use Rattle.ev_paths.proofs.NmiEnds.{nmi_ends}
use Rattle.ev_paths.proofs.Lines.{nmi_stand}
use Rattle.ev_paths.proofs.nmi_blocks.Goals as goal

pub returns : goal.returns
returns c = record { ends = nmi_ends; lines = nmi_stand }
