use Rattle.ev_user.proofs.Opened.{opening_sees}
use Rattle.ev_user.proofs.Places.{pages_fault_alike, kernel_faults_alike}
use Rattle.ev_user.proofs.Fetch.{reads_alike}
use Rattle.ev_user.proofs.reads.Goals as goal

pub returns : goal.returns
returns c = record { opening = opening_sees; faults = pages_fault_alike; kernel_faults = kernel_faults_alike; text = reads_alike }
