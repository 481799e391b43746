use Rattle.ev_fetch.proofs.Text.{text_fetches}
use Rattle.ev_fetch.proofs.InCode.{stays_in_code}
use Rattle.ev_fetch.proofs.Kernel.{kernel_fetches}
use Rattle.ev_fetch.proofs.AllSpelled.{bodies_are_spelled}
use Rattle.ev_fetch.proofs.Ruled.{accepted_are_spelled}
use Rattle.ev_fetch.proofs.fetches.Goals as goal

pub returns : goal.returns
returns c = record {
  kernel = kernel_fetches;
  spelled = bodies_are_spelled;
  accepted = accepted_are_spelled;
  text = text_fetches;
  inside = stays_in_code;
}
