use Rattle.ev_grounds.proofs.Grounds as proof
use Rattle.ev_grounds.proofs.windows.Goals as goal

pub returns : goal.returns
returns c = record {
  fit = λ mode s. proof.windows_fit mode s;
  inner = proof.inner_is_apart;
  others = λ s t h. proof.others_apart s t h;
  deeper = λ layout t h. proof.deeper_apart layout t h;
  grounded = λ n mode e x s h. proof.all_grounded n mode e x s h;
}
