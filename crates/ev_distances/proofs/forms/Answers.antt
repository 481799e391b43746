use Rattle.ev_distances.proofs.ByForm as proof
use Rattle.ev_distances.proofs.forms.Goals as goal

pub returns : goal.returns
returns c = record {
  apart = λ n e x fs gs f g t. proof.forms_apart n e x fs gs f g t;
  open_words = λ image e x fs f. proof.forms_open image e x fs f;
  processors = λ n e e' x y fs gs f g h. proof.two_processors n e e' x y fs gs f g h;
  stacks = λ n e e' x y fs gs f g h k t. proof.two_stacks n e e' x y fs gs f g h k t;
  depth = λ n e e' x y fs gs f g h t. proof.by_depth n e e' x y fs gs f g h t;
  top = λ n e e' x y fs gs f g h t. proof.one_top n e e' x y fs gs f g h t;
}
