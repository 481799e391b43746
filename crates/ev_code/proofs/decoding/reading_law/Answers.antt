use Rattle.ev_code.proofs.ReadingForms.{reading_again, reading_begins}
use Rattle.ev_code.proofs.decoding.reading_law.Goals as goal

pub returns : goal.returns
returns c = record {
  spelled = reading_again;
  begins = λ bytes i h. let k = reading_begins bytes i h in (k.0, (k.1.0, k.1.1));
}
