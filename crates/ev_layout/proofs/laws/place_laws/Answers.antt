use Rattle.ev_layout.proofs.ExactPlaces.{exact}
use Rattle.ev_layout.proofs.laws.place_laws.Goals as goal

pub returns : goal.returns
returns c = exact
