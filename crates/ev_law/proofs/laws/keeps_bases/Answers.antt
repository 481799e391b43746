use Rattle.ev_law.proofs.Bases.{opening_has_bases, lines_keep_bases}
use Rattle.ev_law.proofs.laws.keeps_bases.Goals as goal

pub returns-clause-opening : goal.returns-clause-opening
returns-clause-opening c = opening_has_bases

pub returns-clause-line : goal.returns-clause-line
returns-clause-line c = lines_keep_bases
