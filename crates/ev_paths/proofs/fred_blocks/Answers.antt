use Rattle.ev_paths.proofs.FredEnds.{fred_enters, fred_returns, fred_untold}
use Rattle.ev_paths.proofs.Cells.{fred_cells}
use Rattle.ev_paths.proofs.Lines.{fred_stand}
use Rattle.ev_paths.proofs.fred_blocks.Goals as goal

pub returns : goal.returns
returns c = record { enters = fred_enters; returns = fred_returns; cr2 = fred_untold; lines = fred_stand; cells = λ code f. fred_cells code f }
