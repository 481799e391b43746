use Rattle.std.proofs.Common.{sym}
use Rattle.ev_asm.proofs.LabelLaws.{place_found, place_lost}
use Rattle.ev_asm.proofs.label_table.Labels.place_of.Goals as goal

pub returns-in-Some : goal.returns-in-Some
returns-in-Some c = place_found c.args.self.now c.args.name.now c.in-Some.place (sym c.in-Some.ensures)

pub returns-in-None : goal.returns-in-None
returns-in-None c = place_lost c.args.self.now c.args.name.now (sym c.in-None.ensures)
