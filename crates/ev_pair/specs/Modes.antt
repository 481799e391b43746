-- The modes of a run. Own.
use Rattle.std.specs.Prelude.{List, [], ◌∷◌}
use Rattle.ev_isa.specs.declared.mode.Mode.{Mode}
use Rattle.ev_isa.specs.declared.mode.Mode.TheVariants.{Idt, Fred}
use Rattle.ev_pair.specs.declared.modes.Modes.{Modes}
use Rattle.ev_pair.specs.declared.modes.Modes.TheVariants as asked

-- the modes that are asked for, in the order of their lines
abbrev pub modes_of : Modes → List Mode
modes_of asked.Idt = Idt ∷ []
modes_of asked.Fred = Fred ∷ []
modes_of asked.Both = Idt ∷ Fred ∷ []
