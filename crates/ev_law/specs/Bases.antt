-- The GS bases of tasks: no line of a script changes them, so that each task keeps the one that the image gives it. Own.
use Rattle.std.specs.Prelude.{◌≡◌, ℕ, [], get_or}
use Rattle.ev_body.specs.declared.image.Image.{Image}
use Rattle.ev_abstract.specs.Machine.{Machine, processor, no_task, opening}
use Rattle.ev_abstract.specs.Run.{line_step}
use Rattle.ev_abstract.specs.declared.script_line.Line.{Line}

-- each task has the GS base that the image gives it
abbrev pub HasBases : Image → Machine → Type 0
HasBases image m = (p i : ℕ) → ((processor m p).tasks i).gs ≡ (get_or (get_or image.tasks p []) i no_task).gs

-- so it is at the opening
abbrev pub OpeningHasBases : Type 0
OpeningHasBases = (image : Image) → HasBases image (opening image)

-- and every line of a script keeps it
abbrev pub LinesKeepBases : Type 0
LinesKeepBases = (image : Image) (m : Machine) (l : Line) → HasBases image m → HasBases image (line_step image m l).0
