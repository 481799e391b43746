-- Cells that were given, and the tasks of processors.
use Rattle.std.proofs.Common.{◌≡◌, ℕ, Bool, ◌+◌, List, [], ◌∷◌, ◌++◌, map, refl, ap, add-one}
use Rattle.std.specs.Prelude.{◌==◌, ◌||◌}
use Rattle.std.specs.List.{list_any}
use Rattle.ev_image.specs.declared.kernel.TaskLine.{TaskLine}
use Rattle.ev_image.specs.Head.{tasks_by, tasks_of}
use Rattle.ev_line.specs.Operands.{among}

pub cells_given : (cs : List (ℕ × ℕ)) (i : ℕ) → list_any (λ (e : ℕ × ℕ). e.0 == i) cs ≡ among (map (λ (e : ℕ × ℕ). e.0) cs) i
cells_given [] i = refl
cells_given (c ∷ cs) i = ap (λ (b : Bool). (c.0 == i) || b) (cells_given cs i)

-- the tasks of no processor, and of one more
pub no_tasks : (ts : List TaskLine) → tasks_by ts 0 ≡ []
unfolding tasks_by
no_tasks ts = refl

pub tasks_more : (ts : List TaskLine) (p : ℕ) → tasks_by ts (p + 1) ≡ tasks_by ts p ++ tasks_of ts p ∷ []
unfolding tasks_by
tasks_more ts p = rw add-one refl
