-- The marks of visible instructions as the program keeps them. Own.
use Rattle.std.specs.Prelude.{ℕ, List, map}
use Rattle.ev_listing.specs.Marks
use Rattle.ev_layout.specs.KeptCode.{KeptCode}
use Rattle.ev_layout.specs.declared.mark.Mark.{Mark}
use Rattle.ev_layout.specs.declared.mark.Mark.TheVariants.{Never, Always, IfNonzero, IfEqual}

-- a mark as the listings have it
abbrev pub mark_of : Mark → Marks.Mark
mark_of Never = Marks.Never
mark_of Always = Marks.Always
mark_of IfNonzero = Marks.IfNonzero
mark_of IfEqual = Marks.IfEqual

-- marks with their addresses as the listings have them
abbrev pub listed : List (ℕ × Mark) → List (ℕ × Marks.Mark)
listed es = map (λ (e : ℕ × Mark). (e.0, mark_of e.1)) es

-- those of kept code
abbrev pub marks_in : KeptCode → List (ℕ × Marks.Mark)
marks_in code = listed code.marks
