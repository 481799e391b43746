-- The marks by address, as the program looks them up. Own.
use Rattle.std.specs.Prelude.{◌≡◌, ℕ, ◌==◌, if◌then◌else◌, nat_eq, List, [], ◌∷◌, Option, Some, None}
use Rattle.std.specs.HashMap.{HashMap, get}
use Rattle.ev_layout.specs.declared.mark.Mark.{Mark}

-- the first mark that a list has for an address
unfoldable pub first_mark : List (ℕ × Mark) → ℕ → Option Mark
first_mark [] a = None
first_mark (e ∷ es) a = if e.0 == a then Some e.1 else first_mark es a

-- the index has the first mark of each address in the list
abbrev pub IsIndex : {S : Type 0} → List (ℕ × Mark) → HashMap ℕ Mark S → Type 0
IsIndex marks index = (a : ℕ) → get nat_eq index a ≡ first_mark marks a
