-- Words behind others on a line. Own.
use Rattle.std.specs.Prelude.{◌∷◌, List, flat_map}
use Rattle.ev_abstract.specs.EntryText.{Text}

-- each with a space before it
abbrev pub spaced : List Text → Text
spaced ws = flat_map (λ w. 32 ∷ w) ws
