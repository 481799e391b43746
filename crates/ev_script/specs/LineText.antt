-- The text of a script line. Own.
use Rattle.std.specs.Prelude.{List, [], ◌∷◌, codes, decimal}
use Rattle.ev_abstract.specs.EntryText.{Text, words, key_text}
use Rattle.ev_abstract.specs.declared.script_line.Line.{Line}
use Rattle.ev_abstract.specs.declared.script_line.Line.TheVariants.{Turn, Edge, Arrive, Accept}

-- its words
unfoldable pub line_words : Line → List Text
line_words (Turn p) = codes "turn" ∷ decimal p ∷ []
line_words (Edge p n) = codes "edge" ∷ decimal p ∷ decimal n ∷ []
line_words (Arrive p key) = codes "arrive" ∷ decimal p ∷ key_text key ∷ []
line_words (Accept p) = codes "accept" ∷ decimal p ∷ []

-- its words, with one space between them
abbrev pub line_text : Line → Text
line_text line = words (line_words line)
