-- The text of `asm`: each instruction of the user text with its address and its bytes. Own.
use Rattle.std.specs.Prelude.{ℕ, zero, suc, ◌+◌, ◌/◌, ◌%◌, List, [], ◌∷◌, ◌++◌, length, drop, flat_map, Some, None}
use Rattle.ev_isa.specs.Spelling.{spelling}
use Rattle.ev_isa.specs.Reading.{reading}
use Rattle.ev_isa.specs.Pages.{text_base}
use Rattle.ev_body.specs.declared.image.Image.{Image}
use Rattle.ev_abstract.specs.EntryText.{Text, hex}

-- a byte as two lower hexadecimal digits
abbrev pub two_digits : ℕ → Text
two_digits b = hex (b / 16) ++ hex (b % 16)

-- the line of an instruction that stands at an address with these bytes
abbrev pub instruction_line : ℕ → List ℕ → Text
instruction_line a bytes = hex a ++ 32 ∷ flat_map two_digits bytes ++ 10 ∷ []

-- the lines of the instructions that stand one behind the other from an address on, so many at most
unfoldable pub instruction_lines : ℕ → ℕ → List ℕ → Text
instruction_lines zero a bytes = []
instruction_lines (suc n) a bytes = elim (reading bytes) [
  | None ↦ []
  | Some i ↦ instruction_line a (spelling i) ++ instruction_lines n (a + length (spelling i)) (drop (length (spelling i)) bytes)
]

-- the text of an image's user text
abbrev pub asm_text : Image → Text
asm_text image = instruction_lines (length image.text) text_base image.text
