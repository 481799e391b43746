-- The lines of instructions that are known. Own.
use Rattle.std.specs.Prelude.{◌≡◌, ℕ, ◌+◌, List, [], ◌∷◌, ◌++◌, length, flat_map, All, None}
use Rattle.ev_isa.specs.declared.instruction.Ins.{Ins}
use Rattle.ev_code.specs.Coding.{IsEncodable}
use Rattle.ev_isa.specs.Spelling.{spelling}
use Rattle.ev_isa.specs.Reading.{reading}
use Rattle.ev_isa.specs.Pages.{text_base}
use Rattle.ev_body.specs.declared.image.Image.{Image}
use Rattle.ev_abstract.specs.EntryText.{Text}
use Rattle.ev_asm_text.specs.AsmText.{instruction_line, asm_text}

-- a line for each instruction, where they stand one behind the other from an address on
unfoldable pub listed : ℕ → List Ins → Text
listed a [] = []
listed a (i ∷ is) = instruction_line a (spelling i) ++ listed (a + length (spelling i)) is

-- a text that instructions spell, with bytes behind them that begin none, has one line for each instruction
abbrev pub InstructionsAreLines : Type 0
InstructionsAreLines =
    (image : Image) (is : List Ins) (rest : List ℕ) → All IsEncodable is → reading rest ≡ None → image.text ≡ flat_map spelling is ++ rest
    → asm_text image ≡ listed text_base is
