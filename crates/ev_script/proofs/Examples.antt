-- Script lines and whole scripts, each cause by its name. Two processors are declared, and NMIs and irq31 have bodies.
use Rattle.std.proofs.Common.{◌≡◌, refl, ℕ, [], ◌∷◌, ◌++◌, Ok, Err}
use Rattle.std.specs.Prelude.{codes, List, Result}
use Rattle.ev_body.specs.declared.key.Key.TheVariants as Key
use Rattle.ev_body.specs.declared.key.Side.TheVariants as Side
use Rattle.ev_body.specs.declared.item.Item.TheVariants as Item
use Rattle.ev_body.specs.Bodies.{key_number}
use Rattle.ev_body.specs.KernelImage.{KernelImage}
use Rattle.ev_io.specs.declared.cause.Cause.{Cause}
use Rattle.ev_io.specs.Number.{number_of, is_decimal, is_hexadecimal, is_digits, digit, value, below_word}
use Rattle.ev_io.specs.Tokens.{pieces, tokens_of, is_passed_over}
use Rattle.ev_io.specs.InputLines.{lines_of, text_of, byte_fault, fault_from}
use Rattle.ev_io.specs.Follow.{read, line_follows, tokens_follow}
use Rattle.ev_abstract.specs.EntryText.{key_text}
use Rattle.ev_abstract.specs.declared.script_line.Line.{Line}
use Rattle.ev_line.specs.Names.{low_digit, interrupt_key, key_of}
use Rattle.ev_line.specs.Operands as operand
use Rattle.ev_line.specs.Operands.{number, number_within, processor, key, sent_key, key_of_body}
use Rattle.ev_line.specs.Forms.{same_kind, kind_of, kind_among, takes, kind_here, is_shaped, fitting, read_places, read_form, read_fitting, read_forms, read_by}
use Rattle.ev_script.specs.ScriptLine.{word_of, forms_of_word, line_of_tokens, line_of}
use Rattle.ev_script.specs.Script.{one_more, ends, said, follows, whole, read_script}

abbrev image : KernelImage
image = record {
  processors = 2;
  nest = 1;
  pages = [];
  cells = [];
  text = [];
  tasks = [];
  bodies =
      record { key = Key.Nmi; side = Side.Both; items = Item.Ret ∷ []; parts = [] } ∷ record {
        key = Key.Irq 0x31;
        side = Side.Both;
        items =
            Item.Ret ∷ [];
        parts = [];
      } ∷ [];
}

unfoldable reading_lines : List ℕ
unfolding number_of is_decimal is_hexadecimal is_digits digit value below_word pieces tokens_of key_text key_number low_digit interrupt_key key_of
    operand.value number number_within processor key sent_key key_of_body
    same_kind kind_of kind_among takes kind_here is_shaped fitting read_places read_form read_fitting read_forms read_by word_of forms_of_word line_of_tokens
reading_lines = []

abbrev said_by : List (List ℕ) → List (Result Line Cause)
said_by [] = []
said_by (text ∷ texts) = line_of text image ∷ said_by texts

good_lines : said_by (codes "turn 1" ∷ codes " edge  0 0x1000 " ∷ codes "arrive 0 irq31" ∷ codes "accept 0" ∷ [])
    ≡ Ok (Line.Turn 1) ∷ Ok (Line.Edge 0 4096) ∷ Ok (Line.Arrive 0 (Key.Irq 0x31)) ∷ Ok (Line.Accept 0) ∷ []
unfolding reading_lines
good_lines = refl

bad_lines : said_by (codes "jump 1" ∷ codes "turn" ∷ codes "turn x y" ∷ codes "turn 01" ∷ codes "turn 2" ∷ codes "edge 0 0" ∷ codes "edge 2 0"
    ∷ codes "arrive 0 pf" ∷ codes "arrive 0 irq32" ∷ [])
    ≡ Err Cause.Word ∷ Err Cause.Count ∷ Err Cause.Count ∷ Err Cause.Number ∷ Err Cause.NoSuchProcessor ∷ Err Cause.Limit ∷ Err Cause.NoSuchProcessor
    ∷ Err Cause.Name ∷ Err Cause.NoBody ∷ []
unfolding reading_lines
bad_lines = refl

-- ---- scripts behind seven lines of a hundred bytes

unfoldable reading_scripts : List ℕ
unfolding reading_lines is_passed_over lines_of text_of byte_fault fault_from read line_follows tokens_follow one_more ends said follows whole read_script
reading_scripts = []

abbrev script_of : List ℕ → Result (List Line) (ℕ × Cause)
script_of bytes = read_script image 7 100 (lines_of bytes)

good_script : script_of (codes "turn 0\n\n # a comment\nedge 1 5\nend\n  \n#") ≡ Ok (Line.Turn 0 ∷ Line.Edge 1 5 ∷ [])
unfolding reading_scripts
good_script = refl

no_end : script_of (codes "turn 0\n#\n") ≡ Err (9, Cause.NoEnd)
unfolding reading_scripts
no_end = refl

after_end : script_of (codes "end\n\nturn 0") ≡ Err (10, Cause.AfterEnd)
unfolding reading_scripts
after_end = refl

end_with_token : script_of (codes "end 0") ≡ Err (8, Cause.Count)
unfolding reading_scripts
end_with_token = refl

bad_line : script_of (codes "turn 0\nturn 2\nend") ≡ Err (9, Cause.NoSuchProcessor)
unfolding reading_scripts
bad_line = refl

strange_byte : script_of (codes "turn 0\n# " ++ 9 ∷ codes "\nturn 2\nend") ≡ Err (9, Cause.NotAscii)
unfolding reading_scripts
strange_byte = refl

-- byte 8,388,609 of the input stands in the second line
too_large : read_script image 7 8388600 (lines_of (codes "turn 0\nturn 0\nend")) ≡ Err (9, Cause.TooLarge)
unfolding reading_scripts
too_large = refl
