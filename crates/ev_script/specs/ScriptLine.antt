-- The lines of a script. They depend on the image only by its number of processors and by the keys that have bodies. Own.
use Rattle.std.specs.Prelude.{ℕ, List, [], ◌∷◌, map, codes, Option, Some, None, true, false, Result}
use Rattle.std.specs.Str.{bytes_eq}
use Rattle.ev_body.specs.declared.body.Body.{Body}
use Rattle.ev_body.specs.Bodies.{key_number}
use Rattle.ev_body.specs.KernelImage.{KernelImage}
use Rattle.ev_io.specs.declared.cause.Cause.{Cause}
use Rattle.ev_io.specs.Tokens.{Token, tokens_of}
use Rattle.ev_abstract.specs.declared.script_line.Line.{Line}
use Rattle.ev_line.specs.Operands.{Processor, Within, KeyOfBody}
use Rattle.ev_line.specs.Forms.{Form, form, read_by}
use Rattle.ev_script.specs.declared.line.Word.{Word}

-- the word of a script line
unfoldable pub word_of : Token → Option Word
word_of t = elim (bytes_eq t (codes "turn")) [
  | true ↦ Some Word.Turn
  | false ↦ elim (bytes_eq t (codes "edge")) [
    | true ↦ Some Word.Edge
    | false ↦ elim (bytes_eq t (codes "arrive")) [
      | true ↦ Some Word.Arrive
      | false ↦ elim (bytes_eq t (codes "accept")) [ true ↦ Some Word.Accept | false ↦ None ]
    ]
  ]
]

-- the forms of each word, where so many processors are declared and these keys have bodies
unfoldable pub forms_of_word : (processors : ℕ) (keys : List ℕ) → Option Word → List (Form Line)
forms_of_word processors keys (Some Word.Turn) = form (Processor processors ∷ []) (λ p. Line.Turn p) ∷ []
forms_of_word processors keys (Some Word.Edge) = form (Processor processors ∷ Within 1 4096 ∷ []) (λ p n. Line.Edge p n) ∷ []
forms_of_word processors keys (Some Word.Arrive) = form (Processor processors ∷ KeyOfBody keys ∷ []) (λ p key. Line.Arrive p key) ∷ []
forms_of_word processors keys (Some Word.Accept) = form (Processor processors ∷ []) (λ p. Line.Accept p) ∷ []
forms_of_word processors keys None = []

-- the forms of a line by its first token
abbrev pub script_forms : (processors : ℕ) (keys : List ℕ) → Token → List (Form Line)
script_forms processors keys t = forms_of_word processors keys (word_of t)

-- the keys that have bodies, by their numbers
abbrev pub keys_with_bodies : KernelImage → List ℕ
keys_with_bodies image = map (λ (b : Body). key_number b.key) image.bodies

-- the script line that tokens say, or its cause
unfoldable pub line_of_tokens : KernelImage → List Token → Result Line Cause
line_of_tokens image ts = read_by (script_forms image.processors (keys_with_bodies image)) ts

-- the script line that a text says, or its cause
abbrev pub line_of : List ℕ → KernelImage → Result Line Cause
line_of text image = line_of_tokens image (tokens_of text)
