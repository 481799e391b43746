-- Reading the image of a document's bytes. Own.
use Rattle.std.specs.Prelude.{◌≡◌, ℕ, ◌+◌, List, [], ◌∷◌, length, Option, Some, None, Result, Ok, Err}
use Rattle.ev_body.specs.KernelImage.{KernelImage}
use Rattle.ev_io.specs.declared.cause.Cause.{Cause}
use Rattle.ev_io.specs.declared.lines.LineFault.{LineFault}
use Rattle.ev_io.specs.Lines.{Reading}
use Rattle.ev_io.specs.Transfer.{Rose}
use Rattle.ev_io.specs.Tokens.{Token, tokens_of}
use Rattle.ev_io.specs.InputLines.{lines_of}
use Rattle.ev_io.specs.Follow.{line_follows, FollowsPart}
use Rattle.ev_image.specs.declared.head.Head.{Head}
use Rattle.ev_image.specs.declared.reading.ImageFault.{ImageFault}
use Rattle.ev_image.specs.Head.{head_follows}

-- An image, with the number of its line `script`, the number of bytes through it, and the lines behind it.
pub record Opened : Type 0 where
  pub image : KernelImage
  pub lines : ℕ
  pub bytes : ℕ
  pub behind : List (List ℕ)

-- the image that stands where the line `script` was read
abbrev pub image_in : Head → Option KernelImage
image_in (Head.Opened image) = Some image
image_in _ = None

-- The image of these lines, where n lines of so many bytes of the input stand before them and a head stands; or the first line that doesn't follow,
-- with its cause; or NoEnd at the last line where no line is `script`. Reading ends at `script`.
unfoldable pub opened : (n before : ℕ) → Head → List (List ℕ) → Result Opened (ℕ × Cause)
opened n before head [] = Err (n, Cause.NoEnd)
opened n before head (line ∷ lines) = elim (line_follows head_follows before head line) [
  | Err cause ↦ Err (n + 1, cause)
  | Ok next ↦ elim (image_in next) [
    | Some image ↦ Ok (record { image = image; lines = n + 1; bytes = before + length line; behind = lines })
    | None ↦ opened (n + 1) (before + length line) next lines
  ]
]

-- a fault of the reader of lines, as a fault of the image
abbrev pub fault_of : LineFault → ImageFault
fault_of LineFault.ReadFault = ImageFault.Read
fault_of (LineFault.TooLarge n) = ImageFault.BadLine n Cause.TooLarge
fault_of (LineFault.TooLong n) = ImageFault.BadLine n Cause.TooLong
fault_of (LineFault.NotAscii n k) = ImageFault.BadLine n Cause.NotAscii

-- the answer for the line of a number, by what the line does: what stands behind it, or its cause, unless memory was refused
abbrev pub Follows : ℕ → Result Head Cause → Result Head ImageFault → Type 0
Follows n said (Ok head) = said ≡ Ok head
Follows n said (Err ImageFault.NoMemory) = Unit {0}
Follows n said (Err fault) = (cause : Cause) × (fault ≡ ImageFault.BadLine n cause) × (said ≡ Err cause)

-- the answer for the next line that is said, which a reader gave, where it stands so behind it
abbrev pub AnswersLine : Head → Reading → Result (Option ℕ) LineFault → Result Head ImageFault → Type 0
AnswersLine head now (Ok (Some n)) result = Follows n (head_follows head (tokens_of now.text)) result
AnswersLine head now (Ok None) result = result ≡ Err (ImageFault.BadLine now.number Cause.NoEnd)
AnswersLine head now (Err fault) result = result ≡ Err (fault_of fault)

-- what stands behind lines of these tokens, the last of them first
abbrev pub ReachedBy : List (List Token) → Head → Type 0
ReachedBy [] head = head ≡ Head.Image
ReachedBy (ts ∷ before) head = (last : Head) × ReachedBy before last × (head_follows last ts ≡ Ok head)

-- what stands behind some lines of a document
abbrev pub Reached : Head → Type 0
Reached head = (lines : List (List Token)) × ReachedBy lines head

-- The answer of a reader that stood so before these bytes: the image, with its reader behind the line `script`; or the first refusal; or the source
-- failed, and the lines before had none.
abbrev pub ReadsImage : Reading → List ℕ → Reading → Option (List ℕ) → Result KernelImage ImageFault → Type 0
ReadsImage old bytes new rest (Ok image) = (left : List ℕ) × (rest ≡ Some left)
    × (opened old.number old.gone Head.Image (lines_of bytes) ≡ Ok (record { image = image; lines = new.number; bytes = new.gone; behind = lines_of left }))
ReadsImage old bytes new rest (Err (ImageFault.BadLine n cause)) = opened old.number old.gone Head.Image (lines_of bytes) ≡ Err (n, cause)
ReadsImage old bytes new rest (Err ImageFault.Read) = FollowsPart head_follows old Head.Image bytes new rest
ReadsImage old bytes new rest (Err ImageFault.NoMemory) = Unit {0}

-- a fault of reading is counted, and with any other answer none is
abbrev pub CountsRead : {T : Type 0} → ℕ → ℕ → Result T ImageFault → Type 0
CountsRead before now (Err ImageFault.Read) = Rose before now
CountsRead before now _ = now ≡ before
