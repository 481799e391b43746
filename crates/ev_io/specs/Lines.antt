-- Lines of an input. Own.
use Rattle.std.specs.Prelude.{◌≡◌, ◌<◌, ◌≤◌, ◌⊎◌, ℕ, ◌+◌, ◌-◌, min, Bool, ◌&&◌, List, [], ◌∷◌, ◌++◌, length, take, drop, nat_eq, nat_le, if◌then◌else◌, Option, Some, None, Result, Ok, Err, IfSome, true, false, All}
use Rattle.std.specs.List.{prefix_len}
use Rattle.std.specs.Option.{option_map}
use Rattle.std.specs.Io.KnownBytes.{prepend_known}
use Rattle.ev_io.specs.Transfer.{Rose}
use Rattle.ev_io.specs.declared.lines.LineFault.{LineFault}
use Rattle.ev_io.specs.declared.lines.LineFault.TheVariants.{ReadFault, TooLong, TooLarge, NotAscii}

-- what comes of the bytes of an input: a line, with what stands behind it and how many bytes are gone by then; no line; or a fault
pub data Outcome : Type 0 where
  Line : (text rest : List ℕ) (gone : ℕ) → Outcome
  End : Outcome
  Bad : LineFault → Outcome

-- whether a byte is one of 20H to 7EH
abbrev pub is_printable : ℕ → Bool
is_printable b = nat_le 32 b && nat_le b 126

-- the same as a fact
abbrev pub IsPrintable : ℕ → Type 0
IsPrintable b = is_printable b ≡ true

-- where a line ends or is refused: behind its printable bytes, at 4,096 bytes, or where 8,388,608 bytes of the input are gone
abbrev pub stop_of : ℕ → List ℕ → ℕ
stop_of gone bytes = min (prefix_len is_printable bytes) (min 4096 (8388608 - gone))

-- at the end of the input
abbrev pub last_line : ℕ → List ℕ → Outcome
last_line gone [] = End
last_line gone (c ∷ cs) = Line (c ∷ cs) [] (gone + length (c ∷ cs))

-- what comes of a text and what stands behind it, by the first byte there
abbrev pub outcome_at : ℕ → ℕ → List ℕ → List ℕ → Outcome
outcome_at number gone text [] = last_line gone text
outcome_at number gone text (b ∷ rest) =
    if nat_le 8388608 (gone + length text) then Bad (TooLarge number)
    else (if nat_eq b 10 then Line text rest (gone + length text + 1)
    else (if nat_le 4096 (length text) then Bad (TooLong number)
    else Bad (NotAscii number (length text))))

-- what comes of the bytes to come as a line of that number, before which so many bytes of the input are gone
unfoldable pub outcome : ℕ → ℕ → List ℕ → Outcome
outcome number gone bytes = outcome_at number gone (take (stop_of gone bytes) bytes) (drop (stop_of gone bytes) bytes)

-- the same where the bytes are told
abbrev pub outcomes : ℕ → ℕ → Option (List ℕ) → Option Outcome
outcomes number gone bytes = option_map (outcome number gone) bytes

-- the bytes that are still to come, where told: those read and not yet given, and those left
abbrev pub coming : List ℕ → Option (List ℕ) → Option (List ℕ)
coming chunk left = prepend_known chunk left

-- what contracts see of a reader of lines
pub record Reading : Type 0 where
  pub chunk : List ℕ  -- bytes that were read and not yet given
  pub text : List ℕ  -- the last line
  pub number : ℕ  -- its number
  pub gone : ℕ  -- how many bytes of the input are gone

-- how many bytes were read
abbrev pub drawn : Reading → ℕ
drawn r = r.gone + length r.chunk

-- an answer is what comes of the bytes, where they are told; of a reading fault nothing is said
abbrev pub Answers : Option Outcome → Result Bool LineFault → List ℕ → ℕ → Option (List ℕ) → Type 0
Answers o (Ok true) text gone rest = o ≡ option_map (λ ys. Line text ys gone) rest
Answers o (Ok false) text gone rest = IfSome o (λ x. x ≡ End)
Answers o (Err ReadFault) text gone rest = Unit {0}
Answers o (Err (TooLong n)) text gone rest = IfSome o (λ x. x ≡ Bad (TooLong n))
Answers o (Err (TooLarge n)) text gone rest = IfSome o (λ x. x ≡ Bad (TooLarge n))
Answers o (Err (NotAscii n k)) text gone rest = IfSome o (λ x. x ≡ Bad (NotAscii n k))

-- the same for an answer with the number of the line
abbrev pub Gives : Option Outcome → Reading → Option (List ℕ) → Result (Option ℕ) LineFault → Type 0
Gives o new rest (Ok (Some n)) = Answers o (Ok true) new.text new.gone rest
Gives o new rest (Ok None) = Answers o (Ok false) new.text new.gone rest
Gives o new rest (Err f) = Answers o (Err f) new.text new.gone rest

-- a line that is given has the next number
abbrev pub Numbers : ℕ → ℕ → Result (Option ℕ) LineFault → Type 0
Numbers old new (Ok (Some n)) = (n ≡ old + 1) × (new ≡ old + 1)
Numbers old new (Ok None) = new ≡ old
Numbers old new (Err f) = new ≡ old

-- a fault of reading is counted, and with any other answer none is
abbrev pub CountsRead : {T : Type 0} → ℕ → ℕ → Result T LineFault → Type 0
CountsRead before now (Err ReadFault) = Rose before now
CountsRead before now _ = now ≡ before

-- a line and a line feed and the rest are the bytes, or a last line that lacks the line feed is
pub record IsFirstLine (line rest bytes : List ℕ) : Type 0 where
  pub printable : All IsPrintable line
  pub short : length line ≤ 4096
  pub whole : (bytes ≡ line ++ 10 ∷ rest) ⊎ ((bytes ≡ line) × (rest ≡ []) × (0 < length line))

-- the line is the first one of the bytes to come, and the rest is to come then
abbrev pub TakesLine : List ℕ → Option (List ℕ) → Option (List ℕ) → Type 0
TakesLine line old new = (bytes : List ℕ) → old ≡ Some bytes → (rest : List ℕ) × (new ≡ Some rest) × IsFirstLine line rest bytes

-- a line that is given is the first one of the bytes to come; none is given only where none is to come
abbrev pub First : Option (List ℕ) → Reading → Option (List ℕ) → Result (Option ℕ) LineFault → Type 0
First old new rest (Ok (Some n)) = TakesLine new.text old rest
First old new rest (Ok None) = IfSome old (λ bytes. bytes ≡ [])
First old new rest (Err f) = Unit {0}

-- what was read of a line of which no byte was refused, where so many bytes of the input stand before the line
pub record IsPart (before : ℕ) (part : List ℕ) : Type 0 where
  pub printable : All IsPrintable part
  pub short : length part ≤ 4096
  pub within : before + length part ≤ 8388608

-- of the bytes to come a part of a line and these bytes behind it are gone
pub record StopsBehind (bad : List ℕ) (before : ℕ) (old : Option (List ℕ)) (part : List ℕ) (gone : ℕ) (rest : Option (List ℕ)) : Type 0 where
  pub clean : IsPart before part
  pub drawn : old ≡ prepend_known (part ++ bad) rest
  pub counted : gone ≡ before + length part + length bad

-- At a fault what was read of the line is gone, and of its bytes at most the refused one: byte 8,388,609 is still to come.
abbrev pub Stops : {T : Type 0} → Result T LineFault → ℕ → Option (List ℕ) → List ℕ → ℕ → Option (List ℕ) → Type 0
Stops (Err ReadFault) before old part gone rest = StopsBehind [] before old part gone rest
Stops (Err (TooLarge n)) before old part gone rest = StopsBehind [] before old part gone rest
Stops (Err (TooLong n)) before old part gone rest = (b : ℕ) × StopsBehind (b ∷ []) before old part gone rest
Stops (Err (NotAscii n k)) before old part gone rest = (b : ℕ) × StopsBehind (b ∷ []) before old part gone rest
Stops (Ok x) before old part gone rest = Unit {0}
