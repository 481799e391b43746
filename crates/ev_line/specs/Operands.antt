-- What may stand at a place of a line, and the value of a token there or its cause. Own.
use Rattle.std.specs.Prelude.{ℕ, ◌+◌, ◌-◌, ℤ, pos, neg_ℤ, Bool, true, false, not, ◌&&◌, ◌||◌, nat_le, nat_lt, ◌==◌, List, [], ◌∷◌, length, take, drop, slice_index, position, codes, Option, Some, None, option_map, Result, Ok, Err}
use Rattle.std.specs.Str.{bytes_eq}
use Rattle.std.specs.List.{list_any}
use Rattle.ev_body.specs.declared.key.Key.{Key}
use Rattle.ev_body.specs.declared.key.Side.{Side}
use Rattle.ev_body.specs.Bodies.{key_number}
use Rattle.ev_body.specs.WellFormed.{is_local, is_sendable}
use Rattle.ev_io.specs.declared.cause.Cause.{Cause}
use Rattle.ev_io.specs.Number.{number_of}
use Rattle.ev_io.specs.Tokens.{Token}
use Rattle.ev_asm.specs.Assembly.{Places, is_name, place}
use Rattle.ev_line.specs.Names.{is_good_name, register_of, key_of, side_of}

-- Places, with what they are told of the lines before:
-- Register, Local: one of the sixteen registers, or of the eight locals. Number: any number. Within: from low to high. Signed: a number of 32 bits with a sign.
-- Memory, Gs: the word at a register and a displacement, or at a displacement from the GS base. Label: a label's name.
-- Processor: one below the count. New: a number up to `high` that isn't taken. NewRegister: a register that isn't taken. TextLabel: a label of the
-- text, with its address.
-- AnyKey, AnySide: a key, a side. SentKey: nmi or an interrupt. KeyOfBody: such a key, which has a body.
pub data Place : Type 0 where
  Register Local Number Signed Memory Gs Label AnyKey AnySide SentKey : Place
  Within : (low high : ℕ) → Place
  Processor : (count : ℕ) → Place
  New : (taken : List ℕ) (high : ℕ) → Place
  NewRegister : (taken : List ℕ) → Place
  TextLabel : Places → Place
  KeyOfBody : (keys : List ℕ) → Place

-- the values of a place
abbrev pub Value : Place → Type 0
Value Register = ℕ
Value Local = ℕ
Value Number = ℕ
Value Signed = ℤ
Value Memory = ℕ × ℤ
Value Gs = ℤ
Value Label = Token
Value AnyKey = Key
Value AnySide = Side
Value SentKey = Key
Value (Within low high) = ℕ
Value (Processor count) = ℕ
Value (New taken high) = ℕ
Value (NewRegister taken) = ℕ
Value (TextLabel places) = ℕ
Value (KeyOfBody keys) = Key

-- ---- values or causes

-- the value where there is one, else the cause
abbrev pub or_else : {X : Type 0} → Cause → Option X → Result X Cause
or_else cause None = Err cause
or_else cause (Some x) = Ok x

-- the value where it passes the test, else the cause
abbrev pub if_it : {X : Type 0} → (X → Bool) → Cause → Result X Cause → Result X Cause
if_it test cause (Err e) = Err e
if_it test cause (Ok x) = elim (test x) [ true ↦ Ok x | false ↦ Err cause ]

-- what is made of the value, or the cause
abbrev pub then_make : {X Y : Type 0} → (X → Y) → Result X Cause → Result Y Cause
then_make f (Err e) = Err e
then_make f (Ok x) = Ok (f x)

-- whether a number is among these
abbrev pub among : List ℕ → ℕ → Bool
among taken n = list_any (λ k. k == n) taken

-- ---- numbers

-- any number
unfoldable pub number : Token → Result ℕ Cause
number t = or_else Cause.Number (number_of t)

-- a number from low to high
unfoldable pub number_within : ℕ → ℕ → Token → Result ℕ Cause
number_within low high t = if_it (λ n. nat_le low n && nat_le n high) Cause.Limit (number t)

-- a displacement: a number up to 7FFFFFFFH, or where it is negative up to 80000000H
unfoldable pub displacement : Bool → Token → Result ℤ Cause
displacement true t = then_make (λ n. neg_ℤ (pos n)) (number_within 0 0x80000000 t)
displacement false t = then_make pos (number_within 0 0x7fffffff t)

-- a number up to 7FFFFFFFH, or `-` and a number up to 80000000H
unfoldable pub signed : Token → Result ℤ Cause
signed [] = Err Cause.Number
signed (c ∷ cs) = elim (c == 0x2d) [ true ↦ displacement true cs | false ↦ displacement false (c ∷ cs) ]

-- the number of a processor below the count
unfoldable pub processor : ℕ → Token → Result ℕ Cause
processor count t = if_it (λ n. nat_lt n count) Cause.NoSuchProcessor (number t)

-- ---- registers, names and keys

-- one of the sixteen registers
unfoldable pub register : Token → Result ℕ Cause
register t = or_else Cause.Name (register_of t)

-- rsi, rdi and r8 to r13
unfoldable pub local : Token → Result ℕ Cause
local t = if_it is_local Cause.Name (register t)

-- the name of a label
unfoldable pub label : Token → Result Token Cause
label t = if_it is_good_name Cause.Name (Ok t)

-- whether a label of this name has a place
abbrev pub has_label : Places → Token → Bool
has_label places name = list_any (λ (e : Token × ℕ). is_name e.0 name) places

-- any key
unfoldable pub key : Token → Result Key Cause
key t = or_else Cause.Name (key_of t)

-- any side
unfoldable pub side : Token → Result Side Cause
side t = or_else Cause.Name (side_of t)

-- nmi or an interrupt
unfoldable pub sent_key : Token → Result Key Cause
sent_key t = if_it is_sendable Cause.Name (key t)

-- such a key, of which there is a body
unfoldable pub key_of_body : List ℕ → Token → Result Key Cause
key_of_body keys t = if_it (λ k. among keys (key_number k)) Cause.NoBody (sent_key t)

-- ---- memory operands: `[`, a register, `+` or `-`, a number, `]`; or `gs:[`, a number, `]`

-- a token without its last character where that is `]`
unfoldable pub closed : Token → Option Token
closed t = elim (bytes_eq (drop (length t - 1) t) (codes "]")) [ true ↦ Some (take (length t - 1) t) | false ↦ None ]

-- what stands behind these first characters
unfoldable pub behind_word : Token → Token → Option Token
behind_word word t = elim (bytes_eq (take (length word) t) word) [ true ↦ Some (drop (length word) t) | false ↦ None ]

-- whether a character is `+` or `-`
abbrev pub is_sign : ℕ → Bool
is_sign c = c == 0x2b || c == 0x2d

-- what stands before the first sign, whether that is `-`, and what stands behind it
unfoldable pub parted : Token → Option (Token × Bool × Token)
parted t = option_map (λ at. (take at t, slice_index t at == 0x2d, drop (at + 1) t)) (position is_sign t)

-- a second step, where the first gives a value
abbrev pub and_then : {X Y : Type 0} → (X → Option Y) → Option X → Option Y
and_then f None = None
and_then f (Some x) = f x

-- the register, sign and number of an operand with its brackets and its sign
unfoldable pub memory_parts : Token → Option (Token × Bool × Token)
memory_parts t = and_then parted (and_then closed (behind_word (codes "[") t))

-- the number of an operand at the GS base with its brackets
unfoldable pub gs_part : Token → Option Token
gs_part t = and_then closed (behind_word (codes "gs:[") t)

-- the register first, then the number
unfoldable pub based : Token → Bool → Token → Result (ℕ × ℤ) Cause
based name negative number = beside (register name) (displacement negative number)
  where
    beside : Result ℕ Cause → Result ℤ Cause → Result (ℕ × ℤ) Cause
    beside (Err e) d = Err e
    beside (Ok b) (Err e) = Err e
    beside (Ok b) (Ok z) = Ok (b, z)

-- a memory operand at a register
unfoldable pub memory : Token → Result (ℕ × ℤ) Cause
memory t = of (memory_parts t)
  where
    of : Option (Token × Bool × Token) → Result (ℕ × ℤ) Cause
    of None = Err Cause.Word
    of (Some e) = based e.0 e.1 e.2

-- a memory operand at the GS base
unfoldable pub gs : Token → Result ℤ Cause
gs t = of (gs_part t)
  where
    of : Option Token → Result ℤ Cause
    of None = Err Cause.Word
    of (Some n) = displacement false n

-- ---- the value of a token at a place, or its cause

-- the value of a token at this place, or its cause
unfoldable pub value : (p : Place) → Token → Result (Value p) Cause
value Register t = register t
value Local t = local t
value Number t = number t
value Signed t = signed t
value Memory t = memory t
value Gs t = gs t
value Label t = label t
value AnyKey t = key t
value AnySide t = side t
value SentKey t = sent_key t
value (Within low high) t = number_within low high t
value (Processor count) t = processor count t
value (New taken high) t = if_it (λ n. not (among taken n)) Cause.Double (number_within 0 high t)
value (NewRegister taken) t = if_it (λ n. not (among taken n)) Cause.Double (register t)
value (TextLabel places) t = then_make (place places) (if_it (has_label places) Cause.NoLabel (label t))
value (KeyOfBody keys) t = key_of_body keys t
