-- The forms of a line: a word and what stands at each place behind it. Own.
use Rattle.std.specs.Prelude.{ℕ, suc, Bool, true, false, ◌||◌, ◌==◌, nat_eq, List, [], ◌∷◌, length, filter, filter_map, find, slice_get, is_some, option_map, codes, Option, Some, None, Result, Ok, Err}
use Rattle.std.specs.List.{list_any, list_all, starts_with}
use Rattle.ev_io.specs.declared.cause.Cause.{Cause}
use Rattle.ev_io.specs.Number.{is_between}
use Rattle.ev_io.specs.Tokens.{Token}
use Rattle.ev_line.specs.declared.kind.Kind.{Kind}
use Rattle.ev_line.specs.Names.{register_of}
use Rattle.ev_line.specs.Operands.{Place, Value, value, memory_parts, gs_part}
use Rattle.ev_line.specs.Operands.{Register, Local, Number, Signed, Memory, Gs, Within, Processor, New, NewRegister}

-- what is made of the values of these places
abbrev pub Maker : List Place → Type 0 → Type 0
Maker [] X = X
Maker (p ∷ ps) X = Value p → Maker ps X

-- the places behind a word, and what their values make
pub record Form (X : Type 0) : Type 0 where
  pub places : List Place
  pub made : Maker places X

-- a form of these places
abbrev pub form : {X : Type 0} → (places : List Place) → Maker places X → Form X
form places made = record { places = places; made = made }

-- ---- which kind of operand a token is

-- whether two kinds are one
unfoldable pub same_kind : Kind → Kind → Bool
same_kind Kind.Memory Kind.Memory = true
same_kind Kind.GsMemory Kind.GsMemory = true
same_kind Kind.Number Kind.Number = true
same_kind Kind.Word Kind.Word = true
same_kind Kind.Register Kind.Register = true
same_kind _ _ = false

-- the kind that a place takes
unfoldable pub kind_of : Place → Kind
kind_of Memory = Kind.Memory
kind_of Gs = Kind.GsMemory
kind_of Number = Kind.Number
kind_of Signed = Kind.Number
kind_of (Within low high) = Kind.Number
kind_of (Processor count) = Kind.Number
kind_of (New taken high) = Kind.Number
kind_of Register = Kind.Register
kind_of Local = Kind.Register
kind_of (NewRegister taken) = Kind.Register
kind_of _ = Kind.Word

-- a number begins with a digit or `-`
abbrev pub begins_number : Token → Bool
begins_number [] = false
begins_number (c ∷ cs) = is_between 0x30 0x39 c || c == 0x2d

-- By its first characters, where several kinds may stand: `[` and `gs:[` begin a memory operand, a digit or `-` a number, and all else is a register.
unfoldable pub kind_by_start : Token → Kind
kind_by_start t = elim (starts_with nat_eq t (codes "[")) [
  | true ↦ Kind.Memory
  | false ↦ elim (starts_with nat_eq t (codes "gs:[")) [
    | true ↦ Kind.GsMemory
    | false ↦ elim (begins_number t) [ true ↦ Kind.Number | false ↦ Kind.Register ]
  ]
]

-- The kind of a token where these kinds may stand. Where it is one alone, the token is of that kind. Where a label may stand beside a register, a
-- register's name is a register.
unfoldable pub kind_among : Kind → List Kind → Token → Kind
kind_among k ks t = elim (list_all (same_kind k) ks) [
  | true ↦ k
  | false ↦ elim (list_any (same_kind Kind.Word) (k ∷ ks)) [
    | true ↦ elim (is_some (register_of t)) [ true ↦ Kind.Register | false ↦ Kind.Word ]
    | false ↦ kind_by_start t
  ]
]

-- ---- reading a line by its forms

-- the kind of place n of a form, if it has so many
abbrev pub kind_at : {X : Type 0} → ℕ → Form X → Option Kind
kind_at n f = option_map kind_of (slice_get f.places n)

-- whether a place takes a token of this kind
unfoldable pub takes : Kind → Option Place → Bool
takes k None = false
takes k (Some p) = same_kind (kind_of p) k

-- the kind of a token at a place that has these kinds, if there is such a place
unfoldable pub kind_here : List Kind → Token → Option Kind
kind_here [] t = None
kind_here (k ∷ ks) t = Some (kind_among k ks t)

-- a memory operand has its brackets and its sign
unfoldable pub is_shaped : Kind → Token → Bool
is_shaped Kind.Memory t = is_some (memory_parts t)
is_shaped Kind.GsMemory t = is_some (gs_part t)
is_shaped _ t = true

-- The forms that fit the tokens from place n on, or none where a token is out of place. A token behind the last place of all forms is passed over here.
unfoldable pub fitting : {X : Type 0} → ℕ → List Token → List (Form X) → List (Form X)
fitting n [] forms = forms
fitting n (t ∷ ts) forms = elim (kind_here (filter_map (kind_at n) forms) t) [
  | None ↦ forms
  | Some k ↦ elim (is_shaped k t) [
    | true ↦ fitting (suc n) ts (filter (λ f. takes k (slice_get f.places n)) forms)
    | false ↦ []
  ]
]

-- the tokens at their places, from left to right
unfoldable pub read_places : {X : Type 0} → (ps : List Place) → List Token → Maker ps X → Result X Cause
read_places [] [] x = Ok x
read_places [] (t ∷ ts) x = Err Cause.Count
read_places (p ∷ ps) [] f = Err Cause.Count
read_places (p ∷ ps) (t ∷ ts) f = elim (value p t) [
  | Ok v ↦ read_places ps ts (f v)
  | Err cause ↦ Err cause
]

-- a form whose places are as many as the tokens
unfoldable pub read_form : {X : Type 0} → List Token → Option (Form X) → Result X Cause
read_form ts None = Err Cause.Count
read_form ts (Some f) = read_places f.places ts f.made

-- whether a form has as many places as there are tokens
abbrev pub has_places : {X : Type 0} → List Token → Form X → Bool
has_places ts f = length f.places == length ts

-- a word or an operand out of place first, then a wrong number of tokens, and then the tokens from left to right
unfoldable pub read_fitting : {X : Type 0} → List Token → List (Form X) → Result X Cause
read_fitting ts [] = Err Cause.Word
read_fitting ts (f ∷ fs) = read_form ts (find (has_places ts) (f ∷ fs))

-- the tokens behind a word of these forms
unfoldable pub read_forms : {X : Type 0} → List (Form X) → List Token → Result X Cause
read_forms forms ts = read_fitting ts (fitting 0 ts forms)

-- a line, by the forms of its first token: none where that is no word that may stand there
unfoldable pub read_by : {X : Type 0} → (Token → List (Form X)) → List Token → Result X Cause
read_by forms [] = Err Cause.Word
read_by forms (w ∷ ts) = read_forms (forms w) ts

-- ---- words of one form

-- whether a place takes each token of its kind: all do but memory operands
unfoldable pub is_plain : Place → Bool
is_plain Memory = false
is_plain Gs = false
is_plain p = true

-- the tokens behind a word of one form with plain places: their number first, and then from left to right
unfoldable pub read_only : {X : Type 0} → Form X → List Token → Result X Cause
read_only f ts = elim (has_places ts f) [ true ↦ read_places f.places ts f.made | false ↦ Err Cause.Count ]
