-- Names, registers, keys and sides as tokens. Own.
use Rattle.std.specs.Prelude.{ℕ, suc, ◌+◌, ◌-◌, ◌*◌, Bool, true, false, ◌&&◌, ◌||◌, nat_le, ◌==◌, List, [], ◌∷◌, length, codes, Option, Some, None}
use Rattle.std.specs.List.{list_all}
use Rattle.std.specs.Str.{bytes_eq}
use Rattle.ev_body.specs.declared.key.Key.{Key}
use Rattle.ev_body.specs.declared.key.Key.TheVariants.{Sys, Db, Nmi, Bp, Ud, Ss, Gp, Pf, Ac, Irq}
use Rattle.ev_body.specs.declared.key.Side.{Side}
use Rattle.ev_body.specs.declared.key.Side.TheVariants.{User, Kernel, Both}
use Rattle.ev_io.specs.Number.{is_between}
use Rattle.ev_io.specs.Tokens.{Token}
use Rattle.ev_abstract.specs.EntryText.{register_names, key_text, side_text}

-- ---- names

-- a letter of either case
abbrev pub is_letter : ℕ → Bool
is_letter c = is_between 0x41 0x5a c || is_between 0x61 0x7a c

-- a letter, a digit or `_`
abbrev pub is_name_byte : ℕ → Bool
is_name_byte c = is_letter c || is_between 0x30 0x39 c || c == 0x5f

-- a letter and up to 30 letters, digits or `_`
unfoldable pub is_good_name : Token → Bool
is_good_name [] = false
is_good_name (c ∷ cs) = is_letter c && list_all is_name_byte cs && nat_le (length cs) 30

-- ---- registers

-- the place of a word in a list of words, counted from n
abbrev pub place_from : ℕ → List Token → Token → Option ℕ
place_from n [] t = None
place_from n (w ∷ ws) t = elim (bytes_eq t w) [ true ↦ Some n | false ↦ place_from (suc n) ws t ]

-- the register of this name
unfoldable pub register_of : Token → Option ℕ
register_of t = place_from 0 register_names t

-- ---- keys and sides

-- the value of a digit or a lower letter up to `f`
unfoldable pub low_digit : ℕ → Option ℕ
low_digit c = elim (is_between 0x30 0x39 c) [
  | true ↦ Some (c - 0x30)
  | false ↦ elim (is_between 0x61 0x66 c) [ true ↦ Some (c - 0x57) | false ↦ None ]
]

-- the interrupt of two digits, from 20H on
abbrev pub interrupt : Option ℕ → Option ℕ → Option Key
interrupt (Some x) (Some y) = elim (nat_le 0x20 (16 * x + y)) [ true ↦ Some (Irq (16 * x + y)) | false ↦ None ]
interrupt x y = None

-- `irq` and two lower hexadecimal digits
unfoldable pub interrupt_key : Token → Option Key
interrupt_key (i ∷ r ∷ q ∷ x ∷ y ∷ []) = elim (bytes_eq (i ∷ r ∷ q ∷ []) (codes "irq")) [ true ↦ interrupt (low_digit x) (low_digit y) | false ↦ None ]
interrupt_key _ = None

-- the keys with a name of their own
abbrev pub named_keys : List Key
named_keys = Sys ∷ Db ∷ Nmi ∷ Bp ∷ Ud ∷ Ss ∷ Gp ∷ Pf ∷ Ac ∷ []

-- the key of this name among these, or an interrupt
abbrev pub key_in : List Key → Token → Option Key
key_in [] t = interrupt_key t
key_in (k ∷ ks) t = elim (bytes_eq t (key_text k)) [ true ↦ Some k | false ↦ key_in ks t ]

-- the key of this name
unfoldable pub key_of : Token → Option Key
key_of t = key_in named_keys t

-- the side of this name among these
abbrev pub side_in : List Side → Token → Option Side
side_in [] t = None
side_in (s ∷ ss) t = elim (bytes_eq t (side_text s)) [ true ↦ Some s | false ↦ side_in ss t ]

-- the side of this name
unfoldable pub side_of : Token → Option Side
side_of t = side_in (User ∷ Kernel ∷ Both ∷ []) t
