-- Probe lines: `probe MODE OPERATION NAME=VALUE ..`, and the one cause of a line that is none. Own.
use Rattle.std.specs.Prelude.{ℕ, ◌+◌, ◌-◌, Bool, true, false, not, ◌&&◌, ◌||◌, nat_le, nat_lt, ◌==◌, bit_or, if◌then◌else◌, List, [], ◌∷◌, take, drop, position, replicate, codes, Option, Some, None, unwrap_or, slice_index_or, slice_set, Result, Ok, Err}
use Rattle.std.specs.Option.{option_map}
use Rattle.std.specs.List.{list_any}
use Rattle.std.specs.Str.{bytes_eq}
use Rattle.ev_isa.specs.Word.{bit, is_canonical, is_aligned}
use Rattle.ev_isa.specs.Flags.{modelled}
use Rattle.ev_isa.specs.declared.mode.Mode.{Mode}
use Rattle.ev_isa.specs.declared.mode.Mode.TheVariants.{Idt, Fred}
use Rattle.ev_event.specs.declared.event.EventType.{EventType}
use Rattle.ev_event.specs.declared.event.Event.{Event}
use Rattle.ev_event.specs.Event.{has_error_code}
use Rattle.ev_io.specs.declared.cause.Cause.{Cause}
use Rattle.ev_io.specs.Tokens.{Token}
use Rattle.ev_line.specs.Names.{place_from}
use Rattle.ev_line.specs.Operands.{number}
use Rattle.ev_listing.specs.AddressMap.{stack_top, stack_bytes}
use Rattle.ev_probe.specs.declared.line.Op.{Op}
use Rattle.ev_probe.specs.declared.line.Values.{Values}
use Rattle.ev_probe.specs.declared.line.ProbeLine.{ProbeLine}

-- ---- settings

-- the names, each with its place
abbrev pub setting_names : List Token
setting_names = codes "vector" ∷ codes "type" ∷ codes "error" ∷ codes "info" ∷ codes "cpl" ∷ codes "rip" ∷ codes "flags" ∷ codes "rsp" ∷ codes "level"
    ∷ codes "sti" ∷ codes "nmi" ∷ codes "stklvls" ∷ codes "bad" ∷ codes "w0" ∷ codes "w1" ∷ codes "w2" ∷ codes "w3" ∷ codes "w4" ∷ codes "w5"
    ∷ codes "w6" ∷ codes "w7" ∷ []

-- the values that a line gives, each at the place of its name
abbrev pub Settings : Type 0
Settings = List (Option ℕ)

-- none is given
abbrev pub no_settings : Settings
no_settings = replicate 21 None

-- what a line gives at a place
abbrev pub given_at : Settings → ℕ → Option ℕ
given_at given place = slice_index_or given place None

-- what stands before the first `=` and behind it
unfoldable pub at_equals : Token → Option (Token × Token)
at_equals t = option_map (λ at. (take at t, drop (at + 1) t)) (position (λ c. c == 0x3d) t)

-- the place of a setting with its value, where its name has that place
abbrev pub placed_setting : ℕ → Option ℕ → Result ℕ Cause → Result (ℕ × ℕ) Cause
placed_setting place (Some n) value = Err Cause.Double
placed_setting place None (Err cause) = Err cause
placed_setting place None (Ok n) = Ok (place, n)

-- the same, where the name has a place
abbrev pub named_setting : Settings → Option ℕ → Token → Result (ℕ × ℕ) Cause
named_setting given None value = Err Cause.Word
named_setting given (Some place) value = placed_setting place (given_at given place) (number value)

-- one token: Word where it has no `=` or its name is unknown, then Double where that is given, then the cause of its value
unfoldable pub setting_value : Settings → Option (Token × Token) → Result (ℕ × ℕ) Cause
setting_value given None = Err Cause.Word
setting_value given (Some e) = named_setting given (place_from 0 setting_names e.0) e.1

-- the tokens from left to right
unfoldable pub settings_from : Settings → List Token → Result Settings Cause
settings_from given [] = Ok given
settings_from given (t ∷ ts) = elim (setting_value given (at_equals t)) [
  | Err cause ↦ Err cause
  | Ok e ↦ settings_from (slice_set given e.0 (Some e.1)) ts
]

-- ---- modes and operations

-- the mode that a token names
unfoldable pub mode_of : Token → Option Mode
mode_of t = elim (bytes_eq t (codes "idt")) [ true ↦ Some Idt | false ↦ elim (bytes_eq t (codes "fred")) [ true ↦ Some Fred | false ↦ None ] ]

-- the operations of a mode
abbrev pub ops : Mode → List (Token × Op)
ops Idt = (codes "deliver", Op.Deliver) ∷ (codes "iretq", Op.Iretq) ∷ []
ops Fred = (codes "deliver", Op.Deliver) ∷ (codes "eretu", Op.Eretu) ∷ (codes "erets", Op.Erets) ∷ []

-- the operation that a token names among these
abbrev pub op_among : List (Token × Op) → Token → Option Op
op_among [] t = None
op_among (e ∷ es) t = elim (bytes_eq t e.0) [ true ↦ Some e.1 | false ↦ op_among es t ]

-- the operation of a mode that a token names
unfoldable pub op_in : Mode → Token → Option Op
op_in mode t = op_among (ops mode) t

-- whether it is a return
unfoldable pub is_return : Op → Bool
is_return Op.Deliver = false
is_return _ = true

-- ---- values

-- the value at a place, or its default
abbrev pub setting : Settings → ℕ → ℕ → ℕ
setting given place default = unwrap_or (given_at given place) default

-- the values of a line, with defaults for those that it doesn't give, in the order of the names
unfoldable pub values_of : Op → Settings → Values
values_of op given = record {
  vector = setting given 0 14;
  kind = setting given 1 3;
  error = setting given 2 0;
  info = setting given 3 0;
  cpl = setting given 4 (if is_return op then 0 else 3);
  rip = setting given 5 0x400000;
  flags = setting given 6 0x40202;
  rsp = setting given 7 0;
  level = setting given 8 0;
  sti = setting given 9 0;
  nmi = setting given 10 0;
  stklvls = setting given 11 0x30020;
  bad = setting given 12 0;
  words = setting given 13 0 ∷ setting given 14 0 ∷ setting given 15 0 ∷ setting given 16 0 ∷ setting given 17 0 ∷ setting given 18 0
      ∷ setting given 19 0 ∷ setting given 20 0 ∷ [];
}

-- ---- which values are allowed

-- SYSCALL isn't delivered through the IDT
unfoldable pub is_idt_delivery : Mode → Op → Bool
is_idt_delivery Idt Op.Deliver = true
is_idt_delivery mode op = false

-- the types 0 and 2 to 7
abbrev pub is_kind : Mode → Op → ℕ → Bool
is_kind mode op n = ((n == 0) || (nat_le 2 n && nat_le n 7)) && not (is_idt_delivery mode op && (n == 7))

-- an error code and event data only with an event that has them
abbrev pub is_event : Values → Bool
is_event v = nat_lt v.vector 256 && ((v.error == 0) || ((v.kind == 3) && has_error_code v.vector)) && ((v.info == 0) || ((v.kind == 3) && (v.vector == 14)))

-- whether an address lies in stack n of processor 0, so many bytes or more below its top
abbrev pub is_on_stack : ℕ → ℕ → ℕ → Bool
is_on_stack room a n = nat_le (stack_top 0 n - stack_bytes) a && nat_le (a + room) (stack_top 0 n)

-- the numbers of the stacks
abbrev pub stack_numbers : List ℕ
stack_numbers = 0 ∷ 1 ∷ 2 ∷ 3 ∷ 4 ∷ 5 ∷ 6 ∷ []

-- the same of some stack whose bit in `bad` is clear
abbrev pub is_on_some_stack : ℕ → ℕ → ℕ → Bool
is_on_some_stack room bad a = list_any (λ n. is_on_stack room a n && not (bit n bad)) stack_numbers

-- For a return the eight words lie at a multiple of 8 in one mapped stack, and CPL is 0. For a delivery from CPL 0 the stack pointer is in a stack or at its
-- top.
unfoldable pub is_stack_pointer : Op → Values → Bool
is_stack_pointer Op.Deliver v = (v.cpl == 3) || ((v.cpl == 0) && is_on_some_stack 0 0 v.rsp)
is_stack_pointer op v = (v.cpl == 0) && is_aligned v.rsp && is_on_some_stack 64 v.bad v.rsp

-- whether the values are ones that the line may have: flags take modelled bits alone, and bit 1 is taken as set
unfoldable pub is_allowed : Mode → Op → Values → Bool
is_allowed mode op v =
    is_kind mode op v.kind && is_event v && is_canonical v.rip && (bit_or v.flags 2 == modelled v.flags) && nat_lt v.level 4
    && nat_le v.sti 1 && nat_le v.nmi 1 && nat_lt v.bad 0x80 && is_stack_pointer op v

-- ---- the line

-- a line of these values, or Limit
abbrev pub if_allowed : Mode → Op → Values → Result ProbeLine Cause
if_allowed mode op v = elim (is_allowed mode op v) [ true ↦ Ok (record { mode = mode; op = op; values = v }) | false ↦ Err Cause.Limit ]

-- the line of these settings, or their cause
abbrev pub of_settings : Mode → Op → Result Settings Cause → Result ProbeLine Cause
of_settings mode op (Err cause) = Err cause
of_settings mode op (Ok given) = if_allowed mode op (values_of op given)

-- the line of an operation and the tokens behind it
abbrev pub of_op : Mode → Option Op → List Token → Result ProbeLine Cause
of_op mode None ts = Err Cause.Word
of_op mode (Some op) ts = of_settings mode op (settings_from no_settings ts)

-- the line of a mode, the token of the operation, and the tokens behind it
abbrev pub of_mode : Option Mode → Token → List Token → Result ProbeLine Cause
of_mode None op ts = Err Cause.Word
of_mode (Some mode) op ts = of_op mode (op_in mode op) ts

-- the line of the tokens behind its word
abbrev pub behind_word : List Token → Result ProbeLine Cause
behind_word (mode ∷ op ∷ ts) = of_mode (mode_of mode) op ts
behind_word _ = Err Cause.Count

-- The line that tokens say, or its cause: Word for another first token, then Count for fewer than three tokens, then what the tokens have from left to
-- right, and then Limit.
unfoldable pub probe_line : List Token → Result ProbeLine Cause
probe_line [] = Err Cause.Word
probe_line (word ∷ ts) = elim (bytes_eq word (codes "probe")) [ true ↦ behind_word ts | false ↦ Err Cause.Word ]

-- ---- the event

-- the type of this number
abbrev pub kind_of : ℕ → EventType
kind_of n =
    if n == 0 then EventType.External else (if n == 2 then EventType.Nmi else (if n == 3 then EventType.Hardware else (if n == 4 then EventType.SoftInt
    else (if n == 5 then EventType.Int1 else (if n == 6 then EventType.Int3 else EventType.Other)))))

-- the length of the instruction: 2 for INT n and SYSCALL, 1 for INT1 and INT3, else none
abbrev pub length_of : ℕ → ℕ
length_of n = if (n == 4) || (n == 7) then 2 else (if (n == 5) || (n == 6) then 1 else 0)

-- the event of these values
unfoldable pub event_of : Values → Event
event_of v = record { kind = kind_of v.kind; vector = v.vector; error = v.error; info = v.info; length = length_of v.kind }
