-- Lines with a fixed number of operands. Own.
use Rattle.std.specs.Prelude.{true, false, List, [], ◌∷◌, Result, Ok, Err}
use Rattle.ev_io.specs.declared.cause.Cause.{Cause}
use Rattle.ev_io.specs.Tokens.{Token}
use Rattle.ev_line.specs.declared.kind.Kind.{Kind}
use Rattle.ev_line.specs.Forms.{is_shaped}

-- no operand
abbrev pub none_in : List Token → Result (Unit {0}) Cause
none_in [] = Ok tt
none_in _ = Err Cause.Count

-- one operand and no more
abbrev pub one_in : List Token → Result Token Cause
one_in (a ∷ []) = Ok a
one_in _ = Err Cause.Count

-- two operands and no more
abbrev pub two_in : List Token → Result (Token × Token) Cause
two_in (a ∷ b ∷ []) = Ok (a, b)
two_in _ = Err Cause.Count

-- two operands and no more, of which the first has the shape of a memory operand
abbrev pub memory_first : List Token → Result (Token × Token) Cause
memory_first [] = Err Cause.Count
memory_first (m ∷ ts) = elim (is_shaped Kind.Memory m) [ true ↦ two_in (m ∷ ts) | false ↦ Err Cause.Word ]

-- four operands and no more
abbrev pub four_in : List Token → Result (Token × Token × Token × Token) Cause
four_in (a ∷ b ∷ c ∷ d ∷ []) = Ok (a, b, c, d)
four_in _ = Err Cause.Count

-- why a line with a token too many is refused, by the kind of its last operand: a `mov` into a register, a `mov` into memory or arithmetic, and `push`
abbrev pub surplus_move : Kind → Cause
surplus_move Kind.Word = Cause.Word
surplus_move _ = Cause.Count

abbrev pub surplus_store : Kind → Cause
surplus_store Kind.Number = Cause.Count
surplus_store Kind.Register = Cause.Count
surplus_store _ = Cause.Word

abbrev pub surplus_push : Kind → Cause
surplus_push Kind.Memory = Cause.Word
surplus_push Kind.Word = Cause.Word
surplus_push _ = Cause.Count
