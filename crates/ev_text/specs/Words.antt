-- The words of user text. Own.
use Rattle.std.specs.Prelude.{true, false, List, [], ◌∷◌, codes, Option, Some, None, option_map}
use Rattle.std.specs.Str.{bytes_eq}
use Rattle.ev_isa.specs.declared.instruction.AluOp.{AluOp}
use Rattle.ev_isa.specs.declared.instruction.AluOp.TheVariants.{Add, Or, And, Sub, Xor, Cmp}
use Rattle.ev_isa.specs.declared.instruction.Cond.{Cond}
use Rattle.ev_isa.specs.declared.instruction.Cond.TheVariants.{Z, Nz, C, Nc, S, Ns}
use Rattle.ev_isa.specs.declared.instruction.Ins.{Ins}
use Rattle.ev_isa.specs.declared.instruction.Ins.TheVariants.{Nop, Int3, Int1, Syscall, Ud2, Sti, Cli}
use Rattle.ev_io.specs.Tokens.{Token}
use Rattle.ev_text.specs.declared.words.TextWord.{TextWord}
use Rattle.ev_text.specs.declared.words.TextWord.TheVariants.{Mov, Push, Pop, Alu, Shl, Shr, Xchg, CmpXchg, Xadd, Jmp, Jcc, Int, Alone}

-- what stands beside a word in a list of words, if it is one of them
abbrev pub named_in : {X : Type 0} → List (Token × X) → Token → Option X
named_in [] t = None
named_in (e ∷ es) t = elim (bytes_eq t e.0) [ true ↦ Some e.1 | false ↦ named_in es t ]

-- the words of arithmetic
unfoldable pub alu_word : Token → Option AluOp
alu_word t =
    named_in ((codes "add", Add) ∷ (codes "or", Or) ∷ (codes "and", And) ∷ (codes "sub", Sub) ∷ (codes "xor", Xor) ∷ (codes "cmp", Cmp) ∷ []) t

-- the conditional jumps
unfoldable pub jump_word : Token → Option Cond
jump_word t = named_in ((codes "jz", Z) ∷ (codes "jnz", Nz) ∷ (codes "jc", C) ∷ (codes "jnc", Nc) ∷ (codes "js", S) ∷ (codes "jns", Ns) ∷ []) t

-- the instructions without operands
abbrev pub lone_words : List (Token × Ins)
lone_words =
    (codes "nop", Nop) ∷ (codes "int3", Int3) ∷ (codes "int1", Int1) ∷ (codes "ud2", Ud2) ∷ (codes "sti", Sti) ∷ (codes "cli", Cli) ∷ []

-- the instruction without operands that a token names
unfoldable pub lone_word : Token → Option Ins
lone_word t = named_in lone_words t

-- the words of seven letters
abbrev pub long_words : List (Token × TextWord)
long_words =
    (codes "syscall", Alone Syscall) ∷ (codes "cmpxchg", CmpXchg) ∷ []

-- the word of these that a token is
unfoldable pub long_word : Token → Option TextWord
long_word t = named_in long_words t

-- words with operands at registers
abbrev pub move_words : List (Token × TextWord)
move_words =
    (codes "mov", Mov) ∷ (codes "push", Push) ∷ (codes "pop", Pop) ∷ (codes "xchg", Xchg) ∷ (codes "xadd", Xadd) ∷ []

-- the word of these that a token is
unfoldable pub move_word : Token → Option TextWord
move_word t = named_in move_words t

-- the other words
abbrev pub other_words : List (Token × TextWord)
other_words =
    (codes "shl", Shl) ∷ (codes "shr", Shr) ∷ (codes "jmp", Jmp) ∷ (codes "int", Int) ∷ []

-- the word of these that a token is
unfoldable pub other_word : Token → Option TextWord
other_word t = named_in other_words t

-- the first of two answers that is one
abbrev pub or_then : {X : Type 0} → Option X → Option X → Option X
or_then (Some x) o = Some x
or_then None o = o

-- the first word of a statement
unfoldable pub text_word : Token → Option TextWord
text_word t =
    or_then (option_map Alu (alu_word t)) (or_then (option_map Jcc (jump_word t)) (or_then (option_map Alone (lone_word t))
    (or_then (move_word t) (or_then (long_word t) (other_word t)))))
