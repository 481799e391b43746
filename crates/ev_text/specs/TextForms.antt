-- The statements of user text: which operands stand behind each word. Own.
use Rattle.std.specs.Prelude.{List, [], ◌∷◌, Some, None, Result}
use Rattle.ev_isa.specs.declared.instruction.Ins.{Ins}
use Rattle.ev_io.specs.declared.cause.Cause.{Cause}
use Rattle.ev_asm.specs.declared.statement.Stmt.{Stmt}
use Rattle.ev_asm.specs.declared.statement.Stmt.TheVariants.{Plain, Jump}
use Rattle.ev_text.specs.declared.words.TextWord.{TextWord}
use Rattle.ev_text.specs.declared.words.TextWord.TheVariants.{Mov, Push, Pop, Alu, Shl, Shr, Xchg, CmpXchg, Xadd, Jmp, Jcc, Int, Alone}
use Rattle.ev_io.specs.Tokens.{Token}
use Rattle.ev_line.specs.Operands.{Place, Register, Number, Signed, Memory, Gs, Label, Within}
use Rattle.ev_line.specs.Forms.{Maker, Form, form, read_by}
use Rattle.ev_text.specs.Words.{text_word}

-- a statement with these places
abbrev pub statement : (places : List Place) → Maker places Stmt → Form Stmt
statement = form

-- the forms of each word
unfoldable pub text_forms : TextWord → List (Form Stmt)
text_forms Mov =
    statement (Register ∷ Number ∷ []) (λ d n. Plain (Ins.MovImm d n))
    ∷ statement (Register ∷ Register ∷ []) (λ d s. Plain (Ins.MovReg d s))
    ∷ statement (Register ∷ Memory ∷ []) (λ d m. Plain (Ins.Load d m.0 m.1))
    ∷ statement (Memory ∷ Register ∷ []) (λ m s. Plain (Ins.Store m.0 m.1 s))
    ∷ statement (Memory ∷ Signed ∷ []) (λ m i. Plain (Ins.StoreImm m.0 m.1 i))
    ∷ statement (Register ∷ Gs ∷ []) (λ d n. Plain (Ins.GsLoad d n))
    ∷ statement (Gs ∷ Register ∷ []) (λ n s. Plain (Ins.GsStore n s)) ∷ []
text_forms Push =
    statement (Gs ∷ []) (λ n. Plain (Ins.GsPush n))
    ∷ statement (Register ∷ []) (λ s. Plain (Ins.Push s))
    ∷ statement (Signed ∷ []) (λ i. Plain (Ins.PushImm i)) ∷ []
text_forms Pop = statement (Register ∷ []) (λ d. Plain (Ins.Pop d)) ∷ []
text_forms (Alu op) =
    statement (Register ∷ Register ∷ []) (λ d s. Plain (Ins.Alu op d s))
    ∷ statement (Register ∷ Signed ∷ []) (λ d i. Plain (Ins.AluImm op d i)) ∷ []
text_forms Shl = statement (Register ∷ Within 1 63 ∷ []) (λ d n. Plain (Ins.Shl d n)) ∷ []
text_forms Shr = statement (Register ∷ Within 1 63 ∷ []) (λ d n. Plain (Ins.Shr d n)) ∷ []
text_forms Xchg = statement (Memory ∷ Register ∷ []) (λ m s. Plain (Ins.Xchg m.0 m.1 s)) ∷ []
text_forms CmpXchg = statement (Memory ∷ Register ∷ []) (λ m s. Plain (Ins.CmpXchg m.0 m.1 s)) ∷ []
text_forms Xadd = statement (Memory ∷ Register ∷ []) (λ m s. Plain (Ins.Xadd m.0 m.1 s)) ∷ []
text_forms Jmp =
    statement (Label ∷ []) (λ name. Jump None name)
    ∷ statement (Register ∷ []) (λ s. Plain (Ins.JmpReg s)) ∷ []
text_forms (Jcc c) = statement (Label ∷ []) (λ name. Jump (Some c) name) ∷ []
text_forms Int = statement (Within 0 255 ∷ []) (λ n. Plain (Ins.IntN n)) ∷ []
text_forms (Alone i) = statement [] (Plain i) ∷ []

-- the forms of a statement's first token
unfoldable pub statement_forms : Token → List (Form Stmt)
statement_forms w = elim (text_word w) [ None ↦ [] | Some word ↦ text_forms word ]

-- what the tokens of a statement's line say
abbrev pub statement_of : List Token → Result Stmt Cause
statement_of ts = read_by statement_forms ts
