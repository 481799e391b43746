-- The statements of user text are instructions of the project: a shift counts 1 to 63.
use Rattle.std.proofs.Common.{◌≡◌, ℕ, ◌≤◌, Bool, true, false, ◌&&◌, nat_lt, List, [], ◌∷◌, Option, Some, None, Result, Ok, Err, refl, sym, subst, arith}
use Rattle.std.specs.Prelude.{IfOk, nat_le, option_map}
use Rattle.std.specs.Str.{bytes_eq}
use Rattle.ev_io.specs.declared.cause.Cause.{Cause}
use Rattle.ev_io.specs.Tokens.{Token}
use Rattle.ev_isa.specs.declared.instruction.AluOp.{AluOp}
use Rattle.ev_isa.specs.declared.instruction.Cond.{Cond}
use Rattle.ev_isa.specs.declared.instruction.Ins.{Ins}
use Rattle.ev_isa.specs.Instruction.{is_instruction}
use Rattle.ev_asm.specs.declared.statement.Stmt.{Stmt}
use Rattle.ev_asm.specs.Assembled.{is_encoded}
use Rattle.ev_line.specs.Forms.{read_forms}
use Rattle.ev_text.specs.declared.words.TextWord.{TextWord}
use Rattle.ev_text.specs.declared.words.TextWord.TheVariants.{Mov, Push, Pop, Alu, Shl, Shr, Xchg, CmpXchg, Xadd, Jmp, Jcc, Int, Alone}
use Rattle.ev_text.specs.Words.{named_in, or_then, alu_word, jump_word, lone_word, lone_words, move_word, move_words, long_word, long_words, other_word, other_words, text_word}
use Rattle.ev_text.specs.TextForms.{text_forms}
use Rattle.ev_text.proofs.Gives.{AllGive, forms_give}
use Rattle.ev_text.proofs.WordLaws.{named_fits, either_fits, mapped_fits}

abbrev pub IsEncoded : Stmt → Type 0
IsEncoded s = is_encoded s ≡ true

-- a word whose instruction, if it has one alone, is one of the project
abbrev IsFit : TextWord → Type 0
IsFit (Alone i) = is_instruction i ≡ true
IsFit _ = Unit {0}

word_fits : (t : Token) (w : TextWord) → text_word t ≡ Some w → IsFit w
unfolding text_word lone_word move_word long_word other_word is_instruction
word_fits t w h =
    either_fits IsFit _ _ w (λ v. mapped_fits IsFit Alu (alu_word t) v (λ op _. tt))
    (λ v. either_fits IsFit _ _ v (λ u. mapped_fits IsFit Jcc (jump_word t) u (λ cond _. tt))
    (λ u. either_fits IsFit _ _ u (λ x. mapped_fits IsFit Alone (lone_word t) x
    (λ i. named_fits (λ j. is_instruction j ≡ true) lone_words t i (refl, (refl, (refl, (refl, (refl, (refl, tt))))))))
    (λ x. either_fits IsFit _ _ x (λ y. named_fits IsFit move_words t y (tt, (tt, (tt, (tt, (tt, tt))))))
    (λ y. either_fits IsFit _ _ y (λ z. named_fits IsFit long_words t z (refl, (tt, tt)))
    (λ z. named_fits IsFit other_words t z (tt, (tt, (tt, (tt, tt)))))))))
    h

shift_fits : (n : ℕ) → (1 ≤ n) × (n ≤ 63) → (nat_le 1 n && nat_lt n 64) ≡ true
shift_fits n h = grind arith

forms_fit : (w : TextWord) → IsFit w → AllGive IsEncoded (text_forms w)
unfolding text_forms is_encoded is_instruction
forms_fit Mov f = (λ d _ n _. refl, (λ d _ s _. refl, (λ d _ m _. refl, (λ m _ s _. refl, (λ m _ i _. refl, (λ d _ n _. refl, (λ n _ s _. refl, tt)))))))
forms_fit Push f = (λ n _. refl, (λ s _. refl, (λ i _. refl, tt)))
forms_fit Pop f = (λ d _. refl, tt)
forms_fit (Alu op) f = (λ d _ s _. refl, (λ d _ i _. refl, tt))
forms_fit Shl f = (λ d _ n h. shift_fits n h, tt)
forms_fit Shr f = (λ d _ n h. shift_fits n h, tt)
forms_fit Xchg f = (λ m _ s _. refl, tt)
forms_fit CmpXchg f = (λ m _ s _. refl, tt)
forms_fit Xadd f = (λ m _ s _. refl, tt)
forms_fit Jmp f = (λ name _. refl, (λ s _. refl, tt))
forms_fit (Jcc c) f = (λ name _. refl, tt)
forms_fit Int f = (λ n _. refl, tt)
forms_fit (Alone i) f = (f, tt)

-- a statement that is read is encoded
pub statement_encoded : (t : Token) (w : TextWord) (ts : List Token) (r : Result Stmt Cause) → text_word t ≡ Some w → r ≡ read_forms (text_forms w) ts
    → IfOk r IsEncoded
statement_encoded t w ts (Err cause) e h = tt
statement_encoded t w ts (Ok s) e h = forms_give IsEncoded (text_forms w) ts s (forms_fit w (word_fits t w e)) (sym h)
