-- The bytes of a text that is read are bytes: what its statements name are registers, and their numbers are in range.
use Rattle.std.proofs.Common.{◌≡◌, ℕ, zero, suc, ◌+◌, ◌*◌, ◌%◌, ◌<◌, ◌≤◌, Bool, true, false, List, [], ◌∷◌, ◌++◌, Option, Some, None, Result, Ok, refl, ◌∙◌, subst, arith}
use Rattle.std.specs.Prelude.{ℤ, nat_lt, ◌==◌, if◌then◌else◌}
use Rattle.std.specs.Int.{w32, w64, byte_at, bytes_low_first, cast_unsigned, to_le_bytes}
use Rattle.std.proofs.lemmas.Bool.{and_from}
use Rattle.std.proofs.lemmas.List.Folds.{list_all-append}
use Rattle.ev_isa.specs.declared.instruction.AluOp.{AluOp}
use Rattle.ev_isa.specs.declared.instruction.Cond.{Cond}
use Rattle.ev_isa.specs.declared.instruction.Ins.{Ins}
use Rattle.ev_isa.specs.Spelling.{rex, short_rex, modrm, four_bytes, registers, memory, absolute, alu_number, cond_number, spelling}
use Rattle.ev_io.specs.declared.cause.Cause.{Cause}
use Rattle.ev_io.specs.Tokens.{Token}
use Rattle.ev_asm.specs.declared.statement.Stmt.{Stmt}
use Rattle.ev_asm.specs.Assembly.{Places, size, total_size, place, distance, jump, stmt_bytes, code}
use Rattle.ev_line.specs.Operands.{then_make}
use Rattle.ev_line.specs.Forms.{Form, read_by}
use Rattle.ev_text.specs.declared.words.TextWord.{TextWord}
use Rattle.ev_text.specs.declared.words.TextWord.TheVariants as Word
use Rattle.ev_text.specs.Words.{alu_word, jump_word, lone_word, lone_words, move_word, move_words, long_word, long_words, other_word, other_words, text_word}
use Rattle.ev_asm.specs.Assembled.{is_second_label}
use Rattle.ev_text.specs.UserText.{most_text, text_grown}
use Rattle.ev_text.specs.TextForms.{text_forms, statement_forms}
use Rattle.ev_text.proofs.Gives.{AllGive}
use Rattle.ev_text.proofs.WordLaws.{named_fits, either_fits, mapped_fits}
use Rattle.ev_image.specs.LabelLine.{label_name, label_said}
use Rattle.ev_image.specs.Sections.{text_said}
use Rattle.ev_image.proofs.Kept.{are_bytes, AreSmall, AllSmall}
use Rattle.ev_image.proofs.Lists.{less, unless_ok, made_ok}
use Rattle.ev_image.proofs.Told.{line_gives}

-- ---- parts of spellings

byte : (b : ℕ) (bs : List ℕ) → b < 256 → are_bytes bs ≡ true → are_bytes (b ∷ bs) ≡ true
byte b bs l h = and_from (nat_lt b 256) (are_bytes bs) (less b 256 l) h

join : (xs ys : List ℕ) → are_bytes xs ≡ true → are_bytes ys ≡ true → are_bytes (xs ++ ys) ≡ true
join xs ys g h = list_all-append (λ b. nat_lt b 256) xs ys ∙ and_from (are_bytes xs) (are_bytes ys) g h

byte_small : (i n : ℕ) → byte_at i n < 256
byte_small zero n = omega arith
byte_small (suc i) n = omega arith

low_bytes : (i k n : ℕ) → are_bytes (bytes_low_first i k n) ≡ true
low_bytes i zero n = refl
low_bytes i (suc k) n = byte (byte_at i n) (bytes_low_first (suc i) k n) (byte_small i n) (low_bytes (suc i) k n)

four : (z : ℤ) → are_bytes (four_bytes z) ≡ true
unfolding four_bytes
four z = low_bytes 0 4 (cast_unsigned w32 z)

rex_small : (reg rm : ℕ) → reg < 16 → rm < 16 → rex reg rm < 256
rex_small reg rm g h = omega arith

modrm_small : (form reg rm : ℕ) → form ≤ 3 → modrm form reg rm < 256
modrm_small form reg rm h = omega arith

short_bytes : (r : ℕ) → are_bytes (short_rex r) ≡ true
short_bytes r = by (nat_lt r 8)
  where
    by : (b : Bool) → are_bytes (let bs : List ℕ = if b then [] else 0x41 ∷ [] in bs) ≡ true
    by true = refl
    by false = refl

register_bytes : (reg rm : ℕ) → are_bytes (registers reg rm) ≡ true
register_bytes reg rm = byte (modrm 3 reg rm) [] (modrm_small 3 reg rm (omega arith)) refl

memory_bytes : (reg b : ℕ) (n : ℤ) → are_bytes (memory reg b n) ≡ true
memory_bytes reg b n =
    byte (modrm 2 reg b) ((if b % 8 == 4 then 0x24 ∷ [] else []) ++ four_bytes n) (modrm_small 2 reg b (omega arith))
    (join (if b % 8 == 4 then 0x24 ∷ [] else []) (four_bytes n) (by (b % 8 == 4)) (four n))
  where
    by : (t : Bool) → are_bytes (let bs : List ℕ = if t then 0x24 ∷ [] else [] in bs) ≡ true
    by true = refl
    by false = refl

absolute_bytes : (reg : ℕ) (n : ℤ) → are_bytes (absolute reg n) ≡ true
absolute_bytes reg n = byte (modrm 0 reg 4) (0x25 ∷ four_bytes n) (modrm_small 0 reg 4 (omega arith)) (byte 0x25 (four_bytes n) (omega arith) (four n))

alu_small : (op : AluOp) → 8 * alu_number op + 1 < 256
alu_small AluOp.Add = omega arith
alu_small AluOp.Or = omega arith
alu_small AluOp.And = omega arith
alu_small AluOp.Sub = omega arith
alu_small AluOp.Xor = omega arith
alu_small AluOp.Cmp = omega arith

alu_is_small : (op : AluOp) → alu_number op < 16
alu_is_small AluOp.Add = omega arith
alu_is_small AluOp.Or = omega arith
alu_is_small AluOp.And = omega arith
alu_is_small AluOp.Sub = omega arith
alu_is_small AluOp.Xor = omega arith
alu_is_small AluOp.Cmp = omega arith

cond_small : (c : Cond) → 0x80 + cond_number c < 256
cond_small Cond.Z = omega arith
cond_small Cond.Nz = omega arith
cond_small Cond.C = omega arith
cond_small Cond.Nc = omega arith
cond_small Cond.S = omega arith
cond_small Cond.Ns = omega arith

-- ---- instructions

-- two bytes before others, the first a REX prefix
prefixed : (reg rm b : ℕ) (bs : List ℕ) → reg < 16 → rm < 16 → b < 256 → are_bytes bs ≡ true → are_bytes (rex reg rm ∷ b ∷ bs) ≡ true
prefixed reg rm b bs g h l k = byte (rex reg rm) (b ∷ bs) (rex_small reg rm g h) (byte b bs l k)

abbrev IsSpelled : Ins → Type 0
IsSpelled i = are_bytes (spelling i) ≡ true

two_registers : (b s d : ℕ) → b < 256 → s < 16 → d < 16 → are_bytes (rex s d ∷ b ∷ registers s d) ≡ true
two_registers b s d l g h = prefixed s d b (registers s d) g h l (register_bytes s d)

at_memory : (code reg b : ℕ) (n : ℤ) → code < 256 → reg < 16 → b < 16 → are_bytes (rex reg b ∷ code ∷ memory reg b n) ≡ true
at_memory code reg b n l g h = prefixed reg b code (memory reg b n) g h l (memory_bytes reg b n)

locked : (code reg b : ℕ) (n : ℤ) → code < 256 → reg < 16 → b < 16 → are_bytes (0xf0 ∷ rex reg b ∷ 0x0f ∷ code ∷ memory reg b n) ≡ true
locked code reg b n l g h =
    byte 0xf0 (rex reg b ∷ 0x0f ∷ code ∷ memory reg b n) (omega arith)
    (prefixed reg b 0x0f (code ∷ memory reg b n) g h (omega arith) (byte code (memory reg b n) l (memory_bytes reg b n)))

at_gs : (code reg : ℕ) (n : ℤ) → code < 256 → reg < 16 → are_bytes (0x65 ∷ rex reg 0 ∷ code ∷ absolute reg n) ≡ true
at_gs code reg n l g =
    byte 0x65 (rex reg 0 ∷ code ∷ absolute reg n) (omega arith) (prefixed reg 0 code (absolute reg n) g (omega arith) l (absolute_bytes reg n))

shift_bytes : (d k n : ℕ) → d < 16 → n ≤ 63 → are_bytes (rex 0 d ∷ 0xc1 ∷ registers k d ++ n ∷ []) ≡ true
shift_bytes d k n g h =
    prefixed 0 d 0xc1 (registers k d ++ n ∷ []) (omega arith) g (omega arith)
    (join (registers k d) (n ∷ []) (register_bytes k d) (byte n [] (omega arith) refl))

-- ---- statements

abbrev IsFit : TextWord → Type 0
IsFit (Word.Alone i) = IsSpelled i
IsFit _ = Unit {0}

word_fits : (t : Token) (w : TextWord) → text_word t ≡ Some w → IsFit w
unfolding text_word lone_word move_word long_word other_word spelling
word_fits t w h =
    either_fits IsFit _ _ w (λ v. mapped_fits IsFit Word.Alu (alu_word t) v (λ op _. tt))
    (λ v. either_fits IsFit _ _ v (λ u. mapped_fits IsFit Word.Jcc (jump_word t) u (λ cond _. tt))
    (λ u. either_fits IsFit _ _ u (λ x. mapped_fits IsFit Word.Alone (lone_word t) x
    (λ i. named_fits IsSpelled lone_words t i (refl, (refl, (refl, (refl, (refl, (refl, tt))))))))
    (λ x. either_fits IsFit _ _ x (λ y. named_fits IsFit move_words t y (tt, (tt, (tt, (tt, (tt, tt))))))
    (λ y. either_fits IsFit _ _ y (λ z. named_fits IsFit long_words t z (refl, (tt, tt)))
    (λ z. named_fits IsFit other_words t z (tt, (tt, (tt, (tt, tt)))))))))
    h

jump_bytes : (c : Option Cond) (z : ℤ) → are_bytes (spelling (jump c z)) ≡ true
unfolding spelling
jump_bytes None z = byte 0xe9 (four_bytes z) (omega arith) (four z)
jump_bytes (Some c) z =
    byte 0x0f ((0x80 + cond_number c) ∷ four_bytes z) (omega arith) (byte (0x80 + cond_number c) (four_bytes z) (cond_small c) (four z))

jump_small : (c : Option Cond) (name : Token) → AreSmall (Stmt.Jump c name)
unfolding stmt_bytes
jump_small c name = λ env a. jump_bytes c (distance (place env name) (a + size (Stmt.Jump c name)))

plain_small : (i : Ins) → IsSpelled i → AreSmall (Stmt.Plain i)
unfolding stmt_bytes
plain_small i h = λ env a. h

label_small : (name : Token) → AreSmall (Stmt.Label name)
unfolding stmt_bytes
label_small name = λ env a. refl

forms_fit : (w : TextWord) → IsFit w → AllGive AreSmall (text_forms w)
unfolding text_forms spelling
forms_fit Word.Mov f = (
  λ d a n b. plain_small (Ins.MovImm d n) (prefixed 0 d (0xb8 + d % 8) (to_le_bytes w64 n) (omega arith) a (omega arith) (low_bytes 0 8 n)),
  (
    λ d a s b. plain_small (Ins.MovReg d s) (two_registers 0x89 s d (omega arith) b a),
    (
      λ d a m b. plain_small (Ins.Load d m.0 m.1) (at_memory 0x8b d m.0 m.1 (omega arith) a b),
      (
        λ m b s a. plain_small (Ins.Store m.0 m.1 s) (at_memory 0x89 s m.0 m.1 (omega arith) a b),
        (
          λ m b i _. plain_small (Ins.StoreImm m.0 m.1 i)
              (prefixed 0 m.0 0xc7 (memory 0 m.0 m.1 ++ four_bytes i) (omega arith) b (omega arith)
              (join (memory 0 m.0 m.1) (four_bytes i) (memory_bytes 0 m.0 m.1) (four i))),
          (
            λ d a n _. plain_small (Ins.GsLoad d n) (at_gs 0x8b d n (omega arith) a),
            (λ n _ s a. plain_small (Ins.GsStore n s) (at_gs 0x89 s n (omega arith) a), tt),
          ),
        ),
      ),
    ),
  ),
)
forms_fit Word.Push f = (
  λ n _. plain_small (Ins.GsPush n) (byte 0x65 (0xff ∷ absolute 6 n) (omega arith) (byte 0xff (absolute 6 n) (omega arith) (absolute_bytes 6 n))),
  (
    λ s a. plain_small (Ins.Push s) (join (short_rex s) ((0x50 + s % 8) ∷ []) (short_bytes s) (byte (0x50 + s % 8) [] (omega arith) refl)),
    (λ i _. plain_small (Ins.PushImm i) (byte 0x68 (four_bytes i) (omega arith) (four i)), tt),
  ),
)
forms_fit Word.Pop f =
    (λ d a. plain_small (Ins.Pop d) (join (short_rex d) ((0x58 + d % 8) ∷ []) (short_bytes d) (byte (0x58 + d % 8) [] (omega arith) refl)), tt)
forms_fit (Word.Alu op) f = (
  λ d a s b. plain_small (Ins.Alu op d s) (two_registers (8 * alu_number op + 1) s d (alu_small op) b a),
  (
    λ d a i _. plain_small (Ins.AluImm op d i)
        (prefixed 0 d 0x81 (registers (alu_number op) d ++ four_bytes i) (omega arith) a (omega arith)
        (join (registers (alu_number op) d) (four_bytes i) (register_bytes (alu_number op) d) (four i))),
    tt,
  ),
)
forms_fit Word.Shl f = (λ d a n b. plain_small (Ins.Shl d n) (shift_bytes d 4 n a b.1), tt)
forms_fit Word.Shr f = (λ d a n b. plain_small (Ins.Shr d n) (shift_bytes d 5 n a b.1), tt)
forms_fit Word.Xchg f = (λ m b s a. plain_small (Ins.Xchg m.0 m.1 s) (at_memory 0x87 s m.0 m.1 (omega arith) a b), tt)
forms_fit Word.CmpXchg f = (λ m b s a. plain_small (Ins.CmpXchg m.0 m.1 s) (locked 0xb1 s m.0 m.1 (omega arith) a b), tt)
forms_fit Word.Xadd f = (λ m b s a. plain_small (Ins.Xadd m.0 m.1 s) (locked 0xc1 s m.0 m.1 (omega arith) a b), tt)
forms_fit Word.Jmp f = (
  λ name _. jump_small None name,
  (
    λ s a. plain_small (Ins.JmpReg s)
        (join (short_rex s) (0xff ∷ registers 4 s) (short_bytes s) (byte 0xff (registers 4 s) (omega arith) (register_bytes 4 s))),
    tt,
  ),
)
forms_fit (Word.Jcc c) f = (λ name _. jump_small (Some c) name, tt)
forms_fit Word.Int f = (λ n b. plain_small (Ins.IntN n) (byte 0xcd (n ∷ []) (omega arith) (byte n [] (omega (arith, b.1)) refl)), tt)
forms_fit (Word.Alone i) f = (plain_small i f, tt)

statement_small : (t : Token) → AllGive AreSmall (statement_forms t)
unfolding statement_forms
statement_small t = by (text_word t) refl
  where
    by : (o : Option TextWord) → text_word t ≡ o
        → AllGive AreSmall (let fs : List (Form Stmt) = elim o [ None ↦ [] | Some word ↦ text_forms word ] in fs)
    by None e = tt
    by (Some word) e = forms_fit word (word_fits t word e)

-- a line of the text
pub stmt_told : (ts : List Token) (s : Stmt) → text_said ts ≡ Ok s → AreSmall s
unfolding text_said
stmt_told [] s h = absurd cc
stmt_told (t ∷ ts) s h = by (label_name t) h
  where
    by : (o : Option Token) → (let r : Result Stmt Cause = elim o [
      | Some name ↦ then_make Stmt.Label (label_said name ts)
      | None ↦ read_by statement_forms (t ∷ ts)
    ] in r) ≡ Ok s → AreSmall s
    by (Some name) h = let k = made_ok Stmt.Label (label_said name ts) s h in subst AreSmall k.2 (label_small k.0)
    by None h = line_gives AreSmall statement_forms (t ∷ ts) s statement_small h

-- the bytes of statements
pub code_bytes : (env : Places) (a : ℕ) (ss : List Stmt) → AllSmall ss → are_bytes (code env a ss) ≡ true
unfolding code
code_bytes env a [] g = refl
code_bytes env a (s ∷ ss) g = join (stmt_bytes env a s) (code env (a + size s) ss) (g.0 env a) (code_bytes env (a + size s) ss g.1)

-- a statement more
pub small_more : (ss : List Stmt) (s : Stmt) → AllSmall ss → AreSmall s → AllSmall (ss ++ s ∷ [])
small_more [] s g h = (h, tt)
small_more (x ∷ xs) s g h = (g.0, small_more xs s g.1 h)

-- the statements with one more, where it is taken
pub text_more : (ss : List Stmt) (s : Stmt) (more : List Stmt) → AllSmall ss → AreSmall s → text_grown ss s ≡ Ok more → AllSmall more
unfolding text_grown
text_more ss s more g h k =
    let a = unless_ok (is_second_label ss s) Cause.Double _ more k in
    let b = unless_ok (nat_lt most_text (total_size (ss ++ s ∷ []))) Cause.Limit _ more a.1 in
    let same : ss ++ s ∷ [] ≡ more = is_same _ _ b.1 in
    subst AllSmall same (small_more ss s g h)
  where
    is_same : (x y : List Stmt) → ◌≡◌ {A = Result (List Stmt) Cause} (Ok x) (Ok y) → x ≡ y
    is_same x y e = cc
