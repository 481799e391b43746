-- What an instruction spells is read again, whatever follows.
use Rattle.std.proofs.Common.{◌≡◌, ℕ, ℤ, ◌+◌, ◌*◌, ◌/◌, ◌%◌, ◌^◌, ◌<◌, ◌≤◌, Bool, true, false, ◌&&◌, cond, ltb, List, [], ◌∷◌, ◌++◌, length, Some, None, Ok, refl, sym, ap, subst, ◌∙◌, append_assoc, arith, if◌then◌else◌, ◌==◌, ◌||◌, inl, inr}
use Rattle.std.specs.Int.{w32, w64, from_le_bytes, to_le_bytes, cast_signed, cast_unsigned}
use Rattle.std.specs.Int.RustNames.{FitsSigned}
use Rattle.std.proofs.lemmas.Bool.{eq-eqb, ne_eqb, le-ltb, cases_lt}
use Rattle.std.proofs.lemmas.List.{take_at, drop_at, length-append}
use Rattle.std.proofs.lemmas.Nat.{from_le_bytes-to_le_bytes_4, from_le_bytes-to_le_bytes_8}
use Rattle.std.proofs.lemmas.Int.{to_z-of_z}
use Rattle.std.proofs.Math.Facts.{Fits-of_z}
use Rattle.ev_isa.specs.declared.instruction.Ins.{Ins}
use Rattle.ev_isa.specs.declared.instruction.AluOp.{AluOp}
use Rattle.ev_isa.specs.declared.instruction.Cond.{Cond}
use Rattle.ev_isa.specs.declared.instruction.AluOp.TheVariants.{Add, Or, And, Sub, Xor, Cmp}
use Rattle.ev_isa.specs.declared.instruction.Cond.TheVariants.{Z, Nz, C, Nc, S, Ns}
use Rattle.ev_isa.specs.declared.instruction.Ins.TheVariants.{MovImm, MovReg, Load, Store, StoreImm, GsLoad, GsStore, GsPush, Alu, AluImm, Shl, Shr, Xchg, CmpXchg, Xadd, Jmp, Jcc, JmpReg, Push, PushImm, Pop, IntN, Lkgs, MovGs, ReadCr2, WriteCr2, Nop, Int3, Int1, Syscall, Sysretq, Iretq, Swapgs, Eretu, Erets, Rdmsr, Wrmsr, Sti, Cli, Ud2}
use Rattle.ev_isa.specs.Instruction.{is_instruction}
use Rattle.ev_isa.specs.Spelling.{spelling, four_bytes, rex, short_rex, modrm, registers, memory, absolute, alu_number}
use Rattle.ev_code.specs.Coding.{FieldsFit}
use Rattle.ev_code.specs.Reader.{Read, immediate_at, word_at, count_at, register_at, sib_at, displacement_at, memory_at, absolute_at, reg_field, rm_field, alu_of, cond_of, alu_opcode, is_wide, move_at, alu_at, alu_number_at, alu_immediate_at, store_immediate_at, shift_at, sysretq_at, return_at, mov_immediate_at, one_register_at, load_at, xchg_at, arithmetic_at, wide_at, gs_push_at, gs_word_at, gs_at, exchange_at, locked_wide_at, locked_at, with_register_at, lkgs_at, lkgs_high_at, lkgs_or_erets_at, last_at, repne_at, eretu_at, rep_at, cr2_at, condition_at, two_byte_at, narrow_at, cr2_high_at, extended_at, with_immediate_at, int_at, plain_at, behind_at, instruction_at}
use Rattle.ev_code.proofs.FieldReads.{sib_if, is_count}
use Rattle.ev_code.proofs.RegisterReads.{no_prefix, high_prefix}

-- ---- fields

length_four : (n : ℤ) → length (four_bytes n) ≡ 4
unfolding four_bytes
length_four n = refl

pub immediate_back : (n : ℤ) → FitsSigned w32 n → cast_signed w32 (from_le_bytes w32 (four_bytes n)) ≡ n
unfolding four_bytes
immediate_back n f = ap (cast_signed w32) (from_le_bytes-to_le_bytes_4 (cast_unsigned w32 n) (Fits-of_z f).fits) ∙ to_z-of_z w32 n f

immediate_again : (n : ℤ) (rest : List ℕ) → FitsSigned w32 n → immediate_at (four_bytes n ++ rest) ≡ Ok (n, rest)
unfolding immediate_at
immediate_again n rest f =
    let len = length_four n in
    let long : ltb (length (four_bytes n ++ rest)) 4 ≡ false = le-ltb _ _ (omega (arith, length-append (four_bytes n) rest)) in
    rw (long, take_at (four_bytes n) rest 4 len, drop_at (four_bytes n) rest 4 len, immediate_back n f) refl

word_again : (n : ℕ) (rest : List ℕ) → n < 2 ^ 64 → word_at (to_le_bytes w64 n ++ rest) ≡ Ok (n, rest)
unfolding word_at
word_again n rest lt =
    let long : ltb (length (to_le_bytes w64 n ++ rest)) 8 ≡ false = le-ltb _ _ (omega (arith, length-append (to_le_bytes w64 n) rest)) in
    rw long (ap (λ (y : ℕ). Ok (y, rest)) (from_le_bytes-to_le_bytes_8 n lt))

register_again : (x upper r : ℕ) (rest : List ℕ) → r < 16 → r / 8 ≡ x % 2 → register_at x upper ((8 * upper + r % 8) ∷ rest) ≡ Ok (r, rest)
unfolding register_at
register_again x upper r rest lt h =
    let back : 8 * (x % 2) + (8 * upper + r % 8) % 8 ≡ r = omega arith in
    rw (eq-eqb ((8 * upper + r % 8) / 8) upper (omega arith)) (ap (λ (y : ℕ). Ok (y, rest)) back)

sib_again : (s : ℕ) (n : ℤ) (rest : List ℕ) → FitsSigned w32 n → sib_at s (s ∷ four_bytes n ++ rest) ≡ Ok (n, rest)
unfolding sib_at
sib_again s n rest f = rw (eq-eqb s s refl) (immediate_again n rest f)

displacement_again : (m : ℕ) (n : ℤ) (rest : List ℕ) → m / 64 ≡ 2 → FitsSigned w32 n
    → displacement_at m ((sib_if (m % 8 == 4) ++ four_bytes n) ++ rest) ≡ Ok (n, rest)
unfolding displacement_at
displacement_again m n rest e f = rw (eq-eqb (m / 64) 2 e) (by (m % 8 == 4))
  where
    by : (t : Bool) → (if t then sib_at 0x24 ((sib_if t ++ four_bytes n) ++ rest) else immediate_at ((sib_if t ++ four_bytes n) ++ rest)) ≡ Ok (n, rest)
    by true = sib_again 0x24 n rest f
    by false = immediate_again n rest f

-- ---- REX.W and ModRM

-- REX.W whose high bits are those of two registers
pub record IsRexOf (x s b : ℕ) : Type 0 where
  pub wide : is_wide x ≡ true
  pub reg : s / 8 ≡ x / 4 % 2
  pub base : b / 8 ≡ x % 2

and_both : (a b : Bool) → a ≡ true → b ≡ true → (a && b) ≡ true
and_both a b h k = rw (h, k) refl

pub rex_of : (s b : ℕ) → s < 16 → b < 16 → IsRexOf (rex s b) s b
rex_of s b h k = record {
  wide = and_both _ _ (eq-eqb ((0x48 + 4 * (s / 8) + b / 8) / 8) 9 (omega arith)) (eq-eqb ((0x48 + 4 * (s / 8) + b / 8) / 2 % 2) 0 (omega arith));
  reg = omega arith;
  base = omega arith;
}

pub reg_back : (x s b form : ℕ) → s < 16 → s / 8 ≡ x / 4 % 2 → reg_field x (modrm form s b) ≡ s
reg_back x s b form h e = omega arith

pub rm_back : (x s b form : ℕ) → b < 16 → b / 8 ≡ x % 2 → rm_field x (modrm form s b) ≡ b
rm_back x s b form h e = omega arith

memory_again : (x s b : ℕ) (n : ℤ) (rest : List ℕ) → IsRexOf x s b → s < 16 → b < 16 → FitsSigned w32 n
    → memory_at x (memory s b n ++ rest) ≡ Ok ((s, b, n), rest)
unfolding memory_at
memory_again x s b n rest r h k f =
    let low : modrm 2 s b % 8 ≡ b % 8 = omega arith in
    let read : displacement_at (modrm 2 s b) ((sib_if (b % 8 == 4) ++ four_bytes n) ++ rest) ≡ Ok (n, rest) =
    subst (λ (y : ℕ). displacement_at (modrm 2 s b) ((sib_if (y == 4) ++ four_bytes n) ++ rest) ≡ Ok (n, rest)) low
    (displacement_again (modrm 2 s b) n rest (omega arith) f) in
    rw read (ap (λ (d : ℕ × ℕ). Ok ((d.0, d.1, n), rest)) (λ i. (reg_back x s b 2 h r.reg i, rm_back x s b 2 k r.base i)))

absolute_again : (x s : ℕ) (n : ℤ) (rest : List ℕ) → s < 16 → s / 8 ≡ x / 4 % 2 → FitsSigned w32 n → absolute_at x (absolute s n ++ rest) ≡ Ok ((s, n), rest)
unfolding absolute_at
absolute_again x s n rest h e f =
    rw (eq-eqb (modrm 0 s 4 / 64) 0 (omega arith), eq-eqb (modrm 0 s 4 % 8) 4 (omega arith), sib_again 0x25 n rest f)
    (ap (λ (y : ℕ). Ok ((y, n), rest)) (reg_back x s 4 0 h e))

-- ---- behind REX.W

wide_first : (x : ℕ) (rest : List ℕ) → is_wide x ≡ true → instruction_at (x ∷ rest) ≡ wide_at x rest
unfolding instruction_at behind_at
wide_first x rest h = rw h refl

two_registers : (x s b : ℕ) → IsRexOf x s b → s < 16 → b < 16 → (make : ℕ → ℕ → Ins) → (rest : List ℕ)
    → (let u : Read Ins = Ok (make (rm_field x (modrm 3 s b)) (reg_field x (modrm 3 s b)), rest) in u) ≡ Ok (make b s, rest)
two_registers x s b r h k make rest = ap (λ (d : ℕ × ℕ). Ok (make d.0 d.1, rest)) (λ i. (rm_back x s b 3 k r.base i, reg_back x s b 3 h r.reg i))

mov_reg_again : (x d s : ℕ) (rest : List ℕ) → IsRexOf x s d → d < 16 → s < 16 → wide_at x (0x89 ∷ registers s d ++ rest) ≡ Ok (MovReg d s, rest)
unfolding wide_at move_at
mov_reg_again x d s rest r h k = rw (eq-eqb (modrm 3 s d / 64) 3 (omega arith)) (two_registers x s d r k h MovReg rest)

store_again : (x b s : ℕ) (n : ℤ) (rest : List ℕ) → IsRexOf x s b → b < 16 → s < 16 → FitsSigned w32 n
    → wide_at x (0x89 ∷ memory s b n ++ rest) ≡ Ok (Store b n s, rest)
unfolding wide_at move_at
store_again x b s n rest r h k f =
    let low : modrm 2 s b % 8 ≡ b % 8 = omega arith in
    let read : displacement_at (modrm 2 s b) ((sib_if (b % 8 == 4) ++ four_bytes n) ++ rest) ≡ Ok (n, rest) =
    subst (λ (y : ℕ). displacement_at (modrm 2 s b) ((sib_if (y == 4) ++ four_bytes n) ++ rest) ≡ Ok (n, rest)) low
    (displacement_again (modrm 2 s b) n rest (omega arith) f) in
    rw (ne_eqb (modrm 2 s b / 64) 3 (λ q. omega arith), read)
    (ap (λ (d : ℕ × ℕ). Ok (Store d.0 n d.1, rest)) (λ i. (rm_back x s b 2 h r.base i, reg_back x s b 2 k r.reg i)))

load_again : (x d b : ℕ) (n : ℤ) (rest : List ℕ) → IsRexOf x d b → d < 16 → b < 16 → FitsSigned w32 n
    → wide_at x (0x8b ∷ memory d b n ++ rest) ≡ Ok (Load d b n, rest)
unfolding wide_at load_at
load_again x d b n rest r h k f = rw (memory_again x d b n rest r h k f) refl

xchg_again : (x b s : ℕ) (n : ℤ) (rest : List ℕ) → IsRexOf x s b → s < 16 → b < 16 → FitsSigned w32 n
    → wide_at x (0x87 ∷ memory s b n ++ rest) ≡ Ok (Xchg b n s, rest)
unfolding wide_at xchg_at
xchg_again x b s n rest r h k f = rw (memory_again x s b n rest r h k f) refl

alu_again : (op : AluOp) (x d s : ℕ) (rest : List ℕ) → IsRexOf x s d → d < 16 → s < 16 → alu_at op x (registers s d ++ rest) ≡ Ok (Alu op d s, rest)
unfolding alu_at
alu_again op x d s rest r h k = rw (eq-eqb (modrm 3 s d / 64) 3 (omega arith)) (two_registers x s d r k h (Alu op) rest)

alu_wide_again : (op : AluOp) (x d s : ℕ) (rest : List ℕ) → IsRexOf x s d → d < 16 → s < 16
    → wide_at x ((8 * alu_number op + 1) ∷ registers s d ++ rest) ≡ Ok (Alu op d s, rest)
unfolding wide_at arithmetic_at alu_opcode alu_of
alu_wide_again Add x d s rest r h k = alu_again Add x d s rest r h k
alu_wide_again Or x d s rest r h k = alu_again Or x d s rest r h k
alu_wide_again And x d s rest r h k = alu_again And x d s rest r h k
alu_wide_again Sub x d s rest r h k = alu_again Sub x d s rest r h k
alu_wide_again Xor x d s rest r h k = alu_again Xor x d s rest r h k
alu_wide_again Cmp x d s rest r h k = alu_again Cmp x d s rest r h k

-- one register behind REX.W
no_reg : (x d : ℕ) → IsRexOf x 0 d → x / 4 % 2 == 0 ≡ true
no_reg x d r = eq-eqb (x / 4 % 2) 0 (omega (arith, r.reg))

-- a number that names one register at most
one_register_first : (x op : ℕ) (rest : List ℕ) → x / 4 % 2 == 0 ≡ true → op == 0x89 ≡ false → op == 0x8b ≡ false → op == 0x87 ≡ false
    → alu_opcode op ≡ None → wide_at x (op ∷ rest) ≡ one_register_at x op rest
unfolding wide_at arithmetic_at
one_register_first x op rest e a b c d = rw (a, b, c, d, e) refl

alu_number_low : (op : AluOp) (d : ℕ) → alu_of (modrm 3 (alu_number op) d / 8 % 8) ≡ Some op
unfolding alu_of
alu_number_low Add d = let e : modrm 3 0 d / 8 % 8 ≡ 0 = omega arith in ap alu_of e
alu_number_low Or d = let e : modrm 3 1 d / 8 % 8 ≡ 1 = omega arith in ap alu_of e
alu_number_low And d = let e : modrm 3 4 d / 8 % 8 ≡ 4 = omega arith in ap alu_of e
alu_number_low Sub d = let e : modrm 3 5 d / 8 % 8 ≡ 5 = omega arith in ap alu_of e
alu_number_low Xor d = let e : modrm 3 6 d / 8 % 8 ≡ 6 = omega arith in ap alu_of e
alu_number_low Cmp d = let e : modrm 3 7 d / 8 % 8 ≡ 7 = omega arith in ap alu_of e

alu_immediate_again : (op : AluOp) (x d : ℕ) (i : ℤ) (rest : List ℕ) → IsRexOf x 0 d → d < 16 → FitsSigned w32 i
    → alu_immediate_at x (modrm 3 (alu_number op) d ∷ four_bytes i ++ rest) ≡ Ok (AluImm op d i, rest)
unfolding alu_immediate_at alu_number_at
alu_immediate_again op x d i rest r h f =
    rw (eq-eqb (modrm 3 (alu_number op) d / 64) 3 (top op), alu_number_low op d, immediate_again i rest f)
    (ap (λ (y : ℕ). Ok (AluImm op y i, rest)) (rm_back x (alu_number op) d 3 h r.base))
  where
    top : (op : AluOp) → modrm 3 (alu_number op) d / 64 ≡ 3
    top op = omega arith

alu_immediate_wide : (op : AluOp) (x d : ℕ) (i : ℤ) (rest : List ℕ) → IsRexOf x 0 d → d < 16 → FitsSigned w32 i
    → wide_at x (0x81 ∷ (registers (alu_number op) d ++ four_bytes i) ++ rest) ≡ Ok (AluImm op d i, rest)
unfolding one_register_at alu_opcode alu_of
alu_immediate_wide op x d i rest r h f =
    one_register_first x 0x81 (modrm 3 (alu_number op) d ∷ four_bytes i ++ rest) (no_reg x d r) refl refl refl refl ∙ alu_immediate_again op x d i rest r h f

no_alu : (op : ℕ) → op / 8 ≡ 23 → alu_opcode op ≡ None
unfolding alu_opcode alu_of
no_alu op e = by (op % 8 == 1)
  where
    by : (t : Bool) → cond t (alu_of (op / 8)) None ≡ None
    by true = ap alu_of e
    by false = refl

mov_immediate_again : (x d n : ℕ) (rest : List ℕ) → IsRexOf x 0 d → d < 16 → n < 2 ^ 64
    → wide_at x ((0xb8 + d % 8) ∷ to_le_bytes w64 n ++ rest) ≡ Ok (MovImm d n, rest)
unfolding one_register_at mov_immediate_at
mov_immediate_again x d n rest r h f =
    let low : (0xb8 + d % 8) / 8 ≡ 23 = omega arith in
    one_register_first x (0xb8 + d % 8) (to_le_bytes w64 n ++ rest) (no_reg x d r) (ne_eqb _ _ (λ q. omega arith)) (ne_eqb _ _ (λ q. omega arith))
    (ne_eqb _ _ (λ q. omega arith)) (no_alu (0xb8 + d % 8) low)
    ∙ rw (eq-eqb ((0xb8 + d % 8) / 8) 23 low, word_again n rest f) (ap (λ (y : ℕ). Ok (MovImm y n, rest)) (opcode_back x d h r.base))
  where
    opcode_back : (x d : ℕ) → d < 16 → d / 8 ≡ x % 2 → 8 * (x % 2) + (0xb8 + d % 8) % 8 ≡ d
    opcode_back x d h e = omega arith

store_immediate_again : (x b : ℕ) (n i : ℤ) (rest : List ℕ) → IsRexOf x 0 b → b < 16 → FitsSigned w32 n → FitsSigned w32 i
    → store_immediate_at x (memory 0 b n ++ (four_bytes i ++ rest)) ≡ Ok (StoreImm b n i, rest)
unfolding store_immediate_at
store_immediate_again x b n i rest r h f g =
    let low : modrm 2 0 b % 8 ≡ b % 8 = omega arith in
    let read : displacement_at (modrm 2 0 b) ((sib_if (b % 8 == 4) ++ four_bytes n) ++ (four_bytes i ++ rest)) ≡ Ok (n, four_bytes i ++ rest) =
    subst (λ (y : ℕ). displacement_at (modrm 2 0 b) ((sib_if (y == 4) ++ four_bytes n) ++ (four_bytes i ++ rest)) ≡ Ok (n, four_bytes i ++ rest)) low
    (displacement_again (modrm 2 0 b) n (four_bytes i ++ rest) (omega arith) f) in
    rw (eq-eqb (modrm 2 0 b / 8 % 8) 0 (omega arith), read, immediate_again i rest g) (ap (λ (y : ℕ). Ok (StoreImm y n i, rest)) (rm_back x 0 b 2 h r.base))

store_immediate_wide : (x b : ℕ) (n i : ℤ) (rest : List ℕ) → IsRexOf x 0 b → b < 16 → FitsSigned w32 n → FitsSigned w32 i
    → wide_at x (0xc7 ∷ (memory 0 b n ++ four_bytes i) ++ rest) ≡ Ok (StoreImm b n i, rest)
unfolding one_register_at alu_opcode alu_of
store_immediate_wide x b n i rest r h f g =
    ap (λ (t : List ℕ). wide_at x (0xc7 ∷ t)) (append_assoc (memory 0 b n) (four_bytes i) rest)
    ∙ one_register_first x 0xc7 (memory 0 b n ++ (four_bytes i ++ rest)) (no_reg x b r) refl refl refl refl ∙ store_immediate_again x b n i rest r h f g

shift_again : (x d n : ℕ) (rest : List ℕ) → IsRexOf x 0 d → d < 16 → is_count n ≡ true → shift_at x (modrm 3 4 d ∷ n ∷ rest) ≡ Ok (Shl d n, rest)
unfolding shift_at count_at
shift_again x d n rest r h c = rw (eq-eqb (modrm 3 4 d / 8) 28 (omega arith), c) (ap (λ (y : ℕ). Ok (Shl y n, rest)) (rm_back x 4 d 3 h r.base))

shift_right_again : (x d n : ℕ) (rest : List ℕ) → IsRexOf x 0 d → d < 16 → is_count n ≡ true → shift_at x (modrm 3 5 d ∷ n ∷ rest) ≡ Ok (Shr d n, rest)
unfolding shift_at count_at
shift_right_again x d n rest r h c =
    rw (ne_eqb (modrm 3 5 d / 8) 28 (λ q. omega arith), eq-eqb (modrm 3 5 d / 8) 29 (omega arith), c)
    (ap (λ (y : ℕ). Ok (Shr y n, rest)) (rm_back x 5 d 3 h r.base))

shl_wide : (x d n : ℕ) (rest : List ℕ) → IsRexOf x 0 d → d < 16 → is_count n ≡ true → wide_at x (0xc1 ∷ modrm 3 4 d ∷ n ∷ rest) ≡ Ok (Shl d n, rest)
unfolding one_register_at alu_opcode alu_of
shl_wide x d n rest r h c = one_register_first x 0xc1 (modrm 3 4 d ∷ n ∷ rest) (no_reg x d r) refl refl refl refl ∙ shift_again x d n rest r h c

shr_wide : (x d n : ℕ) (rest : List ℕ) → IsRexOf x 0 d → d < 16 → is_count n ≡ true → wide_at x (0xc1 ∷ modrm 3 5 d ∷ n ∷ rest) ≡ Ok (Shr d n, rest)
unfolding one_register_at alu_opcode alu_of
shr_wide x d n rest r h c = one_register_first x 0xc1 (modrm 3 5 d ∷ n ∷ rest) (no_reg x d r) refl refl refl refl ∙ shift_right_again x d n rest r h c

sysretq_again : (rest : List ℕ) → instruction_at (spelling Sysretq ++ rest) ≡ Ok (Sysretq, rest)
unfolding spelling instruction_at behind_at wide_at arithmetic_at alu_opcode alu_of one_register_at return_at sysretq_at
sysretq_again rest = refl

iretq_again : (rest : List ℕ) → instruction_at (spelling Iretq ++ rest) ≡ Ok (Iretq, rest)
unfolding spelling instruction_at behind_at wide_at arithmetic_at alu_opcode alu_of one_register_at return_at
iretq_again rest = refl

-- ---- behind the prefixes

-- REX.W of a register in the reg field alone
rex_choice : (s : ℕ) → s < 16 → ((rex s 0 == 0x48) || (rex s 0 == 0x4c)) ≡ true
rex_choice s h = elim (cases_lt s 8) [
  | inl lt ↦ let e : rex s 0 ≡ 0x48 = omega arith in rw (eq-eqb (rex s 0) 0x48 e) refl
  | inr le ↦ let e : rex s 0 ≡ 0x4c = omega arith in rw (eq-eqb (rex s 0) 0x4c e, ne_eqb (rex s 0) 0x48 (λ q. omega arith)) refl
]

gs_first : (s : ℕ) (rest : List ℕ) → s < 16 → instruction_at (0x65 ∷ rex s 0 ∷ rest) ≡ gs_word_at (rex s 0) rest
unfolding instruction_at behind_at gs_at
gs_first s rest h = rw (ne_eqb (rex s 0) 0xff (λ q. omega arith), rex_choice s h) refl

gs_load_again : (d : ℕ) (n : ℤ) (rest : List ℕ) → d < 16 → FitsSigned w32 n → gs_word_at (rex d 0) (0x8b ∷ absolute d n ++ rest) ≡ Ok (GsLoad d n, rest)
unfolding gs_word_at
gs_load_again d n rest h f = rw (absolute_again (rex d 0) d n rest h (omega arith) f) refl

gs_store_again : (s : ℕ) (n : ℤ) (rest : List ℕ) → s < 16 → FitsSigned w32 n → gs_word_at (rex s 0) (0x89 ∷ absolute s n ++ rest) ≡ Ok (GsStore n s, rest)
unfolding gs_word_at
gs_store_again s n rest h f = rw (absolute_again (rex s 0) s n rest h (omega arith) f) refl

gs_push_again : (n : ℤ) (rest : List ℕ) → FitsSigned w32 n → instruction_at (0x65 ∷ 0xff ∷ absolute 6 n ++ rest) ≡ Ok (GsPush n, rest)
unfolding instruction_at behind_at gs_at gs_push_at
gs_push_again n rest f = rw (sib_again 0x25 n rest f) refl

locked_first : (x : ℕ) (rest : List ℕ) → is_wide x ≡ true → instruction_at (0xf0 ∷ x ∷ 0x0f ∷ rest) ≡ exchange_at x rest
unfolding instruction_at behind_at locked_at locked_wide_at
locked_first x rest h = rw h refl

cmpxchg_again : (x b s : ℕ) (n : ℤ) (rest : List ℕ) → IsRexOf x s b → s < 16 → b < 16 → FitsSigned w32 n
    → exchange_at x (0xb1 ∷ memory s b n ++ rest) ≡ Ok (CmpXchg b n s, rest)
unfolding exchange_at
cmpxchg_again x b s n rest r h k f = rw (memory_again x s b n rest r h k f) refl

xadd_again : (x b s : ℕ) (n : ℤ) (rest : List ℕ) → IsRexOf x s b → s < 16 → b < 16 → FitsSigned w32 n
    → exchange_at x (0xc1 ∷ memory s b n ++ rest) ≡ Ok (Xadd b n s, rest)
unfolding exchange_at
xadd_again x b s n rest r h k f = rw (memory_again x s b n rest r h k f) refl

-- ---- one register without REX.W

-- the prefix of a register, and what rex stands for it
pub record Prefixes (r : ℕ) (x : ℕ) (s : List ℕ) : Type 0 where
  pub is : short_rex r ≡ s
  pub high : r / 8 ≡ x % 2

short_low : (r : ℕ) → r < 8 → Prefixes r 0x40 []
short_low r h = record { is = no_prefix.is r (omega arith) (omega arith); high = omega arith }

short_high : (r : ℕ) → r < 16 → 8 ≤ r → Prefixes r 0x41 (0x41 ∷ [])
short_high r h k = record { is = high_prefix.is r h (omega arith); high = omega arith }

-- what holds with either prefix holds
pub either_prefix : (r : ℕ) (P : List ℕ → Type 0) → r < 16 → (Prefixes r 0x40 [] → P []) → (Prefixes r 0x41 (0x41 ∷ []) → P (0x41 ∷ [])) → P (short_rex r)
either_prefix r P h low high = elim (cases_lt r 8) [
  | inl lt ↦ subst P (sym ((short_low r lt).is)) (low (short_low r lt))
  | inr le ↦ subst P (sym ((short_high r h le).is)) (high (short_high r h le))
]

with_register_again : (make : ℕ → Ins) (x upper r : ℕ) (rest : List ℕ) → r < 16 → r / 8 ≡ x % 2
    → with_register_at make x upper ((8 * upper + r % 8) ∷ rest) ≡ Ok (make r, rest)
unfolding with_register_at
with_register_again make x upper r rest lt h = rw (register_again x upper r rest lt h) refl

-- a register in an opcode
opcode_back : (x r op : ℕ) → r < 16 → r / 8 ≡ x % 2 → op % 8 ≡ 0 → rm_field x (op + r % 8) ≡ r
opcode_back x r op h e z = omega arith

push_narrow : (x s : ℕ) (rest : List ℕ) → s < 16 → s / 8 ≡ x % 2 → narrow_at x (0x50 + s % 8) rest ≡ Ok (Push s, rest)
unfolding narrow_at
push_narrow x s rest h e = rw (eq-eqb ((0x50 + s % 8) / 8) 10 (omega arith)) (ap (λ (y : ℕ). Ok (Push y, rest)) (opcode_back x s 0x50 h e refl))

pop_narrow : (x s : ℕ) (rest : List ℕ) → s < 16 → s / 8 ≡ x % 2 → narrow_at x (0x58 + s % 8) rest ≡ Ok (Pop s, rest)
unfolding narrow_at
pop_narrow x s rest h e = rw (ne_eqb ((0x58 + s % 8) / 8) 10 (λ q. omega arith), eq-eqb ((0x58 + s % 8) / 8) 11 (omega arith))
    (ap (λ (y : ℕ). Ok (Pop y, rest)) (opcode_back x s 0x58 h e refl))

-- an opcode that is no prefix and stands alone
narrow_first : (op : ℕ) (rest : List ℕ) → 0x50 ≤ op → op < 0x60 → instruction_at (op ∷ rest) ≡ narrow_at 0x40 op rest
unfolding instruction_at behind_at plain_at
narrow_first op rest h k =
    rw (
      ne_eqb (op / 8) 9 (λ q. omega arith),
      ne_eqb op 0x0f (λ q. omega arith),
      ne_eqb op 0x41 (λ q. omega arith),
      ne_eqb op 0x65 (λ q. omega arith),
      ne_eqb op 0xf0 (λ q. omega arith),
      ne_eqb op 0xf2 (λ q. omega arith),
      ne_eqb op 0xf3 (λ q. omega arith),
      ne_eqb op 0x90 (λ q. omega arith),
      ne_eqb op 0xcc (λ q. omega arith),
      ne_eqb op 0xf1 (λ q. omega arith),
      ne_eqb op 0xfa (λ q. omega arith),
      ne_eqb op 0xfb (λ q. omega arith),
      ne_eqb op 0xe9 (λ q. omega arith),
      ne_eqb op 0x68 (λ q. omega arith),
      ne_eqb op 0xcd (λ q. omega arith),
    ) refl

extended_first : (op : ℕ) (rest : List ℕ) → op == 0x0f ≡ false → instruction_at (0x41 ∷ op ∷ rest) ≡ narrow_at 0x41 op rest
unfolding instruction_at behind_at extended_at
extended_first op rest h = rw h refl

push_again : (s : ℕ) (rest : List ℕ) → s < 16 → instruction_at (spelling (Push s) ++ rest) ≡ Ok (Push s, rest)
unfolding spelling
push_again s rest h =
    either_prefix s (λ p. instruction_at ((p ++ (0x50 + s % 8) ∷ []) ++ rest) ≡ Ok (Push s, rest)) h
    (λ p. narrow_first (0x50 + s % 8) rest (omega arith) (omega arith) ∙ push_narrow 0x40 s rest h p.high)
    (λ p. extended_first (0x50 + s % 8) rest (ne_eqb _ _ (λ q. omega arith)) ∙ push_narrow 0x41 s rest h p.high)

pop_again : (s : ℕ) (rest : List ℕ) → s < 16 → instruction_at (spelling (Pop s) ++ rest) ≡ Ok (Pop s, rest)
unfolding spelling
pop_again s rest h =
    either_prefix s (λ p. instruction_at ((p ++ (0x58 + s % 8) ∷ []) ++ rest) ≡ Ok (Pop s, rest)) h
    (λ p. narrow_first (0x58 + s % 8) rest (omega arith) (omega arith) ∙ pop_narrow 0x40 s rest h p.high)
    (λ p. extended_first (0x58 + s % 8) rest (ne_eqb _ _ (λ q. omega arith)) ∙ pop_narrow 0x41 s rest h p.high)

jmp_reg_again : (s : ℕ) (rest : List ℕ) → s < 16 → instruction_at (spelling (JmpReg s) ++ rest) ≡ Ok (JmpReg s, rest)
unfolding spelling instruction_at behind_at plain_at extended_at narrow_at
jmp_reg_again s rest h =
    either_prefix s (λ p. instruction_at ((p ++ 0xff ∷ registers 4 s) ++ rest) ≡ Ok (JmpReg s, rest)) h
    (λ p. with_register_again JmpReg 0x40 28 s rest h p.high) (λ p. with_register_again JmpReg 0x41 28 s rest h p.high)

mov_gs_again : (s : ℕ) (rest : List ℕ) → s < 16 → instruction_at (spelling (MovGs s) ++ rest) ≡ Ok (MovGs s, rest)
unfolding spelling instruction_at behind_at plain_at extended_at narrow_at
mov_gs_again s rest h =
    either_prefix s (λ p. instruction_at ((p ++ 0x8e ∷ registers 5 s) ++ rest) ≡ Ok (MovGs s, rest)) h
    (λ p. with_register_again MovGs 0x40 29 s rest h p.high) (λ p. with_register_again MovGs 0x41 29 s rest h p.high)

read_cr2_again : (d : ℕ) (rest : List ℕ) → d < 16 → instruction_at (spelling (ReadCr2 d) ++ rest) ≡ Ok (ReadCr2 d, rest)
unfolding spelling instruction_at behind_at two_byte_at cond_of condition_at cr2_at extended_at cr2_high_at
read_cr2_again d rest h =
    either_prefix d (λ p. instruction_at ((p ++ 0x0f ∷ 0x20 ∷ registers 2 d) ++ rest) ≡ Ok (ReadCr2 d, rest)) h
    (λ p. with_register_again ReadCr2 0x40 26 d rest h p.high) (λ p. with_register_again ReadCr2 0x41 26 d rest h p.high)

write_cr2_again : (s : ℕ) (rest : List ℕ) → s < 16 → instruction_at (spelling (WriteCr2 s) ++ rest) ≡ Ok (WriteCr2 s, rest)
unfolding spelling instruction_at behind_at two_byte_at cond_of condition_at cr2_at extended_at cr2_high_at
write_cr2_again s rest h =
    either_prefix s (λ p. instruction_at ((p ++ 0x0f ∷ 0x22 ∷ registers 2 s) ++ rest) ≡ Ok (WriteCr2 s, rest)) h
    (λ p. with_register_again WriteCr2 0x40 26 s rest h p.high) (λ p. with_register_again WriteCr2 0x41 26 s rest h p.high)

lkgs_again : (s : ℕ) (rest : List ℕ) → s < 16 → instruction_at (spelling (Lkgs s) ++ rest) ≡ Ok (Lkgs s, rest)
unfolding spelling instruction_at behind_at repne_at lkgs_high_at lkgs_at lkgs_or_erets_at
lkgs_again s rest h =
    either_prefix s (λ p. instruction_at ((0xf2 ∷ p ++ 0x0f ∷ 0x00 ∷ registers 6 s) ++ rest) ≡ Ok (Lkgs s, rest)) h
    (λ p. with_register_again Lkgs 0x40 30 s rest h p.high) (λ p. with_register_again Lkgs 0x41 30 s rest h p.high)

-- ---- jumps and numbers

jmp_again : (n : ℤ) (rest : List ℕ) → FitsSigned w32 n → instruction_at (spelling (Jmp n) ++ rest) ≡ Ok (Jmp n, rest)
unfolding spelling instruction_at behind_at plain_at with_immediate_at
jmp_again n rest f = rw (immediate_again n rest f) refl

push_imm_again : (n : ℤ) (rest : List ℕ) → FitsSigned w32 n → instruction_at (spelling (PushImm n) ++ rest) ≡ Ok (PushImm n, rest)
unfolding spelling instruction_at behind_at plain_at with_immediate_at
push_imm_again n rest f = rw (immediate_again n rest f) refl

jcc_again : (c : Cond) (n : ℤ) (rest : List ℕ) → FitsSigned w32 n → instruction_at (spelling (Jcc c n) ++ rest) ≡ Ok (Jcc c n, rest)
unfolding spelling instruction_at behind_at two_byte_at cond_of condition_at
jcc_again Z n rest f = rw (immediate_again n rest f) refl
jcc_again Nz n rest f = rw (immediate_again n rest f) refl
jcc_again C n rest f = rw (immediate_again n rest f) refl
jcc_again Nc n rest f = rw (immediate_again n rest f) refl
jcc_again S n rest f = rw (immediate_again n rest f) refl
jcc_again Ns n rest f = rw (immediate_again n rest f) refl

int_again : (n : ℕ) (rest : List ℕ) → instruction_at (spelling (IntN n) ++ rest) ≡ Ok (IntN n, rest)
unfolding spelling instruction_at behind_at plain_at int_at
int_again n rest = refl

-- ---- all of them

-- What the reader needs of an instruction's fields. A vector may be any number, and a shift's count is tested.
abbrev pub FieldsRead : Ins → Type 0
FieldsRead (IntN n) = Unit {0}
FieldsRead (Shl d n) = d < 16
FieldsRead (Shr d n) = d < 16
FieldsRead i = FieldsFit i

pub again : (i : Ins) (rest : List ℕ) → FieldsRead i → is_instruction i ≡ true → instruction_at (spelling i ++ rest) ≡ Ok (i, rest)
unfolding spelling is_instruction instruction_at behind_at plain_at two_byte_at last_at cond_of condition_at repne_at lkgs_or_erets_at rep_at eretu_at
again (MovImm d n) rest f c = let r = rex_of 0 d (omega arith) f.0 in wide_first (rex 0 d) _ r.wide ∙ mov_immediate_again (rex 0 d) d n rest r f.0 f.1
again (MovReg d s) rest f c = let r = rex_of s d f.1 f.0 in wide_first (rex s d) _ r.wide ∙ mov_reg_again (rex s d) d s rest r f.0 f.1
again (Load d b n) rest f c = let r = rex_of d b f.0 f.1 in wide_first (rex d b) _ r.wide ∙ load_again (rex d b) d b n rest r f.0 f.1 f.2
again (Store b n s) rest f c = let r = rex_of s b f.2 f.0 in wide_first (rex s b) _ r.wide ∙ store_again (rex s b) b s n rest r f.0 f.2 f.1
again (StoreImm b n i) rest f c = let r = rex_of 0 b (omega arith) f.0 in
    wide_first (rex 0 b) _ r.wide ∙ store_immediate_wide (rex 0 b) b n i rest r f.0 f.1 f.2
again (GsLoad d n) rest f c = gs_first d _ f.0 ∙ gs_load_again d n rest f.0 f.1
again (GsStore n s) rest f c = gs_first s _ f.1 ∙ gs_store_again s n rest f.1 f.0
again (GsPush n) rest f c = gs_push_again n rest f
again (Alu op d s) rest f c = let r = rex_of s d f.1 f.0 in wide_first (rex s d) _ r.wide ∙ alu_wide_again op (rex s d) d s rest r f.0 f.1
again (AluImm op d i) rest f c = let r = rex_of 0 d (omega arith) f.0 in wide_first (rex 0 d) _ r.wide ∙ alu_immediate_wide op (rex 0 d) d i rest r f.0 f.1
again (Shl d n) rest f c = let r = rex_of 0 d (omega arith) f in wide_first (rex 0 d) _ r.wide ∙ shl_wide (rex 0 d) d n rest r f c
again (Shr d n) rest f c = let r = rex_of 0 d (omega arith) f in wide_first (rex 0 d) _ r.wide ∙ shr_wide (rex 0 d) d n rest r f c
again (Xchg b n s) rest f c = let r = rex_of s b f.2 f.0 in wide_first (rex s b) _ r.wide ∙ xchg_again (rex s b) b s n rest r f.2 f.0 f.1
again (CmpXchg b n s) rest f c = let r = rex_of s b f.2 f.0 in locked_first (rex s b) _ r.wide ∙ cmpxchg_again (rex s b) b s n rest r f.2 f.0 f.1
again (Xadd b n s) rest f c = let r = rex_of s b f.2 f.0 in locked_first (rex s b) _ r.wide ∙ xadd_again (rex s b) b s n rest r f.2 f.0 f.1
again (Jmp n) rest f c = jmp_again n rest f
again (Jcc cond n) rest f c = jcc_again cond n rest f
again (JmpReg s) rest f c = jmp_reg_again s rest f
again (Push s) rest f c = push_again s rest f
again (PushImm n) rest f c = push_imm_again n rest f
again (Pop d) rest f c = pop_again d rest f
again (IntN n) rest f c = int_again n rest
again (Lkgs s) rest f c = lkgs_again s rest f
again (MovGs s) rest f c = mov_gs_again s rest f
again (ReadCr2 d) rest f c = read_cr2_again d rest f
again (WriteCr2 s) rest f c = write_cr2_again s rest f
again Nop rest f c = refl
again Int3 rest f c = refl
again Int1 rest f c = refl
again Syscall rest f c = refl
again Sysretq rest f c = sysretq_again rest
again Iretq rest f c = iretq_again rest
again Swapgs rest f c = refl
again Eretu rest f c = refl
again Erets rest f c = refl
again Rdmsr rest f c = refl
again Wrmsr rest f c = refl
again Sti rest f c = refl
again Cli rest f c = refl
again Ud2 rest f c = refl
