-- The readers of instructions behind REX.W, GS and LOCK take what they spell.
use Rattle.std.proofs.Common.{◌≡◌, ℕ, ℤ, pos, ◌+◌, ◌*◌, ◌/◌, ◌%◌, ◌<◌, Bool, true, false, ◌||◌, ◌⊎◌, cond, List, [], ◌∷◌, ◌++◌, Option, Some, None, Ok, refl, sym, ap, subst, ◌∙◌, append_assoc, arith, ◌==◌, inl, inr}
use Rattle.std.specs.Int.{w64, to_le_bytes}
use Rattle.std.proofs.lemmas.Bool.{eqb-true}
use Rattle.ev_isa.specs.declared.instruction.AluOp.{AluOp}
use Rattle.ev_isa.specs.declared.instruction.AluOp.TheVariants.{Add, Or, And, Sub, Xor, Cmp}
use Rattle.ev_isa.specs.declared.instruction.Ins.TheVariants.{MovImm, MovReg, Load, Store, StoreImm, GsLoad, GsStore, GsPush, Alu, AluImm, Shl, Shr, Xchg, CmpXchg, Xadd, Sysretq, Iretq}
use Rattle.ev_isa.specs.Instruction.{is_instruction}
use Rattle.ev_isa.specs.Spelling.{spelling, four_bytes, modrm, rex, registers, memory, absolute, alu_number}
use Rattle.ev_code.specs.Reader.{◌>>=◌, immediate_at, count_at, sib_at, displacement_at, memory_at, absolute_at, reg_field, rm_field, alu_of, alu_opcode, is_wide, move_at, alu_at, alu_number_at, alu_immediate_at, store_immediate_at, shift_at, sysretq_at, return_at, mov_immediate_at, one_register_at, load_at, xchg_at, arithmetic_at, wide_at, gs_push_at, gs_word_at, gs_at, exchange_at, locked_wide_at, locked_at}
use Rattle.ev_code.proofs.Parts.{IsReader, IsLive, done, stop, choose, pick, under, field, next, live}
use Rattle.ev_code.proofs.FieldReads.{zeros, and_true, immediate_field, word_field, count_field, sib_field, sib_if, displacement_field, IsMemory, memory_field, absolute_field}

-- REX.W without X
pub record IsRex (x : ℕ) : Type 0 where
  pub wide : x / 8 ≡ 9
  pub no_index : x / 2 % 2 ≡ 0

-- ---- moves and operations

two_registers_back : (x m : ℕ) (op : ℕ) (bytes : List ℕ) → IsRex x → m < 256 → m / 64 ≡ 3
    → x ∷ op ∷ m ∷ bytes ≡ (rex (reg_field x m) (rm_field x m) ∷ op ∷ registers (reg_field x m) (rm_field x m)) ++ bytes
two_registers_back x m op bytes r h e =
    let k : x ≡ rex (reg_field x m) (rm_field x m) = omega (arith, r.wide, r.no_index) in
    let l : m ≡ modrm 3 (reg_field x m) (rm_field x m) = omega arith in
    ap (λ (d : ℕ × ℕ). d.0 ∷ op ∷ d.1 ∷ bytes) (λ i. (k i, l i))

memory_back : (x op m : ℕ) (n : ℤ) (bytes : List ℕ) → IsRex x → m < 256 → m / 64 ≡ 2
    → x ∷ op ∷ m ∷ (sib_if (m % 8 == 4) ++ four_bytes n) ++ bytes ≡ (rex (reg_field x m) (rm_field x m) ∷ op ∷ memory (reg_field x m) (rm_field x m) n) ++ bytes
memory_back x op m n bytes r h e =
    let j : x ≡ rex (reg_field x m) (rm_field x m) = omega (arith, r.wide, r.no_index) in
    let k : m ≡ modrm 2 (reg_field x m) (rm_field x m) = omega arith in
    let l : m % 8 ≡ rm_field x m % 8 = omega arith in
    ap (λ (d : ℕ × ℕ × ℕ). d.0 ∷ op ∷ d.1 ∷ (sib_if (d.2 == 4) ++ four_bytes n) ++ bytes) (λ i. (j i, k i, l i))

pub move_live : (x : ℕ) → IsLive (move_at x)
unfolding move_at
move_live x = live _ (0xc0 ∷ []) (MovReg (rm_field x 0xc0) (reg_field x 0xc0)) refl refl

pub move_reads : (x : ℕ) → IsRex x → IsReader (Unit {0}) (λ bytes. x ∷ 0x89 ∷ bytes) (move_at x)
unfolding move_at spelling is_instruction
move_reads x r =
    next _ _ _ _ _ 0xc0 (omega arith) (live _ [] (MovReg (rm_field x 0xc0) (reg_field x 0xc0)) refl refl)
    (λ m. choose _ _ _ _ (m / 64 == 3) _ _
    (λ t. let e : m / 64 ≡ 3 = eqb-true _ _ t in
    done _ _ _ _ (MovReg (rm_field x m) (reg_field x m))
    (λ v. (record { fields = (omega arith, omega arith); counts = refl }, λ bytes. two_registers_back x m 0x89 bytes r v.1 e)))
    (λ t. field _ _ _ _ _ _ _ _ (displacement_field m)
    (λ n. done _ _ _ _ (Store (rm_field x m) n (reg_field x m))
    (λ v. (record { fields = (omega arith, v.1.0, omega arith); counts = refl }, λ bytes. memory_back x 0x89 m n bytes r v.0.1 v.1.1)))
    (λ n. live _ [] (Store (rm_field x m) n (reg_field x m)) refl refl)))

pub alu_reads : (op : AluOp) (x : ℕ) → IsRex x → IsReader (Unit {0}) (λ bytes. x ∷ (8 * alu_number op + 1) ∷ bytes) (alu_at op x)
unfolding alu_at spelling is_instruction
alu_reads op x r =
    next _ _ _ _ _ 0xc0 (omega arith) (live _ [] (Alu op (rm_field x 0xc0) (reg_field x 0xc0)) refl refl)
    (λ m. choose _ _ _ _ (m / 64 == 3) _ _
    (λ t. let e : m / 64 ≡ 3 = eqb-true _ _ t in
    done _ _ _ _ (Alu op (rm_field x m) (reg_field x m))
    (λ v. (record { fields = (omega arith, omega arith); counts = refl }, λ bytes. two_registers_back x m (8 * alu_number op + 1) bytes r v.1 e)))
    (λ t. stop _ _ _ _))

-- ---- operations by their numbers

-- one case of a choice by numbers
pub number_step : {A : Type 0} (number : A → ℕ) (n k : ℕ) (a x : A) (rest : Option A) → k ≡ number a → (rest ≡ Some x → n ≡ number x)
    → (t : Bool) → n == k ≡ t → cond t (Some a) rest ≡ Some x → n ≡ number x
number_step number n k a x rest at others true e h = let same_number : n ≡ k = eqb-true n k e in cc
number_step number n k a x rest at others false e h = others h

alu_step : (n k : ℕ) (a op : AluOp) (rest : Option AluOp) → k ≡ alu_number a → (rest ≡ Some op → n ≡ alu_number op) → cond (n == k) (Some a) rest ≡ Some op
    → n ≡ alu_number op
alu_step n k a op rest at others h = number_step alu_number n k a op rest at others (n == k) refl h

pub alu_of_back : (n : ℕ) (op : AluOp) → alu_of n ≡ Some op → n ≡ alu_number op
unfolding alu_of
alu_of_back n op h =
    alu_step n 0 Add op _ refl (λ h1. alu_step n 1 Or op _ refl (λ h2. alu_step n 4 And op _ refl (λ h3. alu_step n 5 Sub op _ refl
    (λ h4. alu_step n 6 Xor op _ refl (λ h5. alu_step n 7 Cmp op _ refl (λ h6. absurd cc) h5) h4) h3) h2) h1) h

pub alu_opcode_back : (n : ℕ) (op : AluOp) → alu_opcode n ≡ Some op → n ≡ 8 * alu_number op + 1
unfolding alu_opcode
alu_opcode_back n op h = by (n % 8 == 1) refl h
  where
    by : (t : Bool) → n % 8 == 1 ≡ t → cond t (alu_of (n / 8)) None ≡ Some op → n ≡ 8 * alu_number op + 1
    by true e k =
        let low : n % 8 ≡ 1 = eqb-true _ _ e in
        let high : n / 8 ≡ alu_number op = alu_of_back (n / 8) op k in
        omega arith
    by false e k = absurd cc

one_register_back : (x : ℕ) (m : ℕ) → IsRex x → x / 4 % 2 ≡ 0 → x ≡ rex 0 (rm_field x m)
one_register_back x m r z = omega (arith, r.wide, r.no_index)

alu_number_reads : (o : Option AluOp) (x m : ℕ) → alu_of (m / 8 % 8) ≡ o → IsRex x → x / 4 % 2 ≡ 0 → m / 64 ≡ 3
    → IsReader (Unit {0} × (m < 256)) (λ bytes. x ∷ 0x81 ∷ m ∷ bytes) (alu_number_at o (rm_field x m))
unfolding alu_number_at spelling is_instruction
alu_number_reads None x m o r z e = stop _ _ _ _
alu_number_reads (Some op) x m o r z e =
    field _ _ _ _ _ _ _ _ immediate_field
    (λ n. done _ _ _ _ (AluImm op (rm_field x m) n) (λ v. (
      record { fields = (omega arith, v.1); counts = refl },
      λ bytes.
          let number : m / 8 % 8 ≡ alu_number op = alu_of_back (m / 8 % 8) op o in
          let j : x ≡ rex 0 (rm_field x m) = one_register_back x m r z in
          let lt = v.0.1 in
          let k : m ≡ modrm 3 (alu_number op) (rm_field x m) = omega arith in
          ap (λ (d : ℕ × ℕ). d.0 ∷ 0x81 ∷ d.1 ∷ four_bytes n ++ bytes) (λ i. (j i, k i)),
    )))
    (λ n. live _ [] (AluImm op (rm_field x m) n) refl refl)

alu_number_live : (d : ℕ) → IsLive (alu_number_at (Some Add) d)
unfolding alu_number_at immediate_at zeros
alu_number_live d = live _ (0 ∷ 0 ∷ 0 ∷ 0 ∷ []) (AluImm Add d (pos 0)) refl refl

alu_immediate_reads : (x : ℕ) → IsRex x → x / 4 % 2 ≡ 0 → IsReader (Unit {0}) (λ bytes. x ∷ 0x81 ∷ bytes) (alu_immediate_at x)
unfolding alu_immediate_at alu_of
alu_immediate_reads x r z =
    next _ _ _ _ _ 0xc0 (omega arith) (alu_number_live (rm_field x 0xc0))
    (λ m. choose _ _ _ _ (m / 64 == 3) _ _
    (λ t. alu_number_reads (alu_of (m / 8 % 8)) x m refl r z (eqb-true _ _ t))
    (λ t. stop _ _ _ _))

-- ---- what has one register behind REX.W

store_back : (x m : ℕ) (n i : ℤ) (bytes : List ℕ) → IsRex x → x / 4 % 2 ≡ 0 → m < 256 → m / 64 ≡ 2 → m / 8 % 8 ≡ 0
    → x ∷ 0xc7 ∷ m ∷ (sib_if (m % 8 == 4) ++ four_bytes n) ++ (four_bytes i ++ bytes)
    ≡ (rex 0 (rm_field x m) ∷ 0xc7 ∷ memory 0 (rm_field x m) n ++ four_bytes i) ++ bytes
store_back x m n i bytes r z h e g =
    let j : x ≡ rex 0 (rm_field x m) = one_register_back x m r z in
    let k : m ≡ modrm 2 0 (rm_field x m) = omega arith in
    let l : m % 8 ≡ rm_field x m % 8 = omega arith in
    ap (λ (d : ℕ × ℕ × ℕ). d.0 ∷ 0xc7 ∷ d.1 ∷ (sib_if (d.2 == 4) ++ four_bytes n) ++ (four_bytes i ++ bytes)) (λ i. (j i, k i, l i))
    ∙ ap (λ (t : List ℕ). rex 0 (rm_field x m) ∷ 0xc7 ∷ modrm 2 0 (rm_field x m) ∷ t)
    (sym (append_assoc (sib_if (rm_field x m % 8 == 4) ++ four_bytes n) (four_bytes i) bytes))

store_live : (x m : ℕ) (n : ℤ) → IsLive (λ bytes. immediate_at bytes >>= λ i. Ok (StoreImm (rm_field x m) n i.0, i.1))
unfolding immediate_at zeros
store_live x m n = live _ (0 ∷ 0 ∷ 0 ∷ 0 ∷ []) (StoreImm (rm_field x m) n (pos 0)) refl refl

store_immediate_live : (x : ℕ) → IsLive (store_immediate_at x)
unfolding store_immediate_at displacement_at immediate_at zeros
store_immediate_live x = live _ (0x80 ∷ zeros 8) (StoreImm (rm_field x 0x80) (pos 0) (pos 0)) refl refl

store_tail_live : (x : ℕ) → IsLive (λ bytes. displacement_at 0x80 bytes >>= λ n. immediate_at n.1 >>= λ i. Ok (StoreImm (rm_field x 0x80) n.0 i.0, i.1))
unfolding displacement_at immediate_at zeros
store_tail_live x = live _ (zeros 8) (StoreImm (rm_field x 0x80) (pos 0) (pos 0)) refl refl

store_immediate_reads : (x : ℕ) → IsRex x → x / 4 % 2 ≡ 0 → IsReader (Unit {0}) (λ bytes. x ∷ 0xc7 ∷ bytes) (store_immediate_at x)
unfolding store_immediate_at spelling is_instruction
store_immediate_reads x r z =
    next _ _ _ _ _ 0x80 (omega arith) (store_tail_live x)
    (λ m. choose _ _ _ _ (m / 8 % 8 == 0) _ _
    (λ t. let g : m / 8 % 8 ≡ 0 = eqb-true _ _ t in
    field _ _ _ _ _ _ _ _ (displacement_field m)
    (λ n. field _ _ _ _ _ _ _ _ immediate_field
    (λ i. done _ _ _ _ (StoreImm (rm_field x m) n i)
    (λ v. (record { fields = (omega arith, v.0.1.0, v.1); counts = refl }, λ bytes. store_back x m n i bytes r z v.0.0.1 v.0.1.1 g)))
    (λ i. live _ [] (StoreImm (rm_field x m) n i) refl refl))
    (λ n. store_live x m n))
    (λ t. stop _ _ _ _))

shift_back : (x m upper : ℕ) (reg n : ℕ) (bytes : List ℕ) → IsRex x → x / 4 % 2 ≡ 0 → m / 8 ≡ upper → upper ≡ 24 + reg → reg < 8
    → x ∷ 0xc1 ∷ m ∷ n ∷ bytes ≡ (rex 0 (rm_field x m) ∷ 0xc1 ∷ registers reg (rm_field x m) ++ n ∷ []) ++ bytes
shift_back x m upper reg n bytes r z e u lt =
    let j : x ≡ rex 0 (rm_field x m) = one_register_back x m r z in
    let k : m ≡ modrm 3 reg (rm_field x m) = omega arith in
    ap (λ (d : ℕ × ℕ). d.0 ∷ 0xc1 ∷ d.1 ∷ n ∷ bytes) (λ i. (j i, k i))

shift_live : (x : ℕ) → IsLive (λ bytes. count_at bytes >>= λ n. Ok (Shl (rm_field x 0xe0) n.0, n.1))
unfolding count_at
shift_live x = live _ (1 ∷ []) (Shl (rm_field x 0xe0) 1) refl refl

shift_reads : (x : ℕ) → IsRex x → x / 4 % 2 ≡ 0 → IsReader (Unit {0}) (λ bytes. x ∷ 0xc1 ∷ bytes) (shift_at x)
unfolding shift_at spelling is_instruction
shift_reads x r z =
    next _ _ _ _ _ 0xe0 (omega arith) (shift_live x)
    (λ m. choose _ _ _ _ (m / 8 == 28) _ _
    (λ t. let e : m / 8 ≡ 28 = eqb-true _ _ t in
    field _ _ _ _ _ _ _ _ count_field
    (λ n. done _ _ _ _ (Shl (rm_field x m) n)
    (λ v. (record { fields = (omega arith, v.1.1); counts = v.1.0 }, λ bytes. shift_back x m 28 4 n bytes r z e refl (omega arith))))
    (λ n. live _ [] (Shl (rm_field x m) n) refl refl))
    (λ t. choose _ _ _ _ (m / 8 == 29) _ _
    (λ t. let e : m / 8 ≡ 29 = eqb-true _ _ t in
    field _ _ _ _ _ _ _ _ count_field
    (λ n. done _ _ _ _ (Shr (rm_field x m) n)
    (λ v. (record { fields = (omega arith, v.1.1); counts = v.1.0 }, λ bytes. shift_back x m 29 5 n bytes r z e refl (omega arith))))
    (λ n. live _ [] (Shr (rm_field x m) n) refl refl))
    (λ t. stop _ _ _ _)))

sysretq_reads : IsReader (Unit {0}) (λ bytes. 0x48 ∷ 0x0f ∷ bytes) sysretq_at
unfolding sysretq_at spelling is_instruction
sysretq_reads =
    next _ _ _ _ _ 0x07 (omega arith) (live _ [] Sysretq refl refl)
    (λ x. pick _ (λ y bytes. 0x48 ∷ 0x0f ∷ y ∷ bytes) _ _ x 0x07 _ _ (done _ _ _ _ Sysretq (λ v. (record { fields = tt; counts = refl }, λ bytes. refl)))
    (stop _ _ _ _))

return_reads : (op : ℕ) → IsReader (Unit {0}) (λ bytes. 0x48 ∷ op ∷ bytes) (return_at op)
unfolding return_at spelling is_instruction
return_reads op =
    pick _ (λ y bytes. 0x48 ∷ y ∷ bytes) _ _ op 0x0f _ _ sysretq_reads
    (pick _ (λ y bytes. 0x48 ∷ y ∷ bytes) _ _ op 0xcf _ _ (done _ _ _ _ Iretq (λ v. (record { fields = tt; counts = refl }, λ bytes. refl))) (stop _ _ _ _))

mov_immediate_reads : (x op : ℕ) → IsRex x → x / 4 % 2 ≡ 0 → op / 8 ≡ 23 → IsReader (Unit {0}) (λ bytes. x ∷ op ∷ bytes) (mov_immediate_at (rm_field x op))
unfolding mov_immediate_at spelling is_instruction
mov_immediate_reads x op r z e =
    field _ _ _ _ _ _ _ _ word_field
    (λ n. done _ _ _ _ (MovImm (rm_field x op) n) (λ v. (
      record { fields = (omega arith, v.1); counts = refl },
      λ bytes.
          let j : x ≡ rex 0 (rm_field x op) = one_register_back x op r z in
          let k : op ≡ 0xb8 + rm_field x op % 8 = omega arith in
          ap (λ (d : ℕ × ℕ). d.0 ∷ d.1 ∷ to_le_bytes w64 n ++ bytes) (λ i. (j i, k i)),
    )))
    (λ n. live _ [] (MovImm (rm_field x op) n) refl refl)

one_register_reads : (x op : ℕ) → IsRex x → x / 4 % 2 ≡ 0 → IsReader (Unit {0}) (λ bytes. x ∷ op ∷ bytes) (one_register_at x op)
unfolding one_register_at
one_register_reads x op r z =
    choose _ _ _ _ (op / 8 == 23) _ _ (λ t. mov_immediate_reads x op r z (eqb-true _ _ t))
    (λ t. pick _ (λ y bytes. x ∷ y ∷ bytes) _ _ op 0x81 _ _ (alu_immediate_reads x r z)
    (pick _ (λ y bytes. x ∷ y ∷ bytes) _ _ op 0xc1 _ _ (shift_reads x r z)
    (pick _ (λ y bytes. x ∷ y ∷ bytes) _ _ op 0xc7 _ _ (store_immediate_reads x r z)
    (pick _ (λ y bytes. y ∷ op ∷ bytes) _ _ x 0x48 _ _ (return_reads op) (stop _ _ _ _)))))

-- ---- memory operands

rex_of_memory : (x : ℕ) (e : ℕ × ℕ × ℤ) → IsRex x → IsMemory x e → x ≡ rex e.0 e.1
rex_of_memory x e r m = omega (arith, r.wide, r.no_index, m.high_reg, m.high_base)

load_reads : (x : ℕ) → IsRex x → IsReader (Unit {0}) (λ bytes. x ∷ 0x8b ∷ bytes) (load_at x)
unfolding load_at spelling is_instruction
load_reads x r =
    field _ _ _ _ _ _ _ _ (memory_field x)
    (λ e. done _ _ _ _ (Load e.0 e.1 e.2)
    (λ v. (
      record { fields = (v.1.reg, v.1.base, v.1.fits); counts = refl },
      λ bytes. ap (λ (y : ℕ). y ∷ 0x8b ∷ memory e.0 e.1 e.2 ++ bytes)
          (rex_of_memory x e r v.1),
    )))
    (λ e. live _ [] (Load e.0 e.1 e.2) refl refl)

xchg_reads : (x : ℕ) → IsRex x → IsReader (Unit {0}) (λ bytes. x ∷ 0x87 ∷ bytes) (xchg_at x)
unfolding xchg_at spelling is_instruction
xchg_reads x r =
    field _ _ _ _ _ _ _ _ (memory_field x)
    (λ e. done _ _ _ _ (Xchg e.1 e.2 e.0)
    (λ v. (
      record { fields = (v.1.base, v.1.fits, v.1.reg); counts = refl },
      λ bytes. ap (λ (y : ℕ). y ∷ 0x87 ∷ memory e.0 e.1 e.2 ++ bytes)
          (rex_of_memory x e r v.1),
    )))
    (λ e. live _ [] (Xchg e.1 e.2 e.0) refl refl)

arithmetic_reads : (o : Option AluOp) (x op : ℕ) → alu_opcode op ≡ o → IsRex x → IsReader (Unit {0}) (λ bytes. x ∷ op ∷ bytes) (arithmetic_at o x op)
unfolding arithmetic_at
arithmetic_reads (Some alu) x op e r =
    subst (λ (y : ℕ). IsReader (Unit {0}) (λ bytes. x ∷ y ∷ bytes) (alu_at alu x)) (sym (alu_opcode_back op alu e)) (alu_reads alu x r)
arithmetic_reads None x op e r =
    choose _ _ _ _ (x / 4 % 2 == 0) _ _ (λ t. one_register_reads x op r (eqb-true _ _ t)) (λ t. stop _ _ _ _)

pub wide_live : (x : ℕ) → IsLive (wide_at x)
unfolding wide_at move_at
wide_live x = live _ (0x89 ∷ 0xc0 ∷ []) (MovReg (rm_field x 0xc0) (reg_field x 0xc0)) refl refl

pub wide_reads : (x : ℕ) → IsRex x → IsReader (Unit {0}) (λ bytes. x ∷ bytes) (wide_at x)
unfolding wide_at
wide_reads x r =
    next _ _ _ _ _ 0x89 (omega arith) (move_live x)
    (λ op. pick _ (λ y bytes. x ∷ y ∷ bytes) _ _ op 0x89 _ _ (move_reads x r)
    (pick _ (λ y bytes. x ∷ y ∷ bytes) _ _ op 0x8b _ _ (load_reads x r)
    (pick _ (λ y bytes. x ∷ y ∷ bytes) _ _ op 0x87 _ _ (xchg_reads x r)
    (under _ _ _ _ _ (arithmetic_reads (alu_opcode op) x op refl r)))))

-- ---- behind GS

gs_push_tail : IsLive (λ bytes. sib_at 0x25 bytes >>= λ n. Ok (GsPush n.0, n.1))
unfolding sib_at immediate_at zeros
gs_push_tail = live _ (0x25 ∷ zeros 4) (GsPush (pos 0)) refl refl

gs_push_reads : IsReader (Unit {0}) (λ bytes. 0x65 ∷ 0xff ∷ bytes) gs_push_at
unfolding gs_push_at spelling is_instruction
gs_push_reads =
    next _ _ _ _ _ 0x34 (omega arith) gs_push_tail
    (λ m. pick _ (λ y bytes. 0x65 ∷ 0xff ∷ y ∷ bytes) _ _ m 0x34 _ _
    (field _ _ _ _ _ _ _ _ (sib_field 0x25 (omega arith))
    (λ n. done _ _ _ _ (GsPush n) (λ v. (record { fields = v.1; counts = refl }, λ bytes. refl)))
    (λ n. live _ [] (GsPush n) refl refl))
    (stop _ _ _ _))

-- REX.W without X and B
pub record IsRegRex (x : ℕ) : Type 0 where
  pub rex : IsRex x
  pub no_base : x % 2 ≡ 0

rex_of_reg : (x d : ℕ) → IsRegRex x → d / 8 ≡ x / 4 % 2 → x ≡ rex d 0
rex_of_reg x d r e = omega (arith, r.rex.wide, r.rex.no_index, r.no_base)

gs_load_live : (x : ℕ) → IsLive (λ bytes. absolute_at x bytes >>= λ e. Ok (GsLoad e.0.0 e.0.1, e.1))
unfolding absolute_at sib_at immediate_at zeros
gs_load_live x = live _ (4 ∷ 0x25 ∷ zeros 4) (GsLoad (reg_field x 4) (pos 0)) refl refl

gs_word_live : (x : ℕ) → IsLive (gs_word_at x)
unfolding gs_word_at absolute_at sib_at immediate_at zeros
gs_word_live x = live _ (0x8b ∷ 4 ∷ 0x25 ∷ zeros 4) (GsLoad (reg_field x 4) (pos 0)) refl refl

gs_word_reads : (x : ℕ) → IsRegRex x → IsReader (Unit {0}) (λ bytes. 0x65 ∷ x ∷ bytes) (gs_word_at x)
unfolding gs_word_at spelling is_instruction
gs_word_reads x r =
    next _ _ _ _ _ 0x8b (omega arith) (gs_load_live x)
    (λ op. pick _ (λ y bytes. 0x65 ∷ x ∷ y ∷ bytes) _ _ op 0x8b _ _
    (field _ _ _ _ _ _ _ _ (absolute_field x)
    (λ e. done _ _ _ _ (GsLoad e.0 e.1)
    (λ v. (
      record { fields = (v.1.0, v.1.1); counts = refl },
      λ bytes. ap (λ (y : ℕ). 0x65 ∷ y ∷ 0x8b ∷ absolute e.0 e.1 ++ bytes)
          (rex_of_reg x e.0 r v.1.2),
    )))
    (λ e. live _ [] (GsLoad e.0 e.1) refl refl))
    (pick _ (λ y bytes. 0x65 ∷ x ∷ y ∷ bytes) _ _ op 0x89 _ _
    (field _ _ _ _ _ _ _ _ (absolute_field x)
    (λ e. done _ _ _ _ (GsStore e.1 e.0)
    (λ v. (
      record { fields = (v.1.1, v.1.0); counts = refl },
      λ bytes. ap (λ (y : ℕ). 0x65 ∷ y ∷ 0x89 ∷ absolute e.0 e.1 ++ bytes)
          (rex_of_reg x e.0 r v.1.2),
    )))
    (λ e. live _ [] (GsStore e.1 e.0) refl refl))
    (stop _ _ _ _)))

or_true : (a b : Bool) → (a || b) ≡ true → (a ≡ true) ⊎ (b ≡ true)
or_true true b h = inl refl
or_true false b h = inr h

gs_rex : (x : ℕ) → ((x == 0x48) || (x == 0x4c)) ≡ true → IsRegRex x
gs_rex x h = elim (or_true (x == 0x48) (x == 0x4c) h) [
  | inl e ↦ let k : x ≡ 0x48 = eqb-true _ _ e in record { rex = record { wide = omega arith; no_index = omega arith }; no_base = omega arith }
  | inr e ↦ let k : x ≡ 0x4c = eqb-true _ _ e in record { rex = record { wide = omega arith; no_index = omega arith }; no_base = omega arith }
]

pub gs_live : IsLive gs_at
unfolding gs_at gs_word_at absolute_at sib_at immediate_at zeros
gs_live = live _ (0x48 ∷ 0x8b ∷ 4 ∷ 0x25 ∷ zeros 4) (GsLoad 0 (pos 0)) refl refl

pub gs_reads : IsReader (Unit {0}) (λ bytes. 0x65 ∷ bytes) gs_at
unfolding gs_at
gs_reads =
    next _ _ _ _ _ 0x48 (omega arith) (gs_word_live 0x48)
    (λ x. pick _ (λ y bytes. 0x65 ∷ y ∷ bytes) _ _ x 0xff _ _ gs_push_reads
    (choose _ _ _ _ ((x == 0x48) || (x == 0x4c)) _ _ (λ t. under _ _ _ _ _ (gs_word_reads x (gs_rex x t))) (λ t. stop _ _ _ _)))

-- ---- behind LOCK

exchange_tail : (x : ℕ) → IsLive (λ bytes. memory_at x bytes >>= λ e. Ok (CmpXchg e.0.1 e.0.2 e.0.0, e.1))
unfolding memory_at displacement_at immediate_at zeros
exchange_tail x = live _ (0x80 ∷ zeros 4) (CmpXchg (rm_field x 0x80) (pos 0) (reg_field x 0x80)) refl refl

exchange_live : (x : ℕ) → IsLive (exchange_at x)
unfolding exchange_at memory_at displacement_at immediate_at zeros
exchange_live x = live _ (0xb1 ∷ 0x80 ∷ zeros 4) (CmpXchg (rm_field x 0x80) (pos 0) (reg_field x 0x80)) refl refl

exchange_reads : (x : ℕ) → IsRex x → IsReader (Unit {0}) (λ bytes. 0xf0 ∷ x ∷ 0x0f ∷ bytes) (exchange_at x)
unfolding exchange_at spelling is_instruction
exchange_reads x r =
    next _ _ _ _ _ 0xb1 (omega arith) (exchange_tail x)
    (λ op. pick _ (λ y bytes. 0xf0 ∷ x ∷ 0x0f ∷ y ∷ bytes) _ _ op 0xb1 _ _
    (field _ _ _ _ _ _ _ _ (memory_field x)
    (λ e. done _ _ _ _ (CmpXchg e.1 e.2 e.0)
    (λ v. (
      record { fields = (v.1.base, v.1.fits, v.1.reg); counts = refl },
      λ bytes. ap
          (λ (y : ℕ). 0xf0 ∷ y ∷ 0x0f ∷ 0xb1 ∷ memory e.0 e.1 e.2 ++ bytes) (rex_of_memory x e r v.1),
    )))
    (λ e. live _ [] (CmpXchg e.1 e.2 e.0) refl refl))
    (pick _ (λ y bytes. 0xf0 ∷ x ∷ 0x0f ∷ y ∷ bytes) _ _ op 0xc1 _ _
    (field _ _ _ _ _ _ _ _ (memory_field x)
    (λ e. done _ _ _ _ (Xadd e.1 e.2 e.0)
    (λ v. (
      record { fields = (v.1.base, v.1.fits, v.1.reg); counts = refl },
      λ bytes. ap
          (λ (y : ℕ). 0xf0 ∷ y ∷ 0x0f ∷ 0xc1 ∷ memory e.0 e.1 e.2 ++ bytes) (rex_of_memory x e r v.1),
    )))
    (λ e. live _ [] (Xadd e.1 e.2 e.0) refl refl))
    (stop _ _ _ _)))

locked_wide_live : (x : ℕ) → IsLive (locked_wide_at x)
unfolding locked_wide_at exchange_at memory_at displacement_at immediate_at zeros
locked_wide_live x = live _ (0x0f ∷ 0xb1 ∷ 0x80 ∷ zeros 4) (CmpXchg (rm_field x 0x80) (pos 0) (reg_field x 0x80)) refl refl

locked_wide_reads : (x : ℕ) → IsRex x → IsReader (Unit {0}) (λ bytes. 0xf0 ∷ x ∷ bytes) (locked_wide_at x)
unfolding locked_wide_at
locked_wide_reads x r =
    next _ _ _ _ _ 0x0f (omega arith) (exchange_live x)
    (λ y. pick _ (λ z bytes. 0xf0 ∷ x ∷ z ∷ bytes) _ _ y 0x0f _ _ (exchange_reads x r) (stop _ _ _ _))

pub rex_of_wide : (x : ℕ) → is_wide x ≡ true → IsRex x
rex_of_wide x h = let k = and_true (x / 8 == 9) (x / 2 % 2 == 0) h in record { wide = eqb-true _ _ k.0; no_index = eqb-true _ _ k.1 }

pub locked_live : IsLive locked_at
unfolding locked_at locked_wide_at exchange_at memory_at displacement_at immediate_at zeros
locked_live = live _ (0x48 ∷ 0x0f ∷ 0xb1 ∷ 0x80 ∷ zeros 4) (CmpXchg 0 (pos 0) 0) refl refl

pub locked_reads : IsReader (Unit {0}) (λ bytes. 0xf0 ∷ bytes) locked_at
unfolding locked_at
locked_reads =
    next _ _ _ _ _ 0x48 (omega arith) (locked_wide_live 0x48)
    (λ x. choose _ _ _ _ (is_wide x) _ _ (λ t. under _ _ _ _ _ (locked_wide_reads x (rex_of_wide x t))) (λ t. stop _ _ _ _))
