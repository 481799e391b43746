-- What the decoder's own functions answer on lists of bytes: the value at the front and the bytes behind it. Own. The contract of `decode` speaks
-- of spellings alone (`Coding`), and the laws that join the two are in proofs/.
use Rattle.std.specs.Prelude.{ℕ, ℤ, ◌+◌, ◌*◌, ◌/◌, ◌%◌, ◌≡◌, Bool, ◌&&◌, ◌||◌, nat_lt, List, [], ◌∷◌, length, take, drop, ◌==◌, if◌then◌else◌, Option, Some, None, Result, Ok, Err}
use Rattle.std.specs.Int.{w32, w64, cast_signed, from_le_bytes}
use Rattle.ev_isa.specs.declared.instruction.Ins.{Ins}
use Rattle.ev_isa.specs.declared.instruction.AluOp.{AluOp}
use Rattle.ev_isa.specs.declared.instruction.Cond.{Cond}
use Rattle.ev_isa.specs.declared.instruction.AluOp.TheVariants.{Add, Or, And, Sub, Xor, Cmp}
use Rattle.ev_isa.specs.declared.instruction.Cond.TheVariants.{Z, Nz, C, Nc, S, Ns}
use Rattle.ev_isa.specs.declared.instruction.Ins.TheVariants.{MovImm, MovReg, Load, Store, StoreImm, GsLoad, GsStore, GsPush, Alu, AluImm, Shl, Shr, Xchg, CmpXchg, Xadd, Jmp, Jcc, JmpReg, Push, PushImm, Pop, IntN, Lkgs, MovGs, ReadCr2, WriteCr2, Nop, Int3, Int1, Syscall, Sysretq, Iretq, Swapgs, Eretu, Erets, Rdmsr, Wrmsr, Sti, Cli, Ud2}
use Rattle.ev_code.specs.declared.fault.DecodeFault.{DecodeFault}
use Rattle.ev_code.specs.declared.fault.DecodeFault.TheVariants.{Unknown, Short}

-- a value and the bytes behind it
abbrev pub Read : Type 0 → Type 0
Read X = Result (X × List ℕ) DecodeFault

infixl 10 ◌>>=◌
abbrev pub ◌>>=◌ : {A B : Type 0} → Result A DecodeFault → (A → Result B DecodeFault) → Result B DecodeFault
(Ok x) >>= f = f x
(Err e) >>= f = Err e

-- what a function returned, seen by view, is what is read
abbrev pub Gives : {X Y : Type 0} → (X → Y) → Result X DecodeFault → Result Y DecodeFault → Type 0
Gives view (Ok x) read = read ≡ Ok (view x)
Gives view (Err e) read = read ≡ Err e

-- ---- fields

abbrev pub byte_at : List ℕ → Read ℕ
byte_at [] = Err Short
byte_at (x ∷ bytes) = Ok (x, bytes)

-- a 32-bit number with a sign
unfoldable pub immediate_at : List ℕ → Read ℤ
immediate_at bytes = if nat_lt (length bytes) 4 then Err Short else Ok (cast_signed w32 (from_le_bytes w32 (take 4 bytes)), drop 4 bytes)

-- a 64-bit number
unfoldable pub word_at : List ℕ → Read ℕ
word_at bytes = if nat_lt (length bytes) 8 then Err Short else Ok (from_le_bytes w64 (take 8 bytes), drop 8 bytes)

-- a shift's count
unfoldable pub count_at : List ℕ → Read ℕ
count_at bytes = do
  n ← byte_at bytes
  if nat_lt 0 n.0 && nat_lt n.0 64 then Ok (n.0, n.1) else Err Unknown

-- the registers in the reg field, and in the rm field or an opcode
abbrev pub reg_field : ℕ → ℕ → ℕ
reg_field rex m = 8 * (rex / 4 % 2) + m / 8 % 8

abbrev pub rm_field : ℕ → ℕ → ℕ
rm_field rex m = 8 * (rex % 2) + m % 8

-- the register in a ModRM byte whose upper five bits are these
unfoldable pub register_at : ℕ → ℕ → List ℕ → Read ℕ
register_at rex upper bytes = do
  m ← byte_at bytes
  if m.0 / 8 == upper then Ok (rm_field rex m.0, m.1) else Err Unknown

-- this SIB byte, and a displacement
unfoldable pub sib_at : ℕ → List ℕ → Read ℤ
sib_at sib bytes = do
  s ← byte_at bytes
  if s.0 == sib then immediate_at s.1 else Err Unknown

-- the displacement behind a ModRM byte of a base register
unfoldable pub displacement_at : ℕ → List ℕ → Read ℤ
displacement_at m bytes =
    if m / 64 == 2 then (if m % 8 == 4 then sib_at 0x24 bytes else immediate_at bytes)
    else Err Unknown

-- the register in the reg field, the base register and the displacement
unfoldable pub memory_at : ℕ → List ℕ → Read (ℕ × ℕ × ℤ)
memory_at rex bytes = do
  m ← byte_at bytes
  n ← displacement_at m.0 m.1
  Ok ((reg_field rex m.0, rm_field rex m.0, n.0), n.1)

-- the register in the reg field, and a displacement alone
unfoldable pub absolute_at : ℕ → List ℕ → Read (ℕ × ℤ)
absolute_at rex bytes = do
  m ← byte_at bytes
  if (m.0 / 64 == 0) && (m.0 % 8 == 4) then (do
    n ← sib_at 0x25 m.1
    Ok ((reg_field rex m.0, n.0), n.1)) else Err Unknown

-- the operation with a number, and the condition of an opcode
unfoldable pub alu_of : ℕ → Option AluOp
alu_of n =
    if n == 0 then Some Add
    else (if n == 1 then Some Or
    else (if n == 4 then Some And
    else (if n == 5 then Some Sub
    else (if n == 6 then Some Xor
    else (if n == 7 then Some Cmp
    else None)))))

unfoldable pub cond_of : ℕ → Option Cond
cond_of n =
    if n == 0x82 then Some C
    else (if n == 0x83 then Some Nc
    else (if n == 0x84 then Some Z
    else (if n == 0x85 then Some Nz
    else (if n == 0x88 then Some S
    else (if n == 0x89 then Some Ns
    else None)))))

-- the operation of an opcode on two registers
unfoldable pub alu_opcode : ℕ → Option AluOp
alu_opcode op = if op % 8 == 1 then alu_of (op / 8) else None

-- REX.W without X
abbrev pub is_wide : ℕ → Bool
is_wide x = (x / 8 == 9) && (x / 2 % 2 == 0)

-- ---- behind REX.W

unfoldable pub move_at : ℕ → List ℕ → Read Ins
move_at rex bytes = do
  m ← byte_at bytes
  if m.0 / 64 == 3 then Ok (MovReg (rm_field rex m.0) (reg_field rex m.0), m.1) else (do
    n ← displacement_at m.0 m.1
    Ok (Store (rm_field rex m.0) n.0 (reg_field rex m.0), n.1))

unfoldable pub alu_at : AluOp → ℕ → List ℕ → Read Ins
alu_at op rex bytes = do
  m ← byte_at bytes
  if m.0 / 64 == 3 then Ok (Alu op (rm_field rex m.0) (reg_field rex m.0), m.1) else Err Unknown

unfoldable pub alu_number_at : Option AluOp → ℕ → List ℕ → Read Ins
alu_number_at None d bytes = Err Unknown
alu_number_at (Some op) d bytes = do
  n ← immediate_at bytes
  Ok (AluImm op d n.0, n.1)

unfoldable pub alu_immediate_at : ℕ → List ℕ → Read Ins
alu_immediate_at rex bytes = do
  m ← byte_at bytes
  if m.0 / 64 == 3 then alu_number_at (alu_of (m.0 / 8 % 8)) (rm_field rex m.0) m.1 else Err Unknown

unfoldable pub store_immediate_at : ℕ → List ℕ → Read Ins
store_immediate_at rex bytes = do
  m ← byte_at bytes
  if m.0 / 8 % 8 == 0 then (do
    n ← displacement_at m.0 m.1
    i ← immediate_at n.1
    Ok (StoreImm (rm_field rex m.0) n.0 i.0, i.1)) else Err Unknown

unfoldable pub shift_at : ℕ → List ℕ → Read Ins
shift_at rex bytes = do
  m ← byte_at bytes
  if m.0 / 8 == 28 then (do
    n ← count_at m.1
    Ok (Shl (rm_field rex m.0) n.0, n.1)) else (if m.0 / 8 == 29 then (do
      n ← count_at m.1
      Ok (Shr (rm_field rex m.0) n.0, n.1)) else Err Unknown)

unfoldable pub sysretq_at : List ℕ → Read Ins
sysretq_at bytes = do
  x ← byte_at bytes
  if x.0 == 0x07 then Ok (Sysretq, x.1) else Err Unknown

unfoldable pub return_at : ℕ → List ℕ → Read Ins
return_at op bytes =
    if op == 0x0f then sysretq_at bytes
    else (if op == 0xcf then Ok (Iretq, bytes)
    else Err Unknown)

unfoldable pub mov_immediate_at : ℕ → List ℕ → Read Ins
mov_immediate_at d bytes = do
  n ← word_at bytes
  Ok (MovImm d n.0, n.1)

-- one register, in the rm field
unfoldable pub one_register_at : ℕ → ℕ → List ℕ → Read Ins
one_register_at rex op bytes =
    if op / 8 == 23 then mov_immediate_at (rm_field rex op) bytes
    else (if op == 0x81 then alu_immediate_at rex bytes
    else (if op == 0xc1 then shift_at rex bytes
    else (if op == 0xc7 then store_immediate_at rex bytes
    else (if rex == 0x48 then return_at op bytes
    else Err Unknown))))

unfoldable pub load_at : ℕ → List ℕ → Read Ins
load_at rex bytes = do
  e ← memory_at rex bytes
  Ok (Load e.0.0 e.0.1 e.0.2, e.1)

unfoldable pub xchg_at : ℕ → List ℕ → Read Ins
xchg_at rex bytes = do
  e ← memory_at rex bytes
  Ok (Xchg e.0.1 e.0.2 e.0.0, e.1)

unfoldable pub arithmetic_at : Option AluOp → ℕ → ℕ → List ℕ → Read Ins
arithmetic_at (Some alu) rex op bytes = alu_at alu rex bytes
arithmetic_at None rex op bytes = if rex / 4 % 2 == 0 then one_register_at rex op bytes else Err Unknown

unfoldable pub wide_at : ℕ → List ℕ → Read Ins
wide_at rex bytes = do
  op ← byte_at bytes
  if op.0 == 0x89 then move_at rex op.1
      else (if op.0 == 0x8b then load_at rex op.1
      else (if op.0 == 0x87 then xchg_at rex op.1
      else arithmetic_at (alu_opcode op.0) rex op.0 op.1))

-- ---- behind the prefixes

unfoldable pub gs_push_at : List ℕ → Read Ins
gs_push_at bytes = do
  m ← byte_at bytes
  if m.0 == 0x34 then (do
    n ← sib_at 0x25 m.1
    Ok (GsPush n.0, n.1)) else Err Unknown

unfoldable pub gs_word_at : ℕ → List ℕ → Read Ins
gs_word_at rex bytes = do
  op ← byte_at bytes
  if op.0 == 0x8b then (do
    e ← absolute_at rex op.1
    Ok (GsLoad e.0.0 e.0.1, e.1)) else (if op.0 == 0x89 then (do
      e ← absolute_at rex op.1
      Ok (GsStore e.0.1 e.0.0, e.1)) else Err Unknown)

unfoldable pub gs_at : List ℕ → Read Ins
gs_at bytes = do
  x ← byte_at bytes
  if x.0 == 0xff then gs_push_at x.1
      else (if (x.0 == 0x48) || (x.0 == 0x4c) then gs_word_at x.0 x.1
      else Err Unknown)

unfoldable pub exchange_at : ℕ → List ℕ → Read Ins
exchange_at rex bytes = do
  op ← byte_at bytes
  if op.0 == 0xb1 then (do
    e ← memory_at rex op.1
    Ok (CmpXchg e.0.1 e.0.2 e.0.0, e.1)) else (if op.0 == 0xc1 then (do
      e ← memory_at rex op.1
      Ok (Xadd e.0.1 e.0.2 e.0.0, e.1)) else Err Unknown)

unfoldable pub locked_wide_at : ℕ → List ℕ → Read Ins
locked_wide_at rex bytes = do
  x ← byte_at bytes
  if x.0 == 0x0f then exchange_at rex x.1 else Err Unknown

unfoldable pub locked_at : List ℕ → Read Ins
locked_at bytes = do
  rex ← byte_at bytes
  if is_wide rex.0 then locked_wide_at rex.0 rex.1 else Err Unknown

-- this instruction, behind this byte
unfoldable pub last_at : ℕ → Ins → List ℕ → Read Ins
last_at last i bytes = do
  x ← byte_at bytes
  if x.0 == last then Ok (i, x.1) else Err Unknown

-- what takes one register, behind its opcode
unfoldable pub with_register_at : (ℕ → Ins) → ℕ → ℕ → List ℕ → Read Ins
with_register_at make rex upper bytes = do
  r ← register_at rex upper bytes
  Ok (make r.0, r.1)

unfoldable pub lkgs_at : List ℕ → Read Ins
lkgs_at bytes = do
  y ← byte_at bytes
  if y.0 == 0 then with_register_at Lkgs 0x41 30 y.1 else Err Unknown

unfoldable pub lkgs_high_at : List ℕ → Read Ins
lkgs_high_at bytes = do
  x ← byte_at bytes
  if x.0 == 0x0f then lkgs_at x.1 else Err Unknown

unfoldable pub lkgs_or_erets_at : List ℕ → Read Ins
lkgs_or_erets_at bytes = do
  y ← byte_at bytes
  if y.0 == 0 then with_register_at Lkgs 0x40 30 y.1
      else (if y.0 == 1 then last_at 0xca Erets y.1
      else Err Unknown)

unfoldable pub repne_at : List ℕ → Read Ins
repne_at bytes = do
  x ← byte_at bytes
  if x.0 == 0x41 then lkgs_high_at x.1
      else (if x.0 == 0x0f then lkgs_or_erets_at x.1
      else Err Unknown)

unfoldable pub eretu_at : List ℕ → Read Ins
eretu_at bytes = do
  y ← byte_at bytes
  if y.0 == 1 then last_at 0xca Eretu y.1 else Err Unknown

unfoldable pub rep_at : List ℕ → Read Ins
rep_at bytes = do
  x ← byte_at bytes
  if x.0 == 0x0f then eretu_at x.1 else Err Unknown

-- ---- without REX.W

unfoldable pub cr2_at : ℕ → ℕ → List ℕ → Read Ins
cr2_at rex op bytes =
    if op == 0x20 then with_register_at ReadCr2 rex 26 bytes
    else (if op == 0x22 then with_register_at WriteCr2 rex 26 bytes
    else Err Unknown)

unfoldable pub condition_at : Option Cond → ℕ → List ℕ → Read Ins
condition_at None op bytes = cr2_at 0x40 op bytes
condition_at (Some c) op bytes = do
  n ← immediate_at bytes
  Ok (Jcc c n.0, n.1)

unfoldable pub two_byte_at : List ℕ → Read Ins
two_byte_at bytes = do
  y ← byte_at bytes
  if y.0 == 0x05 then Ok (Syscall, y.1)
      else (if y.0 == 0x0b then Ok (Ud2, y.1)
      else (if y.0 == 0x30 then Ok (Wrmsr, y.1)
      else (if y.0 == 0x32 then Ok (Rdmsr, y.1)
      else (if y.0 == 0x01 then last_at 0xf8 Swapgs y.1
      else condition_at (cond_of y.0) y.0 y.1))))

unfoldable pub narrow_at : ℕ → ℕ → List ℕ → Read Ins
narrow_at rex x bytes =
    if x / 8 == 10 then Ok (Push (rm_field rex x), bytes)
    else (if x / 8 == 11 then Ok (Pop (rm_field rex x), bytes)
    else (if x == 0xff then with_register_at JmpReg rex 28 bytes
    else (if x == 0x8e then with_register_at MovGs rex 29 bytes
    else Err Unknown)))

unfoldable pub cr2_high_at : List ℕ → Read Ins
cr2_high_at bytes = do
  y ← byte_at bytes
  cr2_at 0x41 y.0 y.1

unfoldable pub extended_at : List ℕ → Read Ins
extended_at bytes = do
  x ← byte_at bytes
  if x.0 == 0x0f then cr2_high_at x.1 else narrow_at 0x41 x.0 x.1

unfoldable pub with_immediate_at : (ℤ → Ins) → List ℕ → Read Ins
with_immediate_at make bytes = do
  n ← immediate_at bytes
  Ok (make n.0, n.1)

unfoldable pub int_at : List ℕ → Read Ins
int_at bytes = do
  n ← byte_at bytes
  Ok (IntN n.0, n.1)

unfoldable pub plain_at : ℕ → List ℕ → Read Ins
plain_at x bytes =
    if x == 0x90 then Ok (Nop, bytes)
    else (if x == 0xcc then Ok (Int3, bytes)
    else (if x == 0xf1 then Ok (Int1, bytes)
    else (if x == 0xfa then Ok (Cli, bytes)
    else (if x == 0xfb then Ok (Sti, bytes)
    else (if x == 0xe9 then with_immediate_at Jmp bytes
    else (if x == 0x68 then with_immediate_at PushImm bytes
    else (if x == 0xcd then int_at bytes
    else narrow_at 0x40 x bytes)))))))

unfoldable pub behind_at : ℕ → List ℕ → Read Ins
behind_at x bytes =
    if is_wide x then wide_at x bytes
    else (if x == 0x0f then two_byte_at bytes
    else (if x == 0x41 then extended_at bytes
    else (if x == 0x65 then gs_at bytes
    else (if x == 0xf0 then locked_at bytes
    else (if x == 0xf2 then repne_at bytes
    else (if x == 0xf3 then rep_at bytes
    else plain_at x bytes))))))

-- the instruction at the front
unfoldable pub instruction_at : List ℕ → Read Ins
instruction_at bytes = do
  x ← byte_at bytes
  behind_at x.0 x.1
