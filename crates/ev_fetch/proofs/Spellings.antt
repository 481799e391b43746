-- The spelling of an instruction whose fields fit is a list of bytes, and not empty.
use Rattle.std.proofs.Common.{ℕ, ℤ, ◌+◌, ◌*◌, ◌%◌, ◌<◌, Bool, true, false, List, [], ◌∷◌, ◌++◌, length, arith, length-append}
use Rattle.std.specs.Prelude.{◌==◌, nat_lt, if◌then◌else◌}
use Rattle.std.specs.Int.{w32, w64, cast_unsigned, to_le_bytes}
use Rattle.ev_isa.specs.declared.instruction.Ins.{Ins}
use Rattle.ev_isa.specs.declared.instruction.AluOp.{AluOp}
use Rattle.ev_isa.specs.declared.instruction.Cond.{Cond}
use Rattle.ev_isa.specs.declared.instruction.AluOp.TheVariants.{Add, Or, And, Sub, Xor, Cmp}
use Rattle.ev_isa.specs.declared.instruction.Cond.TheVariants.{Z, Nz, C, Nc, S, Ns}
use Rattle.ev_isa.specs.declared.instruction.Ins.TheVariants.{MovImm, MovReg, Load, Store, StoreImm, GsLoad, GsStore, GsPush, Alu, AluImm, Shl, Shr, Xchg, CmpXchg, Xadd, Jmp, Jcc, JmpReg, Push, PushImm, Pop, IntN, Lkgs, MovGs, ReadCr2, WriteCr2, Nop, Int3, Int1, Syscall, Sysretq, Iretq, Swapgs, Eretu, Erets, Rdmsr, Wrmsr, Sti, Cli, Ud2}
use Rattle.ev_isa.specs.Spelling.{spelling, four_bytes, rex, short_rex, registers, memory, absolute, alu_number, cond_number}
use Rattle.ev_code.specs.Coding.{IsEncodable}
use Rattle.ev_code.proofs.Parts.{IsBytes, bytes_cons, no_bytes}
use Rattle.ev_fetch.proofs.Regions.{Each, each_append}

-- ---- parts

abbrev IsByte : ℕ → Type 0
IsByte x = x < 256

abbrev AreBytes : List ℕ → Type 0
AreBytes xs = Each IsByte xs

eight : (n : ℕ) → AreBytes (to_le_bytes w64 n)
eight n = (omega arith, (omega arith, (omega arith, (omega arith, (omega arith, (omega arith, (omega arith, (omega arith, tt))))))))

four_of : (n : ℕ) → AreBytes (to_le_bytes w32 n)
four_of n = (omega arith, (omega arith, (omega arith, (omega arith, tt))))

four : (z : ℤ) → AreBytes (four_bytes z)
unfolding four_bytes
four z = four_of (cast_unsigned w32 z)

rex_small : (reg rm : ℕ) → reg < 16 → rm < 16 → rex reg rm < 256
rex_small reg rm h k = omega arith

short_by : (t : Bool) → AreBytes (let u : List ℕ = if t then [] else 0x41 ∷ [] in u)
short_by true = tt
short_by false = (omega arith, tt)

-- behind the prefix of a register
short : (r : ℕ) (bytes : List ℕ) → AreBytes bytes → AreBytes (short_rex r ++ bytes)
short r bytes h = each_append IsByte (short_rex r) bytes (short_by (nat_lt r 8)) h

sib_by : (t : Bool) → AreBytes (let u : List ℕ = if t then 0x24 ∷ [] else [] in u)
sib_by true = (omega arith, tt)
sib_by false = tt

regs : (reg rm : ℕ) → AreBytes (registers reg rm)
regs reg rm = (omega arith, tt)

mem : (reg b : ℕ) (n : ℤ) → AreBytes (memory reg b n)
mem reg b n = (omega arith, each_append IsByte (if b % 8 == 4 then 0x24 ∷ [] else []) (four_bytes n) (sib_by (b % 8 == 4)) (four n))

abs : (reg : ℕ) (n : ℤ) → AreBytes (absolute reg n)
abs reg n = (omega arith, (omega arith, four n))

alu_small : (op : AluOp) → 8 * alu_number op + 1 < 256
alu_small Add = omega arith
alu_small Or = omega arith
alu_small And = omega arith
alu_small Sub = omega arith
alu_small Xor = omega arith
alu_small Cmp = omega arith

cond_small : (c : Cond) → 0x80 + cond_number c < 256
cond_small Z = omega arith
cond_small Nz = omega arith
cond_small C = omega arith
cond_small Nc = omega arith
cond_small S = omega arith
cond_small Ns = omega arith

-- ---- all instructions

are_bytes : (i : Ins) → IsEncodable i → AreBytes (spelling i)
unfolding spelling
are_bytes (MovImm d n) e = let f = e.fields in (rex_small 0 d (omega arith) f.0, (omega arith, eight n))
are_bytes (MovReg d s) e = let f = e.fields in (rex_small s d f.1 f.0, (omega arith, regs s d))
are_bytes (Load d b n) e = let f = e.fields in (rex_small d b f.0 f.1, (omega arith, mem d b n))
are_bytes (Store b n s) e = let f = e.fields in (rex_small s b f.2 f.0, (omega arith, mem s b n))
are_bytes (StoreImm b n i) e = let f = e.fields in
    (rex_small 0 b (omega arith) f.0, (omega arith, each_append IsByte (memory 0 b n) (four_bytes i) (mem 0 b n) (four i)))
are_bytes (GsLoad d n) e = let f = e.fields in (omega arith, (rex_small d 0 f.0 (omega arith), (omega arith, abs d n)))
are_bytes (GsStore n s) e = let f = e.fields in (omega arith, (rex_small s 0 f.1 (omega arith), (omega arith, abs s n)))
are_bytes (GsPush n) e = (omega arith, (omega arith, abs 6 n))
are_bytes (Alu op d s) e = let f = e.fields in (rex_small s d f.1 f.0, (alu_small op, regs s d))
are_bytes (AluImm op d i) e = let f = e.fields in
    (rex_small 0 d (omega arith) f.0, (omega arith, each_append IsByte (registers (alu_number op) d) (four_bytes i) (regs (alu_number op) d) (four i)))
are_bytes (Shl d n) e = let f = e.fields in (rex_small 0 d (omega arith) f.0, (omega arith, each_append IsByte (registers 4 d) (n ∷ []) (regs 4 d) (f.1, tt)))
are_bytes (Shr d n) e = let f = e.fields in (rex_small 0 d (omega arith) f.0, (omega arith, each_append IsByte (registers 5 d) (n ∷ []) (regs 5 d) (f.1, tt)))
are_bytes (Xchg b n s) e = let f = e.fields in (rex_small s b f.2 f.0, (omega arith, mem s b n))
are_bytes (CmpXchg b n s) e = let f = e.fields in (omega arith, (rex_small s b f.2 f.0, (omega arith, (omega arith, mem s b n))))
are_bytes (Xadd b n s) e = let f = e.fields in (omega arith, (rex_small s b f.2 f.0, (omega arith, (omega arith, mem s b n))))
are_bytes (Jmp n) e = (omega arith, four n)
are_bytes (Jcc c n) e = (omega arith, (cond_small c, four n))
are_bytes (JmpReg s) e = short s (0xff ∷ registers 4 s) (omega arith, regs 4 s)
are_bytes (Push s) e = short s ((0x50 + s % 8) ∷ []) (omega arith, tt)
are_bytes (PushImm i) e = (omega arith, four i)
are_bytes (Pop d) e = short d ((0x58 + d % 8) ∷ []) (omega arith, tt)
are_bytes (IntN n) e = (omega arith, (e.fields, tt))
are_bytes (Lkgs s) e = (omega arith, short s (0x0f ∷ 0x00 ∷ registers 6 s) (omega arith, (omega arith, regs 6 s)))
are_bytes (MovGs s) e = short s (0x8e ∷ registers 5 s) (omega arith, regs 5 s)
are_bytes (ReadCr2 r) e = short r (0x0f ∷ 0x20 ∷ registers 2 r) (omega arith, (omega arith, regs 2 r))
are_bytes (WriteCr2 r) e = short r (0x0f ∷ 0x22 ∷ registers 2 r) (omega arith, (omega arith, regs 2 r))
are_bytes Nop e = (omega arith, tt)
are_bytes Int3 e = (omega arith, tt)
are_bytes Int1 e = (omega arith, tt)
are_bytes Syscall e = (omega arith, (omega arith, tt))
are_bytes Ud2 e = (omega arith, (omega arith, tt))
are_bytes Sysretq e = (omega arith, (omega arith, (omega arith, tt)))
are_bytes Iretq e = (omega arith, (omega arith, tt))
are_bytes Swapgs e = (omega arith, (omega arith, (omega arith, tt)))
are_bytes Eretu e = (omega arith, (omega arith, (omega arith, (omega arith, tt))))
are_bytes Erets e = (omega arith, (omega arith, (omega arith, (omega arith, tt))))
are_bytes Rdmsr e = (omega arith, (omega arith, tt))
are_bytes Wrmsr e = (omega arith, (omega arith, tt))
are_bytes Sti e = (omega arith, tt)
are_bytes Cli e = (omega arith, tt)

by_index : (xs : List ℕ) → AreBytes xs → IsBytes xs
by_index [] h = no_bytes
by_index (x ∷ xs) h = bytes_cons x xs h.0 (by_index xs h.1)

pub spelling_bytes : (i : Ins) → IsEncodable i → IsBytes (spelling i)
spelling_bytes i e = by_index (spelling i) (are_bytes i e)

pub spelling_some : (i : Ins) → 0 < length (spelling i)
unfolding spelling
spelling_some (JmpReg s) = omega (arith, length-append (short_rex s) (0xff ∷ registers 4 s))
spelling_some (Push s) = omega (arith, length-append (short_rex s) ((0x50 + s % 8) ∷ []))
spelling_some (Pop s) = omega (arith, length-append (short_rex s) ((0x58 + s % 8) ∷ []))
spelling_some (MovGs s) = omega (arith, length-append (short_rex s) (0x8e ∷ registers 5 s))
spelling_some (ReadCr2 s) = omega (arith, length-append (short_rex s) (0x0f ∷ 0x20 ∷ registers 2 s))
spelling_some (WriteCr2 s) = omega (arith, length-append (short_rex s) (0x0f ∷ 0x22 ∷ registers 2 s))
spelling_some i = omega arith
