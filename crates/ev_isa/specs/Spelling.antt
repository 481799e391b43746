-- The bytes of an instruction: one spelling each (SDM volume 2, chapter 2 and the instruction pages; FRED specification for ERETU, ERETS and LKGS).
use Rattle.std.specs.Prelude.{ℕ, ℤ, ◌+◌, ◌*◌, ◌/◌, ◌%◌, List, [], ◌∷◌, ◌++◌, ◌==◌, nat_lt, if◌then◌else◌}
use Rattle.std.specs.Int.{w32, w64, cast_unsigned, to_le_bytes}
use Rattle.ev_isa.specs.declared.instruction.AluOp.{AluOp}
use Rattle.ev_isa.specs.declared.instruction.Cond.{Cond}
use Rattle.ev_isa.specs.declared.instruction.Ins.{Ins}
use Rattle.ev_isa.specs.declared.instruction.AluOp.TheVariants.{Add, Or, And, Sub, Xor, Cmp}
use Rattle.ev_isa.specs.declared.instruction.Cond.TheVariants.{Z, Nz, C, Nc, S, Ns}
use Rattle.ev_isa.specs.declared.instruction.Ins.TheVariants.{MovImm, MovReg, Load, Store, StoreImm, GsLoad, GsStore, GsPush, Alu, AluImm, Shl, Shr, Xchg, CmpXchg, Xadd, Jmp, Jcc, JmpReg, Push, PushImm, Pop, IntN, Lkgs, MovGs, ReadCr2, WriteCr2, Nop, Int3, Int1, Syscall, Sysretq, Iretq, Swapgs, Eretu, Erets, Rdmsr, Wrmsr, Sti, Cli, Ud2}

-- REX.W with the high bits of the registers in the reg and rm fields
abbrev pub rex : ℕ → ℕ → ℕ
rex reg rm = 0x48 + 4 * (reg / 8) + rm / 8

-- the REX prefix of an instruction without REX.W: only where the register is one of r8 to r15
abbrev pub short_rex : ℕ → List ℕ
short_rex r = if nat_lt r 8 then [] else 0x41 ∷ []

-- the ModRM byte: mod, reg and r/m, each register by its low three bits
abbrev pub modrm : ℕ → ℕ → ℕ → ℕ
modrm form reg rm = 64 * form + 8 * (reg % 8) + rm % 8

-- a signed number in four bytes
unfoldable pub four_bytes : ℤ → List ℕ
four_bytes z = to_le_bytes w32 (cast_unsigned w32 z)

-- ModRM for two registers
abbrev pub registers : ℕ → ℕ → List ℕ
registers reg rm = modrm 3 reg rm ∷ []

-- ModRM, SIB and displacement for the word at a base register and a displacement
abbrev pub memory : ℕ → ℕ → ℤ → List ℕ
memory reg b n = modrm 2 reg b ∷ (if b % 8 == 4 then 0x24 ∷ [] else []) ++ four_bytes n

-- the same for a displacement alone
abbrev pub absolute : ℕ → ℤ → List ℕ
absolute reg n = modrm 0 reg 4 ∷ 0x25 ∷ four_bytes n

-- the number that an arithmetic instruction has in its opcode, and in the reg field where it has a number
abbrev pub alu_number : AluOp → ℕ
alu_number Add = 0
alu_number Or = 1
alu_number And = 4
alu_number Sub = 5
alu_number Xor = 6
alu_number Cmp = 7

-- the number of a condition in an opcode of Jcc
abbrev pub cond_number : Cond → ℕ
cond_number C = 2
cond_number Nc = 3
cond_number Z = 4
cond_number Nz = 5
cond_number S = 8
cond_number Ns = 9

-- The bytes of an instruction: one spelling each, by SDM volume 2.
unfoldable pub spelling : Ins → List ℕ
spelling (MovImm d n) = rex 0 d ∷ (0xb8 + d % 8) ∷ to_le_bytes w64 n
spelling (MovReg d s) = rex s d ∷ 0x89 ∷ registers s d
spelling (Load d b n) = rex d b ∷ 0x8b ∷ memory d b n
spelling (Store b n s) = rex s b ∷ 0x89 ∷ memory s b n
spelling (StoreImm b n i) = rex 0 b ∷ 0xc7 ∷ memory 0 b n ++ four_bytes i
spelling (GsLoad d n) = 0x65 ∷ rex d 0 ∷ 0x8b ∷ absolute d n
spelling (GsStore n s) = 0x65 ∷ rex s 0 ∷ 0x89 ∷ absolute s n
spelling (GsPush n) = 0x65 ∷ 0xff ∷ absolute 6 n
spelling (Alu op d s) = rex s d ∷ (8 * alu_number op + 1) ∷ registers s d
spelling (AluImm op d i) = rex 0 d ∷ 0x81 ∷ registers (alu_number op) d ++ four_bytes i
spelling (Shl d n) = rex 0 d ∷ 0xc1 ∷ registers 4 d ++ n ∷ []
spelling (Shr d n) = rex 0 d ∷ 0xc1 ∷ registers 5 d ++ n ∷ []
spelling (Xchg b n s) = rex s b ∷ 0x87 ∷ memory s b n
spelling (CmpXchg b n s) = 0xf0 ∷ rex s b ∷ 0x0f ∷ 0xb1 ∷ memory s b n
spelling (Xadd b n s) = 0xf0 ∷ rex s b ∷ 0x0f ∷ 0xc1 ∷ memory s b n
spelling (Jmp n) = 0xe9 ∷ four_bytes n
spelling (Jcc c n) = 0x0f ∷ (0x80 + cond_number c) ∷ four_bytes n
spelling (JmpReg s) = short_rex s ++ 0xff ∷ registers 4 s
spelling (Push s) = short_rex s ++ (0x50 + s % 8) ∷ []
spelling (PushImm i) = 0x68 ∷ four_bytes i
spelling (Pop d) = short_rex d ++ (0x58 + d % 8) ∷ []
spelling (IntN n) = 0xcd ∷ n ∷ []
spelling (Lkgs s) = 0xf2 ∷ short_rex s ++ 0x0f ∷ 0x00 ∷ registers 6 s
spelling (MovGs s) = short_rex s ++ 0x8e ∷ registers 5 s
spelling (ReadCr2 r) = short_rex r ++ 0x0f ∷ 0x20 ∷ registers 2 r
spelling (WriteCr2 r) = short_rex r ++ 0x0f ∷ 0x22 ∷ registers 2 r
spelling Nop = 0x90 ∷ []
spelling Int3 = 0xcc ∷ []
spelling Int1 = 0xf1 ∷ []
spelling Syscall = 0x0f ∷ 0x05 ∷ []
spelling Ud2 = 0x0f ∷ 0x0b ∷ []
spelling Sysretq = 0x48 ∷ 0x0f ∷ 0x07 ∷ []
spelling Iretq = 0x48 ∷ 0xcf ∷ []
spelling Swapgs = 0x0f ∷ 0x01 ∷ 0xf8 ∷ []
spelling Eretu = 0xf3 ∷ 0x0f ∷ 0x01 ∷ 0xca ∷ []
spelling Erets = 0xf2 ∷ 0x0f ∷ 0x01 ∷ 0xca ∷ []
spelling Rdmsr = 0x0f ∷ 0x32 ∷ []
spelling Wrmsr = 0x0f ∷ 0x30 ∷ []
spelling Sti = 0xfb ∷ []
spelling Cli = 0xfa ∷ []
