-- Which instruction begins a list of bytes. Own: a list of bytes begins with an instruction exactly where that instruction's spelling begins it.
use Rattle.std.specs.Prelude.{ℕ, ℤ, ◌+◌, ◌*◌, ◌/◌, ◌%◌, ◌≡◌, Bool, true, false, ◌&&◌, List, [], ◌∷◌, ◌++◌, map, drop, get_or, ◌==◌, if◌then◌else◌, Option, find}
use Rattle.std.specs.Int.{w32, w64, cast_signed, from_le_bytes}
use Rattle.ev_isa.specs.declared.instruction.Ins.{Ins}
use Rattle.ev_isa.specs.declared.instruction.AluOp.TheVariants.{Add, Or, And, Sub, Xor, Cmp}
use Rattle.ev_isa.specs.declared.instruction.Cond.TheVariants.{Z, Nz, C, Nc, S, Ns}
use Rattle.ev_isa.specs.declared.instruction.Ins.TheVariants.{MovImm, MovReg, Load, Store, StoreImm, GsLoad, GsStore, GsPush, Alu, AluImm, Shl, Shr, Xchg, CmpXchg, Xadd, Jmp, Jcc, JmpReg, Push, PushImm, Pop, IntN, Lkgs, MovGs, ReadCr2, WriteCr2, Nop, Int3, Int1, Syscall, Sysretq, Iretq, Swapgs, Eretu, Erets, Rdmsr, Wrmsr, Sti, Cli, Ud2}
use Rattle.ev_isa.specs.Instruction.{is_instruction}
use Rattle.ev_isa.specs.Spelling.{spelling}

-- bytes that begin with the instruction
abbrev pub BeginsWith : List ℕ → Ins → Type 0
BeginsWith bytes i = (rest : List ℕ) × (bytes ≡ spelling i ++ rest)

-- whether the first list begins the second
abbrev pub is_prefix : List ℕ → List ℕ → Bool
is_prefix [] ys = true
is_prefix (x ∷ xs) [] = false
is_prefix (x ∷ xs) (y ∷ ys) = (x == y) && is_prefix xs ys

-- byte k
abbrev pub byte : List ℕ → ℕ → ℕ
byte bytes k = get_or bytes k 0

-- the signed number in the four bytes from k on
unfoldable pub signed_at : List ℕ → ℕ → ℤ
signed_at bytes k = cast_signed w32 (from_le_bytes w32 (drop k bytes))

-- the registers of the reg and the rm field, where REX is byte p and ModRM byte q
unfoldable pub reg_at : List ℕ → ℕ → ℕ → ℕ
reg_at bytes p q = 8 * (byte bytes p / 4 % 2) + byte bytes q / 8 % 8

-- the register in r/m of the byte at q, whose fourth bit is REX.B of the byte at p
unfoldable pub rm_at : List ℕ → ℕ → ℕ → ℕ
rm_at bytes p q = 8 * (byte bytes p % 2) + byte bytes q % 8

-- where the displacement stands behind the ModRM byte q: a SIB byte comes between where the rm field is 4
unfoldable pub behind : List ℕ → ℕ → ℕ
behind bytes q = if byte bytes q % 8 == 4 then q + 2 else q + 1

-- An instruction that has its operands at the places of its form, for each form. If bytes begin with an instruction, it is one of these.
-- The instructions with REX.W:
unfoldable pub wide_forms : List ℕ → List Ins
wide_forms b =
    let reg : ℕ = reg_at b 0 2 in
    let rm : ℕ = rm_at b 0 2 in
    let at : ℕ = behind b 2 in
    MovImm (rm_at b 0 1) (from_le_bytes w64 (drop 2 b)) ∷ MovReg rm reg ∷ Load reg rm (signed_at b at) ∷ Store rm (signed_at b at) reg
    ∷ StoreImm rm (signed_at b at) (signed_at b (at + 4)) ∷ Shl rm (byte b 3) ∷ Shr rm (byte b 3) ∷ Xchg rm (signed_at b at) reg
    ∷ map (λ op. Alu op rm reg) (Add ∷ Or ∷ And ∷ Sub ∷ Xor ∷ Cmp ∷ [])
    ++ map (λ op. AluImm op rm (signed_at b 3)) (Add ∷ Or ∷ And ∷ Sub ∷ Xor ∷ Cmp ∷ [])

-- those with a prefix before REX.W:
unfoldable pub prefixed_forms : List ℕ → List Ins
prefixed_forms b =
    GsLoad (reg_at b 1 3) (signed_at b 5) ∷ GsStore (signed_at b 5) (reg_at b 1 3) ∷ GsPush (signed_at b 4)
    ∷ CmpXchg (rm_at b 1 4) (signed_at b (behind b 4)) (reg_at b 1 4) ∷ Xadd (rm_at b 1 4) (signed_at b (behind b 4)) (reg_at b 1 4) ∷ []

-- those with one register and no REX.W, with k 0 where no byte names the high bit and k 1 where one does:
unfoldable pub narrow_forms : ℕ → List ℕ → List Ins
narrow_forms k b =
    JmpReg (8 * k + byte b (k + 1) % 8) ∷ Push (8 * k + byte b k % 8) ∷ Pop (8 * k + byte b k % 8) ∷ Lkgs (8 * k + byte b (k + 3) % 8)
    ∷ MovGs (8 * k + byte b (k + 1) % 8) ∷ ReadCr2 (8 * k + byte b (k + 2) % 8) ∷ WriteCr2 (8 * k + byte b (k + 2) % 8) ∷ []

-- and those with a number or nothing:
unfoldable pub plain_forms : List ℕ → List Ins
plain_forms b =
    Jmp (signed_at b 1) ∷ PushImm (signed_at b 1) ∷ IntN (byte b 1) ∷ Nop ∷ Int3 ∷ Int1 ∷ Syscall ∷ Ud2 ∷ Sysretq ∷ Iretq ∷ Swapgs ∷ Eretu ∷ Erets
    ∷ Rdmsr ∷ Wrmsr ∷ Sti ∷ Cli ∷ map (λ c. Jcc c (signed_at b 2)) (Z ∷ Nz ∷ C ∷ Nc ∷ S ∷ Ns ∷ [])

-- the instructions that these bytes could begin with, by the fields at the places of each form
unfoldable pub forms : List ℕ → List Ins
forms b = plain_forms b ++ wide_forms b ++ prefixed_forms b ++ narrow_forms 0 b ++ narrow_forms 1 b

-- the instruction that the bytes begin with
unfoldable pub reading : List ℕ → Option Ins
reading b = find (λ i. is_instruction i && is_prefix (spelling i) b) (forms b)
