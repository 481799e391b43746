-- What encoding and decoding speak of. Own.
use Rattle.std.specs.Prelude.{ℕ, ◌<◌, ◌^◌, ◌≡◌, true, List, ◌∷◌, ◌++◌}
use Rattle.std.specs.Int.{w32}
use Rattle.std.specs.Int.RustNames.{FitsSigned}
use Rattle.ev_isa.specs.declared.instruction.Ins.{Ins}
use Rattle.ev_isa.specs.declared.instruction.Ins.TheVariants.{MovImm, MovReg, Load, Store, StoreImm, GsLoad, GsStore, GsPush, Alu, AluImm, Shl, Shr, Xchg, CmpXchg, Xadd, Jmp, Jcc, JmpReg, Push, PushImm, Pop, IntN, Lkgs, MovGs, ReadCr2, WriteCr2}
use Rattle.ev_isa.specs.Instruction.{is_instruction}
use Rattle.ev_isa.specs.Spelling.{spelling}

-- registers are below 16, and numbers are within their types
abbrev pub FieldsFit : Ins → Type 0
FieldsFit (MovImm d n) = (d < 16) × (n < 2 ^ 64)
FieldsFit (MovReg d s) = (d < 16) × (s < 16)
FieldsFit (Load d b n) = (d < 16) × (b < 16) × FitsSigned w32 n
FieldsFit (Store b n s) = (b < 16) × FitsSigned w32 n × (s < 16)
FieldsFit (StoreImm b n i) = (b < 16) × FitsSigned w32 n × FitsSigned w32 i
FieldsFit (GsLoad d n) = (d < 16) × FitsSigned w32 n
FieldsFit (GsStore n s) = FitsSigned w32 n × (s < 16)
FieldsFit (GsPush n) = FitsSigned w32 n
FieldsFit (Alu op d s) = (d < 16) × (s < 16)
FieldsFit (AluImm op d i) = (d < 16) × FitsSigned w32 i
FieldsFit (Shl d n) = (d < 16) × (n < 2 ^ 8)
FieldsFit (Shr d n) = (d < 16) × (n < 2 ^ 8)
FieldsFit (Xchg b n s) = (b < 16) × FitsSigned w32 n × (s < 16)
FieldsFit (CmpXchg b n s) = (b < 16) × FitsSigned w32 n × (s < 16)
FieldsFit (Xadd b n s) = (b < 16) × FitsSigned w32 n × (s < 16)
FieldsFit (Jmp n) = FitsSigned w32 n
FieldsFit (Jcc c n) = FitsSigned w32 n
FieldsFit (JmpReg s) = s < 16
FieldsFit (Push s) = s < 16
FieldsFit (PushImm i) = FitsSigned w32 i
FieldsFit (Pop d) = d < 16
FieldsFit (IntN n) = n < 2 ^ 8
FieldsFit (Lkgs s) = s < 16
FieldsFit (MovGs s) = s < 16
FieldsFit (ReadCr2 d) = d < 16
FieldsFit (WriteCr2 s) = s < 16
FieldsFit _ = Unit {0}

-- an instruction of the project: its fields fit, and a shift counts 1 to 63
pub record IsEncodable (i : Ins) : Type 0 where
  pub fields : FieldsFit i
  pub counts : is_instruction i ≡ true

-- bytes that end within the spelling of an instruction
abbrev pub IsCutShort : List ℕ → Type 0
IsCutShort bytes = (i : Ins) × (x : ℕ) × (rest : List ℕ) × IsEncodable i × (spelling i ≡ bytes ++ x ∷ rest)
