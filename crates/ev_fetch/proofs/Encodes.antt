-- A test for instructions that have a spelling.
use Rattle.std.proofs.Common.{◌≡◌, ℤ, pos, negsuc, ◌^◌, Bool, true, false, ◌&&◌, refl, arith}
use Rattle.std.specs.Prelude.{nat_lt, nat_le}
use Rattle.std.specs.Int.{w32}
use Rattle.std.specs.Int.RustNames.{FitsSigned}
use Rattle.std.proofs.lemmas.Bool.{ltb-true}
use Rattle.ev_isa.specs.declared.instruction.Ins.{Ins}
use Rattle.ev_isa.specs.declared.instruction.Ins.TheVariants.{MovImm, MovReg, Load, Store, StoreImm, GsLoad, GsStore, GsPush, Alu, AluImm, Shl, Shr, Xchg, CmpXchg, Xadd, Jmp, Jcc, JmpReg, Push, PushImm, Pop, IntN, Lkgs, MovGs, ReadCr2, WriteCr2}
use Rattle.ev_isa.specs.Instruction.{is_instruction}
use Rattle.ev_code.specs.Coding.{IsEncodable}

-- a number that four bytes hold
abbrev fits : ℤ → Bool
fits (pos n) = nat_lt n (2 ^ 31)
fits (negsuc n) = nat_lt n (2 ^ 31)

fits_signed : (z : ℤ) → fits z ≡ true → FitsSigned w32 z
fits_signed (pos n) h = let lt = ltb-true n (2 ^ 31) h in record { sfits = lt }
fits_signed (negsuc n) h = let lt = ltb-true n (2 ^ 31) h in record { sfits = lt }

pub and_parts : (a b : Bool) → (a && b) ≡ true → (a ≡ true) × (b ≡ true)
and_parts true b h = (refl, h)
and_parts false b h = absurd (cc)

abbrev pub encodes : Ins → Bool
encodes (MovImm d n) = nat_lt d 16 && nat_lt n (2 ^ 64)
encodes (MovReg d s) = nat_lt d 16 && nat_lt s 16
encodes (Load d b n) = nat_lt d 16 && (nat_lt b 16 && fits n)
encodes (Store b n s) = nat_lt b 16 && (fits n && nat_lt s 16)
encodes (StoreImm b n i) = nat_lt b 16 && (fits n && fits i)
encodes (GsLoad d n) = nat_lt d 16 && fits n
encodes (GsStore n s) = fits n && nat_lt s 16
encodes (GsPush n) = fits n
encodes (Alu op d s) = nat_lt d 16 && nat_lt s 16
encodes (AluImm op d i) = nat_lt d 16 && fits i
encodes (Shl d n) = nat_lt d 16 && (nat_le 1 n && nat_lt n 64)
encodes (Shr d n) = nat_lt d 16 && (nat_le 1 n && nat_lt n 64)
encodes (Xchg b n s) = nat_lt b 16 && (fits n && nat_lt s 16)
encodes (CmpXchg b n s) = nat_lt b 16 && (fits n && nat_lt s 16)
encodes (Xadd b n s) = nat_lt b 16 && (fits n && nat_lt s 16)
encodes (Jmp n) = fits n
encodes (Jcc c n) = fits n
encodes (JmpReg s) = nat_lt s 16
encodes (Push s) = nat_lt s 16
encodes (PushImm i) = fits i
encodes (Pop d) = nat_lt d 16
encodes (IntN n) = nat_lt n 256
encodes (Lkgs s) = nat_lt s 16
encodes (MovGs s) = nat_lt s 16
encodes (ReadCr2 d) = nat_lt d 16
encodes (WriteCr2 s) = nat_lt s 16
encodes i = true

pub encodable : (i : Ins) → encodes i ≡ true → IsEncodable i
unfolding is_instruction
encodable (MovImm d n) h = let k = and_parts (nat_lt d 16) (nat_lt n (2 ^ 64)) h in
    record { fields = (ltb-true d 16 k.0, ltb-true n (2 ^ 64) k.1); counts = refl }
encodable (MovReg d s) h = let k = and_parts (nat_lt d 16) (nat_lt s 16) h in record { fields = (ltb-true d 16 k.0, ltb-true s 16 k.1); counts = refl }
encodable (Load d b n) h = let k = and_parts (nat_lt d 16) (nat_lt b 16 && fits n) h in let l = and_parts (nat_lt b 16) (fits n) k.1 in
    record { fields = (ltb-true d 16 k.0, ltb-true b 16 l.0, fits_signed n l.1); counts = refl }
encodable (Store b n s) h = let k = and_parts (nat_lt b 16) (fits n && nat_lt s 16) h in let l = and_parts (fits n) (nat_lt s 16) k.1 in
    record { fields = (ltb-true b 16 k.0, fits_signed n l.0, ltb-true s 16 l.1); counts = refl }
encodable (StoreImm b n i) h = let k = and_parts (nat_lt b 16) (fits n && fits i) h in let l = and_parts (fits n) (fits i) k.1 in
    record { fields = (ltb-true b 16 k.0, fits_signed n l.0, fits_signed i l.1); counts = refl }
encodable (GsLoad d n) h = let k = and_parts (nat_lt d 16) (fits n) h in record { fields = (ltb-true d 16 k.0, fits_signed n k.1); counts = refl }
encodable (GsStore n s) h = let k = and_parts (fits n) (nat_lt s 16) h in record { fields = (fits_signed n k.0, ltb-true s 16 k.1); counts = refl }
encodable (GsPush n) h = record { fields = fits_signed n h; counts = refl }
encodable (Alu op d s) h = let k = and_parts (nat_lt d 16) (nat_lt s 16) h in record { fields = (ltb-true d 16 k.0, ltb-true s 16 k.1); counts = refl }
encodable (AluImm op d i) h = let k = and_parts (nat_lt d 16) (fits i) h in record { fields = (ltb-true d 16 k.0, fits_signed i k.1); counts = refl }
encodable (Shl d n) h = let k = and_parts (nat_lt d 16) (nat_le 1 n && nat_lt n 64) h in let l = and_parts (nat_le 1 n) (nat_lt n 64) k.1 in let few =
    ltb-true n 64 l.1 in record { fields = (ltb-true d 16 k.0, omega arith); counts = k.1 }
encodable (Shr d n) h = let k = and_parts (nat_lt d 16) (nat_le 1 n && nat_lt n 64) h in let l = and_parts (nat_le 1 n) (nat_lt n 64) k.1 in let few =
    ltb-true n 64 l.1 in record { fields = (ltb-true d 16 k.0, omega arith); counts = k.1 }
encodable (Xchg b n s) h = let k = and_parts (nat_lt b 16) (fits n && nat_lt s 16) h in let l = and_parts (fits n) (nat_lt s 16) k.1 in
    record { fields = (ltb-true b 16 k.0, fits_signed n l.0, ltb-true s 16 l.1); counts = refl }
encodable (CmpXchg b n s) h = let k = and_parts (nat_lt b 16) (fits n && nat_lt s 16) h in let l = and_parts (fits n) (nat_lt s 16) k.1 in
    record { fields = (ltb-true b 16 k.0, fits_signed n l.0, ltb-true s 16 l.1); counts = refl }
encodable (Xadd b n s) h = let k = and_parts (nat_lt b 16) (fits n && nat_lt s 16) h in let l = and_parts (fits n) (nat_lt s 16) k.1 in
    record { fields = (ltb-true b 16 k.0, fits_signed n l.0, ltb-true s 16 l.1); counts = refl }
encodable (Jmp n) h = record { fields = fits_signed n h; counts = refl }
encodable (Jcc c n) h = record { fields = fits_signed n h; counts = refl }
encodable (JmpReg s) h = record { fields = ltb-true s 16 h; counts = refl }
encodable (Push s) h = record { fields = ltb-true s 16 h; counts = refl }
encodable (PushImm i) h = record { fields = fits_signed i h; counts = refl }
encodable (Pop d) h = record { fields = ltb-true d 16 h; counts = refl }
encodable (IntN n) h = record { fields = ltb-true n 256 h; counts = refl }
encodable (Lkgs s) h = record { fields = ltb-true s 16 h; counts = refl }
encodable (MovGs s) h = record { fields = ltb-true s 16 h; counts = refl }
encodable (ReadCr2 d) h = record { fields = ltb-true d 16 h; counts = refl }
encodable (WriteCr2 s) h = record { fields = ltb-true s 16 h; counts = refl }
encodable i h = record { fields = tt; counts = refl }
