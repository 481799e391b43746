-- Which instructions there are, and which of them user code may hold.
use Rattle.std.specs.Prelude.{Bool, true, false, ◌&&◌, nat_lt, nat_le}
use Rattle.ev_isa.specs.declared.instruction.Ins.{Ins}
use Rattle.ev_isa.specs.declared.instruction.Ins.TheVariants.{Shl, Shr, Sysretq, Iretq, Swapgs, Eretu, Erets, Lkgs, MovGs, ReadCr2, WriteCr2, Rdmsr, Wrmsr}

-- at CPL 3 every other instruction is an unknown byte sequence (own)
unfoldable pub user_may : Ins → Bool
user_may Sysretq = false
user_may Iretq = false
user_may Swapgs = false
user_may Eretu = false
user_may Erets = false
user_may (Lkgs s) = false
user_may (MovGs s) = false
user_may (ReadCr2 r) = false
user_may (WriteCr2 r) = false
user_may Rdmsr = false
user_may Wrmsr = false
user_may _ = true

-- a shift counts 1 to 63 (own: other counts have no spelling), and every other instruction is one of the project
unfoldable pub is_instruction : Ins → Bool
is_instruction (Shl d n) = nat_le 1 n && nat_lt n 64
is_instruction (Shr d n) = nat_le 1 n && nat_lt n 64
is_instruction _ = true
