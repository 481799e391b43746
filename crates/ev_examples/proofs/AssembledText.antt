-- Statements with labels as bytes and places, and the first statement that stands in the way.
use Rattle.std.specs.Prelude.{◌≡◌, refl, List, [], ◌∷◌, Some, None, Ok, Err, codes}
use Rattle.ev_isa.specs.Spelling.{four_bytes, spelling}
use Rattle.ev_isa.specs.declared.instruction.AluOp.{AluOp}
use Rattle.ev_isa.specs.declared.instruction.Cond.{Cond}
use Rattle.ev_isa.specs.declared.instruction.Ins.{Ins}
use Rattle.ev_isa.specs.declared.instruction.Ins.TheVariants.{MovImm, Nop, Syscall}
use Rattle.ev_asm.specs.Assembled.{addresses_of, assembled, first_at, first_too_large, is_second_label, leads_nowhere}
use Rattle.ev_asm.specs.Assembly.{code, distance, places, size, stmt_bytes}
use Rattle.ev_asm.specs.declared.fault.AsmFault.{AsmFault}
use Rattle.ev_asm.specs.declared.statement.Stmt.{Stmt}
use Rattle.ev_asm.specs.declared.statement.Stmt.TheVariants.{Jump, Label, Plain}

unfoldable pub assembling : Unit {0}
unfolding four_bytes spelling size places distance stmt_bytes code is_second_label first_at leads_nowhere first_too_large addresses_of assembled
assembling = tt

unfoldable pub counting : List Stmt
counting = Label (codes "start") ∷ Plain (MovImm 0 5) ∷ Plain Syscall ∷ Plain (Ins.Alu AluOp.Add 0 0) ∷ Jump None (codes "start") ∷ []

counting_bytes : assembled counting 0x400000 20 ≡ Ok (record {
  base = 0x400000;
  bytes = 0x48 ∷ 0xb8 ∷ 5 ∷ 0 ∷ 0 ∷ 0 ∷ 0 ∷ 0 ∷ 0 ∷ 0 ∷ 0x0f ∷ 0x05 ∷ 0x48 ∷ 0x01 ∷ 0xc0 ∷ 0xe9 ∷ 0xec ∷ 0xff ∷ 0xff ∷ 0xff ∷ [];
  places = 0x400000 ∷ 0x400000 ∷ 0x40000a ∷ 0x40000c ∷ 0x40000f ∷ [];
})
unfolding assembling counting
counting_bytes = refl

-- a byte less
too_large : assembled counting 0x400000 19 ≡ Err (AsmFault.TooLarge 4)
unfolding assembling counting
too_large = refl

no_label : assembled (Plain Nop ∷ Jump (Some Cond.Z) (codes "end") ∷ []) 0x400000 20 ≡ Err (AsmFault.NoLabel 1)
unfolding assembling
no_label = refl

-- tested before the jump to a label that isn't there
double_label : assembled (Jump None (codes "end") ∷ Label (codes "a") ∷ Label (codes "a") ∷ []) 0x400000 20 ≡ Err (AsmFault.DoubleLabel 2)
unfolding assembling
double_label = refl
