-- Instructions as bytes, and bytes as instructions.
use Rattle.std.specs.Prelude.{◌≡◌, refl, pos, negsuc, [], ◌∷◌, Some, None}
use Rattle.ev_isa.specs.Instruction.{is_instruction}
use Rattle.ev_isa.specs.Reading.{behind, forms, narrow_forms, plain_forms, prefixed_forms, reading, reg_at, rm_at, signed_at, wide_forms}
use Rattle.ev_isa.specs.Spelling.{four_bytes, spelling}
use Rattle.ev_isa.specs.declared.instruction.AluOp.{AluOp}
use Rattle.ev_isa.specs.declared.instruction.Cond.{Cond}
use Rattle.ev_isa.specs.declared.instruction.Ins.{Ins}
use Rattle.ev_isa.specs.declared.instruction.Ins.TheVariants.{AluImm, CmpXchg, Eretu, GsLoad, GsPush, GsStore, IntN, Iretq, Jmp, JmpReg, Lkgs, Load, MovGs, MovImm, MovReg, Pop, Push, PushImm, ReadCr2, Shl, Shr, Store, StoreImm, WriteCr2, Xadd, Xchg}

unfoldable pub spelling_and_reading : Unit {0}
unfolding four_bytes spelling signed_at behind reg_at rm_at reading forms plain_forms wide_forms prefixed_forms narrow_forms is_instruction
spelling_and_reading = tt

-- mov rax 5
mov_number : (spelling (MovImm 0 5) ≡ 0x48 ∷ 0xb8 ∷ 0x05 ∷ 0x00 ∷ 0x00 ∷ 0x00 ∷ 0x00 ∷ 0x00 ∷ 0x00 ∷ 0x00 ∷ [])
    × (reading (0x48 ∷ 0xb8 ∷ 0x05 ∷ 0x00 ∷ 0x00 ∷ 0x00 ∷ 0x00 ∷ 0x00 ∷ 0x00 ∷ 0x00 ∷ 0x90 ∷ []) ≡ Some (MovImm 0 5))
unfolding spelling_and_reading
mov_number = (refl, refl)

-- mov r9 rbx
mov_register : (spelling (MovReg 9 3) ≡ 0x49 ∷ 0x89 ∷ 0xd9 ∷ []) × (reading (0x49 ∷ 0x89 ∷ 0xd9 ∷ 0x90 ∷ []) ≡ Some (MovReg 9 3))
unfolding spelling_and_reading
mov_register = (refl, refl)

-- mov r12 [rsp-8]
load_word : (spelling (Load 12 4 (negsuc 7)) ≡ 0x4c ∷ 0x8b ∷ 0xa4 ∷ 0x24 ∷ 0xf8 ∷ 0xff ∷ 0xff ∷ 0xff ∷ [])
    × (reading (0x4c ∷ 0x8b ∷ 0xa4 ∷ 0x24 ∷ 0xf8 ∷ 0xff ∷ 0xff ∷ 0xff ∷ 0x90 ∷ []) ≡ Some (Load 12 4 (negsuc 7)))
unfolding spelling_and_reading
load_word = (refl, refl)

-- mov [r12-1] r15
store_word : (spelling (Store 12 (negsuc 0) 15) ≡ 0x4d ∷ 0x89 ∷ 0xbc ∷ 0x24 ∷ 0xff ∷ 0xff ∷ 0xff ∷ 0xff ∷ [])
    × (reading (0x4d ∷ 0x89 ∷ 0xbc ∷ 0x24 ∷ 0xff ∷ 0xff ∷ 0xff ∷ 0xff ∷ 0x90 ∷ []) ≡ Some (Store 12 (negsuc 0) 15))
unfolding spelling_and_reading
store_word = (refl, refl)

-- mov [rsp+50H] -2
store_number : (spelling (StoreImm 4 (pos 0x50) (negsuc 1)) ≡ 0x48 ∷ 0xc7 ∷ 0x84 ∷ 0x24 ∷ 0x50 ∷ 0x00 ∷ 0x00 ∷ 0x00 ∷ 0xfe ∷ 0xff ∷ 0xff ∷ 0xff ∷ [])
    × (reading (0x48 ∷ 0xc7 ∷ 0x84 ∷ 0x24 ∷ 0x50 ∷ 0x00 ∷ 0x00 ∷ 0x00 ∷ 0xfe ∷ 0xff ∷ 0xff ∷ 0xff ∷ 0x90 ∷ []) ≡ Some (StoreImm 4 (pos 0x50) (negsuc 1)))
unfolding spelling_and_reading
store_number = (refl, refl)

-- mov r12 gs:[0]
load_gs : (spelling (GsLoad 12 (pos 0)) ≡ 0x65 ∷ 0x4c ∷ 0x8b ∷ 0x24 ∷ 0x25 ∷ 0x00 ∷ 0x00 ∷ 0x00 ∷ 0x00 ∷ [])
    × (reading (0x65 ∷ 0x4c ∷ 0x8b ∷ 0x24 ∷ 0x25 ∷ 0x00 ∷ 0x00 ∷ 0x00 ∷ 0x00 ∷ 0x90 ∷ []) ≡ Some (GsLoad 12 (pos 0)))
unfolding spelling_and_reading
load_gs = (refl, refl)

-- mov gs:[8] rsp
store_gs : (spelling (GsStore (pos 8) 4) ≡ 0x65 ∷ 0x48 ∷ 0x89 ∷ 0x24 ∷ 0x25 ∷ 0x08 ∷ 0x00 ∷ 0x00 ∷ 0x00 ∷ [])
    × (reading (0x65 ∷ 0x48 ∷ 0x89 ∷ 0x24 ∷ 0x25 ∷ 0x08 ∷ 0x00 ∷ 0x00 ∷ 0x00 ∷ 0x90 ∷ []) ≡ Some (GsStore (pos 8) 4))
unfolding spelling_and_reading
store_gs = (refl, refl)

-- push gs:[8]
push_gs : (spelling (GsPush (pos 8)) ≡ 0x65 ∷ 0xff ∷ 0x34 ∷ 0x25 ∷ 0x08 ∷ 0x00 ∷ 0x00 ∷ 0x00 ∷ [])
    × (reading (0x65 ∷ 0xff ∷ 0x34 ∷ 0x25 ∷ 0x08 ∷ 0x00 ∷ 0x00 ∷ 0x00 ∷ 0x90 ∷ []) ≡ Some (GsPush (pos 8)))
unfolding spelling_and_reading
push_gs = (refl, refl)

-- add rax rax
add_registers : (spelling (Ins.Alu AluOp.Add 0 0) ≡ 0x48 ∷ 0x01 ∷ 0xc0 ∷ []) × (reading (0x48 ∷ 0x01 ∷ 0xc0 ∷ 0x90 ∷ []) ≡ Some (Ins.Alu AluOp.Add 0 0))
unfolding spelling_and_reading
add_registers = (refl, refl)

-- cmp r15 0
cmp_number : (spelling (AluImm AluOp.Cmp 15 (pos 0)) ≡ 0x49 ∷ 0x81 ∷ 0xff ∷ 0x00 ∷ 0x00 ∷ 0x00 ∷ 0x00 ∷ [])
    × (reading (0x49 ∷ 0x81 ∷ 0xff ∷ 0x00 ∷ 0x00 ∷ 0x00 ∷ 0x00 ∷ 0x90 ∷ []) ≡ Some (AluImm AluOp.Cmp 15 (pos 0)))
unfolding spelling_and_reading
cmp_number = (refl, refl)

-- shl rax 3
shl_number : (spelling (Shl 0 3) ≡ 0x48 ∷ 0xc1 ∷ 0xe0 ∷ 0x03 ∷ []) × (reading (0x48 ∷ 0xc1 ∷ 0xe0 ∷ 0x03 ∷ 0x90 ∷ []) ≡ Some (Shl 0 3))
unfolding spelling_and_reading
shl_number = (refl, refl)

-- shr r10 63
shr_number : (spelling (Shr 10 63) ≡ 0x49 ∷ 0xc1 ∷ 0xea ∷ 0x3f ∷ []) × (reading (0x49 ∷ 0xc1 ∷ 0xea ∷ 0x3f ∷ 0x90 ∷ []) ≡ Some (Shr 10 63))
unfolding spelling_and_reading
shr_number = (refl, refl)

-- xchg [rdx-7D0H] rax
exchange : (spelling (Xchg 2 (negsuc 1999) 0) ≡ 0x48 ∷ 0x87 ∷ 0x82 ∷ 0x30 ∷ 0xf8 ∷ 0xff ∷ 0xff ∷ [])
    × (reading (0x48 ∷ 0x87 ∷ 0x82 ∷ 0x30 ∷ 0xf8 ∷ 0xff ∷ 0xff ∷ 0x90 ∷ []) ≡ Some (Xchg 2 (negsuc 1999) 0))
unfolding spelling_and_reading
exchange = (refl, refl)

-- cmpxchg [rdx+0] rbx
compare_exchange : (spelling (CmpXchg 2 (pos 0) 3) ≡ 0xf0 ∷ 0x48 ∷ 0x0f ∷ 0xb1 ∷ 0x9a ∷ 0x00 ∷ 0x00 ∷ 0x00 ∷ 0x00 ∷ [])
    × (reading (0xf0 ∷ 0x48 ∷ 0x0f ∷ 0xb1 ∷ 0x9a ∷ 0x00 ∷ 0x00 ∷ 0x00 ∷ 0x00 ∷ 0x90 ∷ []) ≡ Some (CmpXchg 2 (pos 0) 3))
unfolding spelling_and_reading
compare_exchange = (refl, refl)

-- xadd [rax+0] r9
exchange_add : (spelling (Xadd 0 (pos 0) 9) ≡ 0xf0 ∷ 0x4c ∷ 0x0f ∷ 0xc1 ∷ 0x88 ∷ 0x00 ∷ 0x00 ∷ 0x00 ∷ 0x00 ∷ [])
    × (reading (0xf0 ∷ 0x4c ∷ 0x0f ∷ 0xc1 ∷ 0x88 ∷ 0x00 ∷ 0x00 ∷ 0x00 ∷ 0x00 ∷ 0x90 ∷ []) ≡ Some (Xadd 0 (pos 0) 9))
unfolding spelling_and_reading
exchange_add = (refl, refl)

-- jmp, 20 bytes back
jump : (spelling (Jmp (negsuc 19)) ≡ 0xe9 ∷ 0xec ∷ 0xff ∷ 0xff ∷ 0xff ∷ []) × (reading (0xe9 ∷ 0xec ∷ 0xff ∷ 0xff ∷ 0xff ∷ 0x90 ∷ []) ≡ Some (Jmp (negsuc 19)))
unfolding spelling_and_reading
jump = (refl, refl)

-- jnz, 16 bytes on
jump_if : (spelling (Ins.Jcc Cond.Nz (pos 16)) ≡ 0x0f ∷ 0x85 ∷ 0x10 ∷ 0x00 ∷ 0x00 ∷ 0x00 ∷ [])
    × (reading (0x0f ∷ 0x85 ∷ 0x10 ∷ 0x00 ∷ 0x00 ∷ 0x00 ∷ 0x90 ∷ []) ≡ Some (Ins.Jcc Cond.Nz (pos 16)))
unfolding spelling_and_reading
jump_if = (refl, refl)

-- jmp r9
jump_register : (spelling (JmpReg 9) ≡ 0x41 ∷ 0xff ∷ 0xe1 ∷ []) × (reading (0x41 ∷ 0xff ∷ 0xe1 ∷ 0x90 ∷ []) ≡ Some (JmpReg 9))
unfolding spelling_and_reading
jump_register = (refl, refl)

-- push r15
push_register : (spelling (Push 15) ≡ 0x41 ∷ 0x57 ∷ []) × (reading (0x41 ∷ 0x57 ∷ 0x90 ∷ []) ≡ Some (Push 15))
unfolding spelling_and_reading
push_register = (refl, refl)

-- push 2BH
push_number : (spelling (PushImm (pos 0x2b)) ≡ 0x68 ∷ 0x2b ∷ 0x00 ∷ 0x00 ∷ 0x00 ∷ [])
    × (reading (0x68 ∷ 0x2b ∷ 0x00 ∷ 0x00 ∷ 0x00 ∷ 0x90 ∷ []) ≡ Some (PushImm (pos 0x2b)))
unfolding spelling_and_reading
push_number = (refl, refl)

-- pop rdx
pop_register : (spelling (Pop 2) ≡ 0x5a ∷ []) × (reading (0x5a ∷ 0x90 ∷ []) ≡ Some (Pop 2))
unfolding spelling_and_reading
pop_register = (refl, refl)

-- int 13
interrupt : (spelling (IntN 13) ≡ 0xcd ∷ 0x0d ∷ []) × (reading (0xcd ∷ 0x0d ∷ 0x90 ∷ []) ≡ Some (IntN 13))
unfolding spelling_and_reading
interrupt = (refl, refl)

-- lkgs rdx
load_kernel_gs : (spelling (Lkgs 2) ≡ 0xf2 ∷ 0x0f ∷ 0x00 ∷ 0xf2 ∷ []) × (reading (0xf2 ∷ 0x0f ∷ 0x00 ∷ 0xf2 ∷ 0x90 ∷ []) ≡ Some (Lkgs 2))
unfolding spelling_and_reading
load_kernel_gs = (refl, refl)

-- mov gs r8
load_gs_selector : (spelling (MovGs 8) ≡ 0x41 ∷ 0x8e ∷ 0xe8 ∷ []) × (reading (0x41 ∷ 0x8e ∷ 0xe8 ∷ 0x90 ∷ []) ≡ Some (MovGs 8))
unfolding spelling_and_reading
load_gs_selector = (refl, refl)

-- mov r14 cr2
read_fault_address : (spelling (ReadCr2 14) ≡ 0x41 ∷ 0x0f ∷ 0x20 ∷ 0xd6 ∷ []) × (reading (0x41 ∷ 0x0f ∷ 0x20 ∷ 0xd6 ∷ 0x90 ∷ []) ≡ Some (ReadCr2 14))
unfolding spelling_and_reading
read_fault_address = (refl, refl)

-- mov cr2 r14
write_fault_address : (spelling (WriteCr2 14) ≡ 0x41 ∷ 0x0f ∷ 0x22 ∷ 0xd6 ∷ []) × (reading (0x41 ∷ 0x0f ∷ 0x22 ∷ 0xd6 ∷ 0x90 ∷ []) ≡ Some (WriteCr2 14))
unfolding spelling_and_reading
write_fault_address = (refl, refl)

-- eretu
return_to_user : (spelling (Eretu) ≡ 0xf3 ∷ 0x0f ∷ 0x01 ∷ 0xca ∷ []) × (reading (0xf3 ∷ 0x0f ∷ 0x01 ∷ 0xca ∷ 0x90 ∷ []) ≡ Some (Eretu))
unfolding spelling_and_reading
return_to_user = (refl, refl)

-- iretq
return_from_interrupt : (spelling (Iretq) ≡ 0x48 ∷ 0xcf ∷ []) × (reading (0x48 ∷ 0xcf ∷ 0x90 ∷ []) ≡ Some (Iretq))
unfolding spelling_and_reading
return_from_interrupt = (refl, refl)

-- bytes that begin with no instruction: an unknown opcode, a spelling that breaks off, and a shift by 64
unknown_bytes : reading (0x06 ∷ 0x90 ∷ []) ≡ None
unfolding spelling_and_reading
unknown_bytes = refl

short_bytes : reading (0x48 ∷ 0xb8 ∷ 0x05 ∷ []) ≡ None
unfolding spelling_and_reading
short_bytes = refl

shift_too_far : reading (0x48 ∷ 0xc1 ∷ 0xe0 ∷ 64 ∷ 0x90 ∷ []) ≡ None
unfolding spelling_and_reading
shift_too_far = refl
