-- The kernel's code under IDT (after Linux arch/x86/entry/entry_64.S: entry_SYSCALL_64, idtentry, asm_exc_nmi and its nested-NMI code).
--
-- While a body runs, RSP is the lowest address of the saved area:
--
--   A8  SS      ]
--   A0  RSP     ]  the frame that the delivery wrote, or SYS
--   98  RFLAGS  ]
--   90  CS      ]
--   88  RIP     ]
--   80  error code, or 0
--   78  key: the vector, or 100H of a system call
--   70  rax  68 rcx  60 rdx  58 rbx  50 rbp  48 rsi  40 rdi  38 r8  30 r9  28 r10  20 r11  18 r12  10 r13  8 r14  0 r15
use Rattle.std.specs.Prelude.{ℕ, zero, suc, pos, ◌+◌, ◌-◌, ◌*◌, if◌then◌else◌, List, [], ◌∷◌, ◌++◌, flat_map, None, codes}
use Rattle.ev_isa.specs.declared.instruction.Ins.{Ins}
use Rattle.ev_isa.specs.declared.instruction.Ins.TheVariants.{Load, Store, StoreImm, GsPush, Shr, Push, PushImm, Pop, JmpReg, Swapgs, Sysretq, Iretq, Rdmsr, MovGs, ReadCr2, WriteCr2}
use Rattle.ev_isa.specs.declared.instruction.AluOp.TheVariants.{Add, And, Sub, Cmp}
use Rattle.ev_listing.specs.AddressMap.{user_rsp_offset, top_offset, current_offset, mark_offset, rsp0_offset, saved_key, saved_error, saved_rip, saved_cs, saved_flags, saved_rcx, saved_r11, user_table, kernel_table, no_body, vector_stub, sys_entry, common_entry, exit_entry, nmi_entry, repeat_entry, nbody_entry, exitn_entry, nlast_entry}
use Rattle.ev_event.specs.Event.{has_error_code}
use Rattle.ev_listing.specs.Statements.{label, rax, rcx, rdx, rbx, rsp, rsi, rdi, op, seen, less, mov, move, load, store, gs_load, gs_store, alu_imm, jmp, jz, jnz, jc, push_all, pop_all, zeros, go}
use Rattle.ev_asm.specs.declared.statement.Stmt.TheVariants.{Plain, Jump}
use Rattle.ev_asm.specs.Assembly.{Name, total_size}
use Rattle.ev_listing.specs.Marks.{Never, Always, IfNonzero, IfEqual, Marked, Listing, stmts_of}

-- The stub that gate v names (Linux: the entries of idt_table). Where the processor pushes no error code, 0 stands for it.
abbrev pub stub : ℕ → List Marked
stub v = (if has_error_code v then [] else op (PushImm (pos 0)) ∷ []) ++ op (PushImm (pos v)) ∷ jmp (codes "COMMON") ∷ []

-- the stubs of the vectors from v on, so many
abbrev pub stubs : ℕ → ℕ → List Listing
stubs v zero = []
stubs v (suc n) = record { address = vector_stub v; lines = stub v } ∷ stubs (suc v) n

-- Where SYSCALL leads (Linux: entry_SYSCALL_64). SYSCALL writes no frame, leaves RSP, and has RIP in rcx and RFLAGS in r11: on the task's stack
-- the code makes the frame that a delivery would have written.
abbrev pub sys : List Marked
sys =
    op Swapgs  -- from here on GS is the area of this processor
    ∷ gs_store user_rsp_offset rsp
    ∷ gs_load rsp top_offset
    ∷ op (PushImm (pos 0x2b))  -- SS of user code
    ∷ op (GsPush (pos user_rsp_offset))  -- RSP
    ∷ op (Push 11)  -- RFLAGS
    ∷ op (PushImm (pos 0x33))  -- CS of user code
    ∷ op (Push rcx)  -- RIP
    ∷ op (PushImm (pos 0))  -- no error code
    ∷ op (PushImm (pos 0x100))  -- the key of system calls
    ∷ push_all ++ jmp (codes "CM1") ∷ []

-- Where all stubs lead (Linux: error_entry). The saved CS tells whether GS is still the user's. It ends in the body of the key, by the table of its side.
abbrev pub common : List Marked
common =
    label (codes "COMMON")
    ∷ push_all
    ++ load rax rsp saved_cs
    ∷ alu_imm And rax 3
    ∷ mov rcx kernel_table
    ∷ jz (codes "CM2")  -- from the kernel
    ∷ op Swapgs
    ∷ label (codes "CM1")
    ∷ mov rcx user_table
    ∷ label (codes "CM2")
    ∷ load rdi rsp saved_key
    ∷ load rsi rsp saved_error
    ∷ mov 8 0
    ∷ alu_imm Cmp rdi 14
    ∷ jnz (codes "CM3")
    ∷ op (ReadCr2 8)  -- a page fault's address
    ∷ label (codes "CM3")
    ∷ zeros (9 ∷ 10 ∷ 11 ∷ 12 ∷ 13 ∷ 14 ∷ []) ++ go

-- The exit of every body but those of NMIs (Linux: swapgs_restore_regs_and_return_to_usermode, and the end of entry_SYSCALL_64).
abbrev pub exit : List Marked
exit =
    label (codes "EXIT")
    ∷ load rax rsp saved_cs
    ∷ alu_imm And rax 3
    ∷ jz (codes "XK")  -- to the kernel
    ∷ gs_load rax mark_offset
    ∷ alu_imm Cmp rax 0
    ∷ jz (codes "XU")  -- to the task that was interrupted
    -- the mark is set: to the next task of the ring
    ∷ mov rax 0
    ∷ gs_store mark_offset rax
    ∷ gs_load rbx current_offset
    ∷ load rbx rbx 0
    ∷ gs_store current_offset rbx
    ∷ load rcx rbx 8
    ∷ gs_store top_offset rcx
    ∷ gs_store rsp0_offset rcx
    ∷ move rsp rcx
    ∷ alu_imm Sub rsp 0xb0  -- its saved area
    ∷ load rdx rbx 0x10
    ∷ op Swapgs
    ∷ op (MovGs rdx)  -- its GS base
    ∷ op Swapgs
    -- SYSRETQ takes RIP from rcx and RFLAGS from r11, so it serves where they are equal
    ∷ label (codes "XU")
    ∷ load rax rsp saved_rcx
    ∷ load rbx rsp saved_rip
    ∷ op (Ins.Alu Cmp rax rbx)
    ∷ jnz (codes "XI")
    ∷ load rax rsp saved_r11
    ∷ load rbx rsp saved_flags
    ∷ op (Ins.Alu Cmp rax rbx)
    ∷ jnz (codes "XI")
    ∷ op Swapgs
    ∷ pop_all
    ++ load rsp rsp 0x28  -- RSP of the frame, above key, error code, RIP, CS and RFLAGS
    ∷ seen Sysretq
    ∷ label (codes "XI")
    ∷ op Swapgs
    ∷ label (codes "XK")
    ∷ pop_all
    ++ alu_imm Add rsp 0x10  -- above key and error code
    ∷ seen Iretq
    ∷ []

-- NMIs (Linux: asm_exc_nmi). The hardware blocks NMIs from a delivery to the next IRETQ, and a breakpoint or page fault in the handler returns by one:
-- so an NMI can come while the first one's handler runs, and it starts at the top T of the NMI stack again, over the first one's frame. Therefore:
--
--   T - 28   frame of the NMI that came last: SS RSP RFLAGS CS RIP
--   T - 30   rdx of the NMI that came last
--   T - 38   rax of it
--   T - 40   running: 1 from FIRST's end to NLAST
--   T - 68   outermost copy: the first NMI's frame, never changed
--   T - 90   return frame: what the last IRETQ takes
--   T - 98   error 0, and below it key 2 and the registers, as in every saved area
--
-- An inner NMI runs no handler. It makes the return frame lead to REPEAT, which runs the handler once more for all that came meanwhile.

-- word i of the hardware frame goes to the return frame and to the outermost copy; rdx is T - 38
abbrev pub copied : ℕ → List Marked
copied i =
    load rax rdx (0x10 + 8 * i)
    ∷ op (Store rdx (less (0x30 - 8 * i)) rax)
    ∷ op (Store rdx (less (0x58 - 8 * i)) rax)
    ∷ []

-- `running` becomes 1, where RSP is the base of the saved area
abbrev pub running_set : List Marked
running_set = mov rax 1 ∷ store rsp 0xd8 rax ∷ []

-- The first or an inner one? From user code it is the first. From [REPEAT, NBODY) it is inner, and another run is about to begin: it changes nothing.
-- At the last IRETQ, where `running` is 0 again, it is inner; else `running` tells.
abbrev pub nmi : List Marked
nmi =
    label (codes "NMI")
    ∷ op (Push rdx)
    ∷ op (Push rax)
    ∷ load rax rsp 0x18  -- CS
    ∷ alu_imm And rax 3
    ∷ jnz (codes "FIRST")
    ∷ load rdx rsp 0x10  -- RIP
    ∷ mov rax repeat_entry
    ∷ op (Ins.Alu Cmp rdx rax)
    ∷ jc (codes "N1")
    ∷ mov rax nbody_entry
    ∷ op (Ins.Alu Cmp rdx rax)
    ∷ jc (codes "INRET")
    ∷ label (codes "N1")
    ∷ mov rax (nlast_entry + 12)  -- the last IRETQ
    ∷ op (Ins.Alu Cmp rdx rax)
    ∷ jz (codes "REDIR")
    ∷ op (Load rax rsp (less 8))  -- running
    ∷ alu_imm Cmp rax 1
    ∷ jnz (codes "FIRST")
    -- the return frame: REPEAT, CS 10H, RFLAGS 2, RSP at the return frame itself, SS 18H
    ∷ label (codes "REDIR")
    ∷ mov rax repeat_entry
    ∷ op (Store rsp (less 0x58) rax)
    ∷ op (StoreImm rsp (less 0x50) (pos 0x10))
    ∷ op (StoreImm rsp (less 0x48) (pos 2))
    ∷ move rax rsp
    ∷ alu_imm Sub rax 0x58
    ∷ op (Store rsp (less 0x40) rax)
    ∷ op (StoreImm rsp (less 0x38) (pos 0x18))
    ∷ label (codes "INRET")
    ∷ op (Pop rax)
    ∷ op (Pop rdx)
    ∷ op Iretq
    -- the first: RSP to the lowest word of the return frame
    ∷ label (codes "FIRST")
    ∷ move rdx rsp
    ∷ alu_imm Sub rsp 0x58
    ∷ flat_map copied (0 ∷ 1 ∷ 2 ∷ 3 ∷ 4 ∷ [])
    ++ load rax rdx 0
    ∷ load rdx rdx 8
    ∷ op (PushImm (pos 0))
    ∷ op (PushImm (pos 2))
    ∷ push_all ++ running_set ++ jmp (codes "NBODY") ∷ []

-- word i of the outermost copy goes to the return frame
abbrev pub copied_again : ℕ → List Marked
copied_again i = load rax rsp (0xb0 + 8 * i) ∷ store rsp (0x88 + 8 * i) rax ∷ []

-- The handler once more (Linux: repeat_nmi). Its last jump is the delivery of the held NMI.
abbrev pub repeat : List Marked
repeat =
    op (PushImm (pos 0))
    ∷ op (PushImm (pos 2))
    ∷ push_all
    ++ flat_map copied_again (0 ∷ 1 ∷ 2 ∷ 3 ∷ 4 ∷ [])
    ++ running_set
    ++ record { mark = Always; stmt = Jump None (codes "NBODY") } ∷ []

-- To the body (Linux: paranoid_entry). GS can be the user's in the kernel too, at the edges of SYS and EXIT: the sign of its base tells. r15 keeps whether
-- it was the kernel's, r14 keeps CR2.
abbrev pub nbody : List Marked
nbody =
    label (codes "NBODY")
    ∷ mov rcx 0xc0000101  -- the GS base, in edx:eax
    ∷ op Rdmsr
    ∷ op (Shr rdx 31)
    ∷ move 15 rdx
    ∷ alu_imm Cmp 15 0
    ∷ jnz (codes "NB1")
    ∷ op Swapgs
    ∷ label (codes "NB1")
    ∷ op (ReadCr2 14)
    ∷ load rax rsp 0xb8  -- CS of the outermost copy: the return frame's may change
    ∷ alu_imm And rax 3
    ∷ mov rcx kernel_table
    ∷ jz (codes "NB2")
    ∷ mov rcx user_table
    ∷ label (codes "NB2")
    ∷ mov rdi 2
    ∷ mov rsi 0
    ∷ zeros (8 ∷ 9 ∷ 10 ∷ 11 ∷ 12 ∷ 13 ∷ []) ++ load rax rcx 0x10 ∷ op (JmpReg rax) ∷ []

-- The exit of an NMI's body (Linux: paranoid_exit).
abbrev pub exitn : List Marked
exitn =
    label (codes "EXITN")
    ∷ op (WriteCr2 14)
    ∷ alu_imm Cmp 15 0
    ∷ jnz (codes "NX1")
    ∷ op Swapgs
    ∷ label (codes "NX1")
    ∷ pop_all ++ alu_imm Add rsp 0x10 ∷ jmp (codes "NLAST") ∷ []

-- `running` becomes 0, and the last IRETQ takes the return frame.
abbrev pub nlast : List Marked
nlast = label (codes "NLAST") ∷ op (StoreImm rsp (pos 0x50) (pos 0)) ∷ seen Iretq ∷ []

-- where UTAB and KTAB name no body
abbrev pub none : List Marked
none = label (codes "NONE") ∷ jmp (codes "NONE") ∷ []

-- the code under IDT, by its addresses
unfoldable pub idt_listings : List Listing
idt_listings =
    record { address = no_body; lines = none }
    ∷ record { address = sys_entry; lines = sys }
    ∷ record { address = common_entry; lines = common }
    ∷ record { address = exit_entry; lines = exit }
    ∷ record { address = nmi_entry; lines = nmi }
    ∷ record { address = repeat_entry; lines = repeat }
    ∷ record { address = nbody_entry; lines = nbody }
    ∷ record { address = exitn_entry; lines = exitn }
    ∷ record { address = nlast_entry; lines = nlast }
    ∷ stubs 0 256
