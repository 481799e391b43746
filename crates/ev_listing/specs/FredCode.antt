-- The kernel's code under FRED (after Linux arch/x86/entry/entry_64_fred.S and entry_fred.c).
--
-- The delivery has written 64 bytes and exchanged the GS bases. While a body runs, RSP is the lowest address of the saved area:
--
--   B8  0                    ]
--   B0  event data           ]
--   A8  SS, type and vector  ]
--   A0  RSP                  ]  the frame
--   98  RFLAGS               ]
--   90  CS and old level     ]
--   88  RIP                  ]
--   80  error code, or 0     ]
--   78  rax once more, and below it the registers as under IDT
use Rattle.std.specs.Prelude.{◌+◌, List, [], ◌∷◌, ◌++◌, codes}
use Rattle.ev_isa.specs.declared.instruction.Ins.TheVariants.{Shl, Shr, Push, Wrmsr, Lkgs, Eretu, Erets}
use Rattle.ev_isa.specs.declared.instruction.AluOp.TheVariants.{Add, And, Sub, Cmp}
use Rattle.ev_listing.specs.AddressMap.{top_offset, current_offset, mark_offset, saved_error, saved_rip, saved_cs, saved_flags, saved_ss, saved_data, saved_rcx, saved_r11, user_table, kernel_table, no_body, fred_page}
use Rattle.ev_listing.specs.Statements.{label, rax, rcx, rdx, rbx, rsp, rsi, rdi, op, seen, mov, move, load, store, gs_load, gs_store, alu_imm, jmp, jz, jnz, push_all, pop_all, zeros, go}
use Rattle.ev_listing.specs.IdtCode.{none}
use Rattle.ev_asm.specs.declared.statement.Stmt.TheVariants.{Plain, Jump}
use Rattle.ev_asm.specs.Assembly.{Name, total_size}
use Rattle.ev_listing.specs.Marks.{Never, Always, IfNonzero, IfEqual, Marked, Listing, stmts_of}

-- FU: from ring 3 (Linux: fred_entry_from_user). The SS word tells the event: bits 51:48 its type, 39:32 its vector. SYSCALL is of type 7 (FS), INT n of
-- type 4 (FI), and all others go by their vector (FT). FK: from ring 0 (Linux: fred_entry_from_kernel).
abbrev pub entries : List Marked
entries =
    label (codes "FU")
    ∷ op (Push rax)
    ∷ push_all
    ++ load rdx rsp saved_ss
    ∷ move rcx rdx
    ∷ op (Shr rcx 48)
    ∷ alu_imm And rcx 15  -- the type
    ∷ move rdi rdx
    ∷ op (Shr rdi 32)
    ∷ alu_imm And rdi 0xff  -- the vector
    ∷ load rsi rsp saved_error
    ∷ load 8 rsp saved_data
    ∷ alu_imm Cmp rcx 7
    ∷ jz (codes "FS")
    ∷ alu_imm Cmp rcx 4
    ∷ jz (codes "FI")
    ∷ label (codes "FT")
    ∷ mov rcx user_table
    ∷ label (codes "FD")
    ∷ zeros (9 ∷ 10 ∷ 11 ∷ 12 ∷ 13 ∷ 14 ∷ [])
    ++ go
    -- a system call: user code finds rcx and r11 as SYSCALL leaves them
    ++ label (codes "FS")
    ∷ mov rdi 0x100
    ∷ load rax rsp saved_rip
    ∷ store rsp saved_rcx rax
    ∷ load rax rsp saved_flags
    ∷ store rsp saved_r11 rax
    ∷ jmp (codes "FT")
    -- INT 3 is a breakpoint; any other INT n is #GP with error code 8n + 2 at the instruction, which is 2 bytes long
    ∷ label (codes "FI")
    ∷ alu_imm Cmp rdi 3
    ∷ jz (codes "FT")
    ∷ move rsi rdi
    ∷ op (Shl rsi 3)
    ∷ alu_imm Add rsi 2
    ∷ mov rdi 13
    ∷ load rax rsp saved_rip
    ∷ alu_imm Sub rax 2
    ∷ store rsp saved_rip rax
    ∷ jmp (codes "FT")
    ∷ label (codes "FK")
    ∷ op (Push rax)
    ∷ push_all
    ++ load rdi rsp saved_ss
    ∷ op (Shr rdi 32)
    ∷ alu_imm And rdi 0xff
    ∷ load rsi rsp saved_error
    ∷ load 8 rsp saved_data
    ∷ mov rcx kernel_table
    ∷ jmp (codes "FD")
    ∷ []

-- FEXIT: the exit of every body but those of NMIs (Linux: asm_fred_exit_user, asm_fred_exit_kernel). FEXITN: that of an NMI's body, which never switches.
abbrev pub exits : List Marked
exits =
    label (codes "FEXIT")
    ∷ load rax rsp saved_cs
    ∷ alu_imm And rax 3
    ∷ jz (codes "FXK")  -- to the kernel
    ∷ gs_load rax mark_offset
    ∷ alu_imm Cmp rax 0
    ∷ jz (codes "FXU")  -- to the task that was interrupted
    -- the mark is set: to the next task of the ring
    ∷ mov rax 0
    ∷ gs_store mark_offset rax
    ∷ gs_load rbx current_offset
    ∷ load rbx rbx 0
    ∷ gs_store current_offset rbx
    ∷ load rax rbx 8
    ∷ gs_store top_offset rax
    ∷ move rsp rax
    ∷ alu_imm Sub rsp 0xc0  -- its saved area
    ∷ move rdx rax
    ∷ op (Shr rdx 32)
    ∷ mov rcx 0x1cc  -- RSP of level 0, from edx:eax
    ∷ op Wrmsr
    ∷ load rdx rbx 0x10
    ∷ op (Lkgs rdx)  -- its GS base, which ERETU makes current
    ∷ label (codes "FXU")
    ∷ pop_all
    ++ alu_imm Add rsp 8  -- above the second rax
    ∷ seen Eretu
    ∷ label (codes "FXK")
    ∷ pop_all
    ++ alu_imm Add rsp 8
    ∷ seen Erets
    ∷ label (codes "FEXITN")
    ∷ load rax rsp saved_cs
    ∷ alu_imm And rax 3
    ∷ jnz (codes "FXU")
    ∷ jmp (codes "FXK")
    ∷ []

-- the code under FRED, by its addresses
unfoldable pub fred_listings : List Listing
fred_listings =
    record { address = fred_page; lines = jmp (codes "FU") ∷ [] }
    ∷ record { address = fred_page + 0x100; lines = jmp (codes "FK") ∷ [] }
    ∷ record { address = fred_page + 0x200; lines = entries ++ exits }
    ∷ record { address = no_body; lines = none }
    ∷ []
