-- Short words for the statements of kernel code.
use Rattle.std.specs.Prelude.{ℕ, ℤ, pos, negsuc, ◌-◌, List, [], ◌∷◌, map, reverse, Some, None}
use Rattle.ev_isa.specs.declared.instruction.AluOp.{AluOp}
use Rattle.ev_isa.specs.declared.instruction.Ins.{Ins}
use Rattle.ev_isa.specs.declared.instruction.Ins.TheVariants.{MovImm, MovReg, Load, Store, GsLoad, GsStore, AluImm, Shl, Push, Pop, JmpReg}
use Rattle.ev_isa.specs.declared.instruction.AluOp.TheVariants.{Add}
use Rattle.ev_isa.specs.declared.instruction.Cond.TheVariants.{Z, Nz, C}
use Rattle.ev_asm.specs.declared.statement.Stmt.TheVariants.{Label, Plain, Jump}
use Rattle.ev_asm.specs.Assembly.{Name}
use Rattle.ev_listing.specs.Marks.{Marked, Never, Always}

-- Registers by their numbers (Intel SDM volume 2, table 3-1).
abbrev pub rax : ℕ
rax = 0

-- the second register
abbrev pub rcx : ℕ
rcx = 1

-- the third register
abbrev pub rdx : ℕ
rdx = 2

-- the fourth register
abbrev pub rbx : ℕ
rbx = 3

-- the stack pointer
abbrev pub rsp : ℕ
rsp = 4

-- the seventh register
abbrev pub rsi : ℕ
rsi = 6

-- the eighth register
abbrev pub rdi : ℕ
rdi = 7

-- an instruction that the abstract machine doesn't see
abbrev pub op : Ins → Marked
op i = record { mark = Never; stmt = Plain i }

-- an instruction with which the abstract machine makes a step
abbrev pub seen : Ins → Marked
seen i = record { mark = Always; stmt = Plain i }

-- a label, which takes no bytes
abbrev pub label : Name → Marked
label name = record { mark = Never; stmt = Label name }

-- minus n
abbrev pub less : ℕ → ℤ
less n = negsuc (n - 1)

-- d becomes the number n
abbrev pub mov : ℕ → ℕ → Marked
mov d n = op (MovImm d n)

-- d becomes s
abbrev pub move : ℕ → ℕ → Marked
move d s = op (MovReg d s)

-- d becomes the word at b + n
abbrev pub load : ℕ → ℕ → ℕ → Marked
load d b n = op (Load d b (pos n))

-- the word at b + n becomes s
abbrev pub store : ℕ → ℕ → ℕ → Marked
store b n s = op (Store b (pos n) s)

-- d becomes word n of the area at the GS base
abbrev pub gs_load : ℕ → ℕ → Marked
gs_load d n = op (GsLoad d (pos n))

-- that word becomes s
abbrev pub gs_store : ℕ → ℕ → Marked
gs_store n s = op (GsStore (pos n) s)

-- an arithmetic instruction on d and the number n
abbrev pub alu_imm : AluOp → ℕ → ℕ → Marked
alu_imm o d n = op (AluImm o d (pos n))

-- to the label
abbrev pub jmp : Name → Marked
jmp name = record { mark = Never; stmt = Jump None name }

-- to the label where ZF is set
abbrev pub jz : Name → Marked
jz name = record { mark = Never; stmt = Jump (Some Z) name }

-- to the label where ZF is clear
abbrev pub jnz : Name → Marked
jnz name = record { mark = Never; stmt = Jump (Some Nz) name }

-- to the label where CF is set
abbrev pub jc : Name → Marked
jc name = record { mark = Never; stmt = Jump (Some C) name }

-- the registers of the saved area, from its top down: all but RSP
abbrev pub saved_registers : List ℕ
saved_registers = 0 ∷ 1 ∷ 2 ∷ 3 ∷ 5 ∷ 6 ∷ 7 ∷ 8 ∷ 9 ∷ 10 ∷ 11 ∷ 12 ∷ 13 ∷ 14 ∷ 15 ∷ []

-- all of them pushed, as Linux's PUSH_REGS does
abbrev pub push_all : List Marked
push_all = map (λ r. op (Push r)) saved_registers

-- all of them popped, as Linux's POP_REGS does
abbrev pub pop_all : List Marked
pop_all = map (λ r. op (Pop r)) (reverse saved_registers)

-- registers get 0
abbrev pub zeros : List ℕ → List Marked
zeros rs = map (λ r. mov r 0) rs

-- to the body whose table is at rcx, by the key in rdi
abbrev pub go : List Marked
go = move rax rdi ∷ op (Shl rax 3) ∷ op (Ins.Alu Add rax rcx) ∷ load rax rax 0 ∷ op (JmpReg rax) ∷ []
