-- The machine code of items and bodies. Own.
use Rattle.std.specs.Prelude.{ℕ, suc, pos, ◌+◌, ◌-◌, ◌*◌, ◌==◌, if◌then◌else◌, List, [], ◌∷◌, ◌++◌, take, Option, Some, None, slice_get, codes, decimal}
use Rattle.ev_isa.specs.declared.instruction.Ins.{Ins}
use Rattle.ev_isa.specs.declared.instruction.Ins.TheVariants.{MovImm, MovReg, Load, Store, StoreImm, GsLoad, GsStore, Xchg, CmpXchg, Xadd, JmpReg, Shl, Shr, Wrmsr}
use Rattle.ev_isa.specs.declared.instruction.AluOp.TheVariants.{Add, And, Sub, Cmp}
use Rattle.ev_body.specs.declared.key.Key.{Key}
use Rattle.ev_body.specs.declared.key.Key.TheVariants.{Nmi, Bp}
use Rattle.ev_body.specs.declared.item.Item.{Item}
use Rattle.ev_body.specs.declared.body.Body.{Body}
use Rattle.ev_body.specs.declared.image.Image.{Image}
use Rattle.ev_body.specs.Bodies.{key_number, body_items, first_body, function_start}
use Rattle.ev_body.specs.declared.key.Side.TheVariants.{User}
use Rattle.ev_body.specs.declared.item.Item.TheVariants.{Set, Copy, Alu, Jcc, Goto, Nop, Log, Cpu, Slot, Put, Cell, SetCell, AddCell, SwapCell, Uget, Uput, GetReg, SetReg, SetRip, Map, Unmap, Resched, Sti, Cli, Eoi, Send, Call, Kick, Wait, Take, Finish, Ret}
use Rattle.ev_mem.specs.Memory.{page_map}
use Rattle.ev_listing.specs.AddressMap.{pcpu, mark_offset, port_offset, head_offset, records_offset, slot_offset, cells_base, saved_rip, body_code}
use Rattle.ev_listing.specs.Statements.{label, rax, rcx, rdx, rbx, rsp, op, seen, less, mov, move, load, store, gs_load, alu_imm, jmp, jz, jnz, jc}
use Rattle.ev_asm.specs.declared.statement.Stmt.TheVariants.{Plain, Jump}
use Rattle.ev_asm.specs.Assembly.{Name, total_size}
use Rattle.ev_listing.specs.Marks.{Never, Always, IfNonzero, IfEqual, Marked, Listing, stmts_of}
use Rattle.ev_isa.specs.declared.mode.Mode.{Mode}
use Rattle.ev_isa.specs.declared.mode.Mode.TheVariants.{Idt, Fred}

-- the offset of a register in the saved area
unfoldable pub saved_offset : ℕ → ℕ
saved_offset r =
    if r == 0 then 0x70 else (if r == 1 then 0x68 else (if r == 2 then 0x60 else (if r == 3 then 0x58 else (if r == 4 then 0xa0
    else (if r == 5 then 0x50 else (if r == 6 then 0x48 else (if r == 7 then 0x40 else 8 * (15 - r))))))))

-- the label of item n of body b
abbrev pub item_label : ℕ → ℕ → Name
item_label b n = codes "b" ++ decimal b ++ codes "i" ++ decimal n

-- a label of the item's own
abbrev pub own_label : ℕ → ℕ → Name → Name
own_label b n name = item_label b n ++ name

-- the label behind the exchange of the `take` of body b
abbrev pub taken_label : ℕ → Name
taken_label b = codes "b" ++ decimal b ++ codes "T2"

-- the exit that a body's `ret` goes to
abbrev pub exit_of : Mode → Key → Name
exit_of Idt Nmi = codes "EXITN"
exit_of Idt _ = codes "EXIT"
exit_of Fred Nmi = codes "FEXITN"
exit_of Fred _ = codes "FEXIT"

-- the low word of the interrupt command that sends a key
abbrev pub command : Key → ℕ
command Nmi = 0x4400
command key = 0x4000 + key_number key

-- rax becomes the address of cell k
abbrev pub cell_address : ℕ → Marked
cell_address k = mov rax (cells_base + 8 * k)

-- rax becomes the address of a user word: that of s, with the bits of the upper half and of the byte in the word cleared
abbrev pub user_word : ℕ → List Marked
user_word s = move rax s ∷ mov rcx 0x7ffffffffff8 ∷ op (Ins.Alu And rax rcx) ∷ []

-- rax becomes the address of the page map's word of the data page of address s, or of its last word, which is never asked, where s is in no data page
abbrev pub page_word : Name → ℕ → List Marked
page_word m1 s =
    move rax s ∷ mov rcx 0x10000000 ∷ op (Ins.Alu Sub rax rcx) ∷ op (Shr rax 12) ∷ alu_imm Cmp rax 256 ∷ jc m1 ∷ mov rax 256
    ∷ label m1 ∷ op (Shl rax 3) ∷ mov rcx page_map ∷ op (Ins.Alu Add rax rcx) ∷ []

-- the record of a site of this processor, at rbx
abbrev pub record_at : ℕ → List Marked
record_at k = gs_load rbx records_offset ∷ alu_imm Add rbx (0x40 * k) ∷ []

-- Item n of body b, where the key of the body is `key` and the functions are at these addresses.
unfoldable pub expansion : Mode → ℕ → Key → (ℕ → ℕ) → ℕ → Item → List Marked
expansion mode b key function n (Set d v) = seen (MovImm d v) ∷ []
expansion mode b key function n (Copy d s) = seen (MovReg d s) ∷ []
expansion mode b key function n (Alu o d s) = seen (Ins.Alu o d s) ∷ []
expansion mode b key function n (Jcc c i) = record { mark = Always; stmt = Jump (Some c) (item_label b i) } ∷ []
expansion mode b key function n (Goto i) = record { mark = Always; stmt = Jump None (item_label b i) } ∷ []
expansion mode b key function n Nop = seen Ins.Nop ∷ []
expansion mode b key function n (Log s) = seen (GsStore (pos port_offset) s) ∷ []
expansion mode b key function n (Cpu d) = seen (GsLoad d (pos 0)) ∷ []
expansion mode b key function n (Slot d k) = seen (GsLoad d (pos (slot_offset k))) ∷ []
expansion mode b key function n (Put k s) = seen (GsStore (pos (slot_offset k)) s) ∷ []
expansion mode b key function n (Cell d k) = cell_address k ∷ seen (Load d rax (pos 0)) ∷ []
expansion mode b key function n (SetCell k s) = cell_address k ∷ seen (Store rax (pos 0) s) ∷ []
expansion mode b key function n (AddCell k d) = cell_address k ∷ seen (Xadd rax (pos 0) d) ∷ []
expansion mode b key function n (SwapCell k d) = cell_address k ∷ seen (Xchg rax (pos 0) d) ∷ []
expansion mode b key function n (Uget d s) = user_word s ++ seen (Load d rax (pos 0)) ∷ []
expansion mode b key function n (Uput s t) = user_word s ++ seen (Store rax (pos 0) t) ∷ []
expansion mode b key function n (GetReg d r) = seen (Load d rsp (pos (saved_offset r))) ∷ []
expansion mode b key function n (SetReg r s) = seen (Store rsp (pos (saved_offset r)) s) ∷ []
expansion mode b key function n (SetRip a) = mov rax a ∷ seen (Store rsp (pos saved_rip) rax) ∷ []
expansion mode b key function n (Map s) = page_word (own_label b n (codes "M1")) s ++ seen (StoreImm rax (pos 0) (pos 1)) ∷ []
expansion mode b key function n (Unmap s) = page_word (own_label b n (codes "M1")) s ++ seen (StoreImm rax (pos 0) (pos 0)) ∷ []
expansion mode b key function n Resched = mov rax 1 ∷ seen (GsStore (pos mark_offset) rax) ∷ []
expansion mode b key function n Sti = seen Ins.Sti ∷ op Ins.Nop ∷ []
expansion mode b key function n Cli = seen Ins.Cli ∷ []
expansion mode b key function n Eoi = mov rcx 0x80b ∷ mov rax 0 ∷ mov rdx 0 ∷ seen Wrmsr ∷ []
expansion mode b key function n (Send to k) = mov rcx 0x830 ∷ mov rax (command k) ∷ mov rdx to ∷ seen Wrmsr ∷ []
expansion mode b key function n Item.Bp = seen Ins.Int3 ∷ []
expansion mode b key function n (Kick to s) =
    alu_imm Cmp s 2 ∷ jnz (own_label b n (codes "K1")) ∷ mov rcx 0x830 ∷ mov rax 0x40fb ∷ mov rdx to ∷ seen Wrmsr ∷ jmp (own_label b n (codes "K2"))
    ∷ label (own_label b n (codes "K1")) ∷ seen Ins.Nop ∷ label (own_label b n (codes "K2")) ∷ []
expansion mode b key function n (Wait site) =
    label (own_label b n (codes "W0")) ∷ record_at site ++ seen (Load rax rbx (pos 0)) ∷ alu_imm Cmp rax 0 ∷ jnz (own_label b n (codes "W0")) ∷ []
expansion mode b key function n (Call site to func s) =
    record_at site ++ record { mark = IfNonzero; stmt = Plain (Load rax rbx (pos 0)) } ∷ alu_imm Cmp rax 0 ∷ jz (own_label b n (codes "L1")) ∷ mov s 0 ∷ jmp
    (own_label b n (codes "L3"))
    ∷ label (own_label b n (codes "L1")) ∷ mov rax (function func) ∷ store rbx 8 rax ∷ mov rax func ∷ store rbx 0x38 rax ∷ store rbx 0x10 s
    ∷ load rax rbx 0x28 ∷ alu_imm Add rax 1 ∷ store rbx 0x28 rax ∷ mov rax 1 ∷ store rbx 0 rax ∷ mov rdx (pcpu to + head_offset)
    ∷ label (own_label b n (codes "L2")) ∷ load rax rdx 0 ∷ store rbx 0x18 rax ∷ record { mark = IfEqual; stmt = Plain (CmpXchg rdx (pos 0) rbx) } ∷ jnz
    (own_label b n (codes "L2"))
    ∷ mov s 2 ∷ alu_imm Cmp rax 0 ∷ jz (own_label b n (codes "L3")) ∷ mov s 1 ∷ label (own_label b n (codes "L3")) ∷ []
expansion mode b key function n Take =
    gs_load rdx records_offset ∷ mov rax 0 ∷ seen (Xchg rdx (less 0x7d0) rax) ∷ mov 14 0
    ∷ label (own_label b n (codes "T1")) ∷ alu_imm Cmp rax 0 ∷ jz (taken_label b) ∷ load rcx rax 0x18 ∷ store rax 0x18 14 ∷ move 14 rax ∷ move rax rcx
    ∷ jmp (own_label b n (codes "T1"))
    ∷ label (taken_label b) ∷ alu_imm Cmp 14 0 ∷ jz (own_label b n (codes "T3")) ∷ load 9 14 0x10 ∷ load 10 14 0x20 ∷ load rax 14 8 ∷ op (JmpReg rax)
    ∷ label (own_label b n (codes "T3")) ∷ []
expansion mode b key function n Finish = move rbx 14 ∷ load 14 rbx 0x18 ∷ mov rax 0 ∷ seen (Store rbx (pos 0) rax) ∷ jmp (taken_label b) ∷ []
expansion mode b key function n Ret = jmp (exit_of mode key) ∷ []

-- items from number n on, each behind its label
abbrev pub expansions : Mode → ℕ → Key → (ℕ → ℕ) → ℕ → List Item → List Marked
expansions mode b key function n [] = []
expansions mode b key function n (item ∷ items) = label (item_label b n) ∷ expansion mode b key function n item ++ expansions mode b key function (suc n) items

-- where an item of a body begins; sizes don't depend on addresses
abbrev pub item_address : Mode → ℕ → Body → ℕ → ℕ
item_address mode n b i = body_code n + total_size (stmts_of (expansions mode n b.key (λ f. 0) 0 (take i (body_items b))))

-- the address of a function in body n
abbrev pub address_in : Mode → Image → Option ℕ → ℕ → ℕ
address_in mode image None f = 0
address_in mode image (Some n) f = of (slice_get image.bodies n)
  where
    of : Option Body → ℕ
    of None = 0
    of (Some b) = item_address mode n b (function_start b f)

-- the address of a function: that of its first item in the body of irqfb
abbrev pub function_address : Mode → Image → ℕ → ℕ
function_address mode image f = address_in mode image (first_body 0 image.bodies 0xfb User) f

-- the code of body n
unfoldable pub body_stmts : Mode → Image → ℕ → Body → List Marked
body_stmts mode image n b = expansions mode n b.key (function_address mode image) 0 (body_items b)
