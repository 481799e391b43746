-- The meaning of each item. Own: items have meanings here, and machine code in the product.
use Rattle.std.specs.Prelude.{ℕ, ◌+◌, Bool, true, false, if◌then◌else◌, ◌==◌, List, [], ◌∷◌, Option, Some, None, bit_and}
use Rattle.ev_isa.specs.Word.{put_at, wrap}
use Rattle.ev_isa.specs.declared.instruction.Cond.{Cond}
use Rattle.ev_isa.specs.Flags.{Status, alu, holds}
use Rattle.ev_event.specs.declared.event.Event.{Event}
use Rattle.ev_event.specs.declared.event.EventType.TheVariants.{Int3}
use Rattle.ev_event.specs.Event.{pf, software}
use Rattle.ev_isa.specs.Pages.{Place, Page, Access, fault_at, place_of}
use Rattle.ev_body.specs.declared.key.Key.{Key}
use Rattle.ev_body.specs.declared.key.Key.TheVariants.{Nmi}
use Rattle.ev_body.specs.declared.item.Item.{Item}
use Rattle.ev_body.specs.declared.image.Image.{Image}
use Rattle.ev_body.specs.Bodies.{key_number}
use Rattle.ev_body.specs.declared.item.Item.TheVariants.{Set, Copy, Alu, Jcc, Goto, Nop, Log, Cpu, Slot, Put, Cell, SetCell, AddCell, SwapCell, Uget, Uput, GetReg, SetReg, SetRip, Map, Unmap, Resched, Sti, Cli, Eoi, Send, Call, Kick, Wait, Take, Finish, Ret}
use Rattle.ev_effect.specs.Task.{Task, reg, with_reg}
use Rattle.ev_abstract.specs.Context.{CallId, BodyContext, local, with_local, onward, at_place}
use Rattle.ev_abstract.specs.declared.entry.Entry.{Entry}
use Rattle.ev_abstract.specs.Machine.{CallState, Free, CallRecord, Processor, Machine, processor, with_processor, task, with_task}
use Rattle.ev_abstract.specs.Delivery.{delivered, dropped}
use Rattle.ev_abstract.specs.CrossCall.{record_of, with_record, in_state, with_queue, queued, new_record, queue_answer, all_taken, at_first_call}

-- a step: the machine after it, and the entries that it adds to the trace
abbrev pub Step : Type 0
Step = Machine × List Entry

-- the processor with the last context anew
abbrev pub replace_last : BodyContext → List BodyContext → List BodyContext
replace_last c [] = c ∷ []
replace_last c (d ∷ below) = c ∷ below

-- the contexts below the last one
abbrev pub below_last : List BodyContext → List BodyContext
below_last [] = []
below_last (c ∷ below) = below

-- the machine in which the last context of p is c
abbrev pub with_context : Machine → ℕ → BodyContext → Machine
with_context m p c = with_processor m p (record (processor m p) { bodies = replace_last c (processor m p).bodies })

-- a step that adds no entry
abbrev pub silent : Machine → Step
silent m = (m, [])

-- the item is done: the context goes on to the next one
abbrev pub done : Machine → ℕ → BodyContext → Step
done m p c = silent (with_context m p (onward c))

-- the same, and the local d is v
abbrev pub gives : Machine → ℕ → BodyContext → ℕ → ℕ → Step
gives m p c d v = done m p (with_local c d v)

-- nothing is known of the flags of the context
abbrev pub unknown_flags : BodyContext → BodyContext
unknown_flags c = record c { flags = None }

-- what an arithmetic item leaves
abbrev pub arithmetic : BodyContext → ℕ → ℕ × Status → BodyContext
arithmetic c d r = record (with_local c d r.0) { flags = Some r.1 }

-- whether a jump is taken (where the flags are unknown it isn't; an accepted image has no such jump)
abbrev pub taken : Cond → Option Status → Bool
taken cond None = false
taken cond (Some f) = holds cond f

-- the machine in which the running task of p is t
abbrev pub with_task_at : Machine → ℕ → Task → Machine
with_task_at m p t = with_processor m p (with_task (processor m p) t)

-- the machine in which slot k of p holds v
abbrev pub with_slot : Machine → ℕ → ℕ → ℕ → Machine
with_slot m p k v = with_processor m p (record (processor m p) { slots = put_at (processor m p).slots k v })

-- the machine in which the shared cell k holds v
abbrev pub with_cell : Machine → ℕ → ℕ → Machine
with_cell m k v = record m { cells = put_at m.cells k v }

-- the user address of `uget` and `uput`: aligned, in the lower half
abbrev pub user_address : ℕ → ℕ
user_address s = bit_and s 0x7ffffffffff8

-- an access to data by the kernel
abbrev pub kernel_access : Bool → Access
kernel_access write = record { user = false; write = write; fetch = false }

-- the data page of an address is present or absent from now on; other addresses have none
abbrev pub with_page : Machine → Place → Bool → Machine
with_page m (Page i) b = record m { present = put_at m.present i b }
with_page m _ b = m

-- mail for a processor: a vector or NMI
abbrev pub mailed : Processor → Key → Processor
mailed x Nmi = record x { mail_nmi = true }
mailed x key = record x { mail = put_at x.mail (key_number key) true }

-- the machine in which that is mailed to p
abbrev pub with_mail : Machine → ℕ → Key → Machine
with_mail m p key = with_processor m p (mailed (processor m p) key)

-- an event of the body at p
abbrev pub raised : Image → Machine → ℕ → Event → Step
raised image m p e = let r : Processor × List Entry = delivered image p (processor m p) e in (with_processor m p r.0, r.1)

-- `uget` and `uput`: their effect, or a page fault, after which the item runs again
abbrev pub guarded : Image → Machine → ℕ → ℕ → Option ℕ → Step → Step
guarded image m p a None s = s
guarded image m p a (Some code) s = raised image m p (pf code a)

-- the error code of the page fault of such an access, if it has one
abbrev pub kernel_fault : Machine → Bool → ℕ → Option ℕ
kernel_fault m write a = fault_at m.present (kernel_access write) (place_of a)

-- `call` by the state of its record
abbrev pub called : Machine → ℕ → BodyContext → CallId → CallState → ℕ → ℕ → ℕ → Step
called m p c k Free to func s =
    let r : CallRecord = new_record (record_of m k) to func (local c s) in
    let answer : ℕ = queue_answer (processor m to).queue in
    (with_context (queued m k r) p (onward (with_local (unknown_flags c) s answer)), Entry.Call p k.site r.number to func r.arg ∷ [])
called m p c k _ to func s = (with_context m p (onward (with_local (unknown_flags c) s 0)), Entry.Busy p k.site ∷ [])

-- `wait` by the state of its record: it stays until the call is done
abbrev pub waited : Machine → ℕ → BodyContext → CallId → CallState → Step
waited m p c k Free = (with_context m p (onward (unknown_flags c)), Entry.Done p k.site (record_of m k).number ∷ [])
waited m p c k _ = silent (with_context m p (unknown_flags c))

-- `finish` of the calls of the context
abbrev pub finished : Image → Machine → ℕ → BodyContext → List CallId → Step
finished image m p c [] = silent m
finished image m p c (k ∷ ks) =
    let m' : Machine = with_record m k (in_state (record_of m k) Free) in
    (with_context m' p (at_first_call image m' (unknown_flags c) ks), Entry.Ran p k.from k.site (record_of m k).number ∷ [])

-- one item of the last context c of p
unfoldable pub item_step : Image → Machine → ℕ → BodyContext → Item → Step
item_step image m p c (Set d n) = gives m p c d n
item_step image m p c (Copy d s) = gives m p c d (local c s)
item_step image m p c (Alu op d s) = done m p (arithmetic c d (alu op (local c d) (local c s)))
item_step image m p c (Jcc cond item) = silent (with_context m p (if taken cond c.flags then at_place c item else onward c))
item_step image m p c (Goto item) = silent (with_context m p (at_place c item))
item_step image m p c Nop = done m p c
item_step image m p c (Log s) = (with_context m p (onward c), Entry.Log p (local c s) ∷ [])
item_step image m p c (Cpu d) = gives m p c d p
item_step image m p c (Slot d k) = gives m p c d ((processor m p).slots k)
item_step image m p c (Put k s) = done (with_slot m p k (local c s)) p c
item_step image m p c (Cell d k) = gives m p c d (m.cells k)
item_step image m p c (SetCell k s) = done (with_cell m k (local c s)) p c
item_step image m p c (AddCell k d) = gives (with_cell m k (wrap (m.cells k + local c d))) p (unknown_flags c) d (m.cells k)
item_step image m p c (SwapCell k d) = gives (with_cell m k (local c d)) p c d (m.cells k)
item_step image m p c (Uget d s) = let a : ℕ = user_address (local c s) in
    guarded image m p a (kernel_fault m false a) (gives m p (unknown_flags c) d (m.words a))
item_step image m p c (Uput s t) = let a : ℕ = user_address (local c s) in
    guarded image m p a (kernel_fault m true a) (done (record m { words = put_at m.words a (local c t) }) p (unknown_flags c))
item_step image m p c (GetReg d r) = gives m p c d (reg (task (processor m p)) r)
item_step image m p c (SetReg r s) = done (with_task_at m p (with_reg (task (processor m p)) r (local c s))) p c
item_step image m p c (SetRip a) = done (with_task_at m p (record (task (processor m p)) { rip = a })) p c
item_step image m p c (Map s) = done (with_page m (place_of (local c s)) true) p (unknown_flags c)
item_step image m p c (Unmap s) = done (with_page m (place_of (local c s)) false) p (unknown_flags c)
item_step image m p c Resched = done (with_processor m p (record (processor m p) { resched = true })) p c
item_step image m p c Sti = done m p (record c { interrupts = true })
item_step image m p c Cli = done m p (record c { interrupts = false })
item_step image m p c Eoi = done m p (record c { service = None })
item_step image m p c (Send to key) = done (with_mail m to key) p c
item_step image m p c Item.Bp = raised image (with_context m p (onward c)) p (software Int3 3 1)
item_step image m p c (Call site to func s) = let k : CallId = record { from = p; site = site } in called m p c k (record_of m k).state to func s
item_step image m p c (Kick to s) = done (if local c s == 2 then with_mail m to (Key.Irq 0xfb) else m) p (unknown_flags c)
item_step image m p c (Wait site) = let k : CallId = record { from = p; site = site } in waited m p c k (record_of m k).state
item_step image m p c Take = let queue : List CallId = (processor m p).queue in
    let m' : Machine = with_queue (all_taken m queue) p [] in silent (with_context m' p (at_first_call image m' (unknown_flags c) queue))
item_step image m p c Finish = finished image m p c c.calls
item_step image m p c Ret = silent (with_processor m p (dropped image c (processor m p) (below_last (processor m p).bodies)))
