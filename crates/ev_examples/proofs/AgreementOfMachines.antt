-- On made scripts the settled concrete machine shows the state of the abstract one: of each processor the running task, or the place and locals of its last
-- body, slots, the reschedule mark, pending vectors and mail, call records and the queue of calls; and the cells and pages.
use Rattle.std.specs.Prelude.{◌≡◌, refl, ℕ, pos, negsuc, zero, suc, List, [], ◌∷◌, ◌+◌, ◌*◌, Bool, true, false, not, ◌&&◌, ◌||◌, nat_lt, nat_le, ◌==◌, Option, Some, None, map, flat_map, reverse, slice_get}
use Rattle.std.specs.Bool.{beq}
use Rattle.std.specs.List.{list_all}
use Rattle.ev_isa.specs.Flags.{flags_word}
use Rattle.ev_isa.specs.Pages.{page_base}
use Rattle.ev_isa.specs.Spelling.{spelling}
use Rattle.ev_isa.specs.Word.{NatMap, bit_if, numbers_from}
use Rattle.ev_isa.specs.declared.instruction.AluOp.{AluOp}
use Rattle.ev_isa.specs.declared.instruction.Cond.{Cond}
use Rattle.ev_isa.specs.declared.instruction.Ins.{Ins}
use Rattle.ev_isa.specs.declared.instruction.Ins.TheVariants.{Int3, IntN, Jmp, MovImm, Store, Syscall, Xadd}
use Rattle.ev_isa.specs.declared.mode.Mode.{Mode}
use Rattle.ev_isa.specs.declared.mode.Mode.TheVariants.{Fred, Idt}
use Rattle.ev_body.specs.Bodies.{fill}
use Rattle.ev_body.specs.KernelImage.{KernelImage}
use Rattle.ev_body.specs.WellFormed.{is_ret}
use Rattle.ev_body.specs.declared.body.Body.{Body}
use Rattle.ev_body.specs.declared.item.Item.{Item}
use Rattle.ev_body.specs.declared.key.Key.{Key}
use Rattle.ev_body.specs.declared.key.Side.TheVariants.{Both, Kernel, User}
use Rattle.ev_effect.specs.Task.{Task}
use Rattle.ev_mem.specs.Memory.{page_map}
use Rattle.ev_apic.specs.Apic.{requested}
use Rattle.ev_apic.specs.Vectors.{vectors_of}
use Rattle.ev_state.specs.Outcome.{below}
use Rattle.ev_state.specs.Processor.{is_user, register, task_of}
use Rattle.ev_state.specs.declared.cpu.Cpu.{Cpu}
use Rattle.ev_abstract.specs.Context.{BodyContext, CallId}
use Rattle.ev_abstract.specs.EntryText.{words}
use Rattle.ev_abstract.specs.Generator.{made_lines, made_script}
use Rattle.ev_abstract.specs.Machine.{CallRecord, CallState, Free, Machine, Processor, processor, task}
use Rattle.ev_abstract.specs.Rules.{rules}
use Rattle.ev_abstract.specs.Run.{item_at, run}
use Rattle.ev_abstract.specs.declared.script_line.Line.{Line}
use Rattle.ev_listing.specs.AddressMap.{cells_base, nbody_entry, pcpu, record_address, repeat_entry, slot_offset}
use Rattle.ev_listing.specs.Expansion.{item_address}
use Rattle.ev_concrete.specs.ConcreteRun.{System, settled_run}
use Rattle.ev_examples.proofs.ComputesAcceptance.{deciding}
use Rattle.ev_examples.proofs.ComputesConcrete.{stepping}
use Rattle.ev_examples.proofs.Documents.{body, start_at}

unfoldable pub same_numbers : List ℕ → List ℕ → Bool
same_numbers [] [] = true
same_numbers (x ∷ xs) (y ∷ ys) = (x == y) && same_numbers xs ys
same_numbers _ _ = false

-- ---- the parts that are compared

unfoldable pub same_task : Task → Task → Bool
unfolding same_numbers
same_task t u = same_numbers t.regs u.regs && (t.rip == u.rip) && (flags_word t.flags == flags_word u.flags) && (t.gs == u.gs)

unfoldable pub is_call_item : Item → Bool
is_call_item (Item.Call site to func s) = true
is_call_item _ = false

-- the next item of a context, and whether the item of the last context passes
unfoldable pub item_of : KernelImage → BodyContext → Option Item
item_of image c = item_at (slice_get image.bodies c.body) c.place

unfoldable pub item_passes : (Item → Bool) → Option Item → Bool
item_passes test None = false
item_passes test (Some item) = test item

unfoldable pub last_passes : (Item → Bool) → KernelImage → List BodyContext → Bool
unfolding item_of item_passes
last_passes test image [] = false
last_passes test image (c ∷ below) = item_passes test (item_of image c)

-- RIP lies in the code of the context's item
unfoldable pub place_seen : Mode → KernelImage → BodyContext → ℕ → Bool
place_seen mode image c rip = at (slice_get image.bodies c.body)
  where
    at : Option Body → Bool
    at None = false
    at (Some b) = nat_le (item_address mode c.body b c.place) rip && nat_lt rip (item_address mode c.body b (suc c.place))

-- The running task, or the last body, but where `ret` is next: the code of the exit has begun. A processor without bodies that is at CPL 0 is about to
-- deliver a held NMI.
unfoldable pub contexts_seen : Mode → KernelImage → Processor → Cpu → List BodyContext → Bool
unfolding same_task place_seen last_passes same_numbers
contexts_seen mode image x c [] = (is_user c && same_task (task x) (task_of c)) || (not (is_user c) && nat_le repeat_entry c.rip && nat_lt c.rip nbody_entry)
contexts_seen mode image x c (b ∷ below) =
    last_passes is_ret image (b ∷ below) || (same_numbers b.locals (map (register c) (numbers_from 6 8)) && place_seen mode image b c.rip)

-- the queue in memory from a record on: the callers and sites, the last call first
unfoldable pub calls_from : ℕ → NatMap ℕ → ℕ → List (ℕ × ℕ)
calls_from zero words a = []
calls_from (suc n) words a = elim (a == 0) [ true ↦ [] | false ↦ (words (a + 0x20), words (a + 0x30)) ∷ calls_from n words (words (a + 0x18)) ]

unfoldable pub same_calls : List CallId → List (ℕ × ℕ) → Bool
same_calls [] [] = true
same_calls (k ∷ ks) (e ∷ es) = (k.from == e.0) && (k.site == e.1) && same_calls ks es
same_calls _ _ = false

unfoldable pub is_free : CallState → Bool
is_free Free = true
is_free _ = false

unfoldable pub record_seen : Machine → System → ℕ → ℕ → Bool
unfolding is_free
record_seen m s p k = let r : CallRecord = (processor m p).records k in let a : ℕ = record_address p k in
    beq (is_free r.state) (s.memory.words a == 0) && (r.number == s.memory.words (a + 0x28))

-- The mark isn't compared where `ret` is next, and the records aren't where `call` is, which has written its own.
unfoldable pub processor_seen : Mode → KernelImage → Machine → System → ℕ → Bool
unfolding contexts_seen is_call_item last_passes record_seen same_calls calls_from
processor_seen mode image m s p =
    let x : Processor = processor m p in let c : Cpu = s.cpus p in
    contexts_seen mode image x c x.bodies
    && list_all (λ k. x.slots k == s.memory.words (pcpu p + slot_offset k)) (numbers_from 0 4)
    && (last_passes is_ret image x.bodies || (bit_if 0 x.resched == s.memory.words (pcpu p + 0x20)))
    && list_all (λ v. beq (x.pending v) (requested (s.apics p) v) && beq (x.mail v) (vectors_of (s.inboxes p).vectors v))
    (0x31 ∷ 0x32 ∷ 0x41 ∷ 0xfb ∷ 0xfd ∷ [])
    && beq x.mail_nmi (s.inboxes p).nmi
    && (last_passes is_call_item image x.bodies || list_all (record_seen m s p) (numbers_from 0 2))
    && same_calls (reverse x.queue) (calls_from 20 s.memory.words (s.memory.words (pcpu p + 0x30)))

unfoldable pub shared_seen : Machine → System → Bool
shared_seen m s =
    list_all (λ k. m.cells k == s.memory.words (cells_base + 8 * k)) (numbers_from 0 4)
    && list_all (λ i. bit_if 0 (m.present i) == s.memory.words (page_map + 8 * i)) (numbers_from 0 8)
    && list_all (λ i. m.words (page_base + 0x1000 * i) == s.memory.words (page_base + 0x1000 * i)) (numbers_from 0 8)

unfoldable pub agrees : Mode → KernelImage → List Line → Bool
unfolding processor_seen shared_seen
agrees mode image script = let m : Machine = run image script in let s : System = (settled_run mode image script).0 in
    list_all (processor_seen mode image m s) (numbers_from 0 image.processors) && shared_seen m s

-- ---- an image with most kinds of items

unfoldable pub varied : KernelImage
varied = record {
  processors = 2;
  nest = 12;
  pages = 0 ∷ [];
  cells = (1, 5) ∷ [];
  text = flat_map spelling (
      MovImm 3 0x10000000 ∷ Syscall ∷ Store 3 (pos 0) 1 ∷ Ins.Alu AluOp.Add 0 3 ∷ Int3 ∷ MovImm 6 0x10001000 ∷ Xadd 6 (pos 0) 3
      ∷ IntN 0x80 ∷ Syscall ∷ Jmp (negsuc 64) ∷ []);
  tasks = (start_at 0x400000 0 ∷ start_at 0x400000 0x10000000 ∷ []) ∷ (start_at 0x40000a 0x10000000 ∷ []) ∷ [];
  bodies = fill (
      body Key.Sys User (Item.Cpu 12 ∷ Item.Set 13 0 ∷ Item.Alu AluOp.Cmp 12 13 ∷ Item.Jcc Cond.Nz 7 ∷ Item.Call 0 1 0 12 ∷ Item.Kick 1 12 ∷ Item.Goto 9
      ∷ Item.Call 0 0 0 12 ∷ Item.Kick 0 12 ∷ Item.AddCell 1 9 ∷ Item.Put 1 9 ∷ Item.Sti ∷ Item.Bp ∷ Item.Wait 0 ∷ Item.Cli ∷ Item.Ret ∷ [])
      ∷ record {
        key = Key.Irq 0xfb;
        side = Both;
        items = Item.Take ∷ Item.Eoi ∷ Item.Ret ∷ [];
        parts =
            record { func = 0; items = Item.Log 9 ∷ Item.SetCell 2 9 ∷ Item.Finish ∷ [] } ∷ [];
      }
      ∷ body (Key.Irq 0xfd) Both (Item.Resched ∷ Item.Eoi ∷ Item.Ret ∷ [])
      ∷ body (Key.Irq 0x31) Both (Item.Sti ∷ Item.Nop ∷ Item.Send 1 (Key.Irq 0xfd) ∷ Item.Cli ∷ Item.Eoi ∷ Item.Ret ∷ [])
      ∷ body (Key.Irq 0x41) Both (Item.Set 9 0x10003000 ∷ Item.Uput 9 7 ∷ Item.Unmap 9 ∷ Item.Send 0 Key.Nmi ∷ Item.Eoi ∷ Item.Ret ∷ [])
      ∷ body Key.Nmi Both (Item.Set 9 0x10002000 ∷ Item.Uget 10 9 ∷ Item.Bp ∷ Item.AddCell 3 9 ∷ Item.Unmap 9 ∷ Item.Ret ∷ [])
      ∷ body Key.Bp Kernel (Item.Set 9 1 ∷ Item.SwapCell 0 9 ∷ Item.Ret ∷ [])
      ∷ body Key.Pf Kernel (Item.Map 8 ∷ Item.Ret ∷ [])
      ∷ body Key.Pf User (Item.GetReg 9 3 ∷ Item.SetReg 2 9 ∷ Item.Map 8 ∷ Item.Ret ∷ [])
      ∷ body Key.Gp User (Item.Slot 9 1 ∷ Item.Log 9 ∷ Item.SetRip 0x40001a ∷ Item.Ret ∷ []) ∷ []);
}

varied_kept : rules varied ≡ None
unfolding deciding varied
varied_kept = refl

unfoldable pub comparing : Unit {0}
unfolding stepping same_numbers same_task is_ret is_call_item item_of item_passes last_passes place_seen contexts_seen calls_from same_calls is_free
    record_seen processor_seen shared_seen agrees varied made_lines
comparing = tt

idt_agrees : agrees Idt varied (made_script varied 1 20) ≡ true
unfolding comparing
idt_agrees = refl

fred_agrees : agrees Fred varied (made_script varied 1 20) ≡ true
unfolding comparing
fred_agrees = refl
