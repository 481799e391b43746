-- The entry that a visible step shows, told from the concrete machine alone: from the delivery, or from the instruction and its mark, and from registers,
-- words and bodies. Own.
use Rattle.std.specs.Prelude.{ℕ, suc, ◌+◌, ◌-◌, ◌*◌, ◌/◌, ◌%◌, ◌^◌, Bool, true, false, not, ◌&&◌, ◌||◌, ◌==◌, if◌then◌else◌, List, [], ◌∷◌, Option, Some, None}
use Rattle.ev_isa.specs.Word.{NatMap, wrap, sign_extend}
use Rattle.ev_isa.specs.declared.instruction.Ins.{Ins}
use Rattle.ev_isa.specs.declared.instruction.Ins.TheVariants.{GsStore, Load, Store, Jmp}
use Rattle.ev_event.specs.declared.event.EventType.{EventType}
use Rattle.ev_event.specs.declared.event.EventType.TheVariants.{External, SoftInt, Other}
use Rattle.ev_event.specs.declared.event.Event.{Event}
use Rattle.ev_event.specs.Event.{gp, nmi_event, has_error_code, is_hardware}
use Rattle.ev_body.specs.declared.key.Key.{Key}
use Rattle.ev_body.specs.declared.key.Key.TheVariants.{Sys, Db, Nmi, Bp, Ud, Ss, Gp, Pf, Ac, Irq}
use Rattle.ev_body.specs.declared.key.Side.TheVariants.{User, Kernel}
use Rattle.ev_state.specs.Processor.{Processor, is_user, register}
use Rattle.ev_abstract.specs.declared.entry.Entry.{Entry}
use Rattle.ev_abstract.specs.declared.entry.Entry.TheVariants.{Enter, Log, Call, Busy, Ran, Done}
use Rattle.ev_listing.specs.AddressMap.{pcpu, stack_top}
use Rattle.ev_listing.specs.Marks.{Mark, Never, Always, IfNonzero, IfEqual}
use Rattle.ev_proc.specs.ProcessorStep.{After, has_fred, step, instruction_at}
use Rattle.ev_proc.specs.declared.stepped.Stepped.{Stepped}
use Rattle.ev_concrete.specs.ConcreteRun.{System, Marks, mark_at}
use Rattle.ev_concrete.specs.Depth.{is_in_repeat, bodies_on}

-- the key of an exception's vector (SDM volume 3, table 6-1); every other vector is an interrupt's
abbrev pub key_of_vector : ℕ → Key
key_of_vector v =
    if v == 1 then Db else (if v == 2 then Nmi else (if v == 3 then Bp else (if v == 6 then Ud else (if v == 12 then Ss
    else (if v == 13 then Gp else (if v == 14 then Pf else (if v == 17 then Ac else Irq v)))))))

-- the key of the body that an event runs
unfoldable pub key_of : EventType → ℕ → Key
key_of Other v = Sys
key_of External v = Irq v
key_of _ v = key_of_vector v

-- ---- a delivery, told from the processor and the words after it

-- The RIP that it saved: in the frame's second word where an error code is the first, as always under FRED, else in its first word, or in RCX.
abbrev pub saved_rip : Bool → Processor → NatMap ℕ → Event → Option ℕ → ℕ
saved_rip fred c words e None = register c 1
saved_rip fred c words e (Some a) = words (if fred || (is_hardware e.kind && has_error_code e.vector) then wrap (a + 8) else a)

-- Under FRED the kernel runs for INT n the body of the #GP that IDT raises at it, but for INT 3: with error code 8n + 2, and RIP at the instruction, which
-- has two bytes.
abbrev pub is_soft : EventType → Bool
is_soft SoftInt = true
is_soft _ = false

-- whether an event is such an INT n
abbrev pub is_refused : Bool → Event → Bool
is_refused fred e = is_soft e.kind && fred && not (e.vector == 3)

-- the event that an entry tells
abbrev pub told_event : Bool → Event → Event
told_event refused e = if refused then gp (8 * e.vector + 2) else e

-- the RIP that it tells
abbrev pub told_rip : Bool → ℕ → ℕ
told_rip refused rip = if refused then wrap (rip + (2 ^ 64 - 2)) else rip

-- it is shown of user code alone
abbrev pub shown_rip : Bool → ℕ → Option ℕ
shown_rip user rip = if user then Some rip else None

-- the entry of an event at p
abbrev pub shown_event : ℕ → ℕ → Bool → Event → ℕ → Entry
shown_event p depth user e rip = Enter p (key_of e.kind e.vector) e.kind (if user then User else Kernel) depth e.error e.info (shown_rip user rip)

-- the entry of a delivery, which wrote a frame at this address
abbrev pub shown_delivery : ℕ → ℕ → Bool → Bool → Processor → NatMap ℕ → Event → Option ℕ → Entry
shown_delivery p depth user fred c words e frame =
    shown_event p (suc depth) user (told_event (is_refused fred e) e) (told_rip (is_refused fred e) (saved_rip fred c words e frame))

-- ---- an instruction of the kernel, told from the processor and the words before it

-- a word of the call record that rbx names: 10H the argument, 20H the caller, 28H the number, 30H the site, 38H the function
abbrev pub record_word : Processor → NatMap ℕ → ℕ → ℕ
record_word c words o = words (wrap (register c 3 + o))

-- the site of that record
abbrev pub record_site : Processor → NatMap ℕ → ℕ
record_site c words = record_word c words 0x30 % 2 ^ 8

-- the processor whose queue rdx names: its head is word 30H of the area
abbrev pub queue_owner : Processor → ℕ
queue_owner c = wrap (register c 2 + (2 ^ 64 - (pcpu 0 + 0x30))) / 0x10000 % 2 ^ 32

-- the entry of a call that was put into a queue
abbrev pub shown_call : ℕ → Processor → NatMap ℕ → Entry
shown_call p c words =
    Call p (record_site c words) (record_word c words 0x28) (queue_owner c) (record_word c words 0x38 % 2 ^ 32) (record_word c words 0x10)

-- `wait` has read its record's first word, which is 0 where the call is done
abbrev pub shown_wait : ℕ → Processor → NatMap ℕ → List Entry
shown_wait p c words = if record_word c words 0 == 0 then Done p (record_site c words) (record_word c words 0x28) ∷ [] else []

-- the entry of a call whose function has run
abbrev pub shown_ran : ℕ → Processor → NatMap ℕ → Entry
shown_ran p c words = Ran p (record_word c words 0x20 % 2 ^ 32) (record_site c words) (record_word c words 0x28)

-- The last jump of REPEAT is the delivery of a held NMI. It interrupts what the outermost copy of the frame says.
abbrev pub shown_again : ℕ → ℕ → NatMap ℕ → Entry
shown_again p depth words = shown_event p (suc depth) (words (stack_top p 4 - 0x60) % 4 == 3) nmi_event (words (stack_top p 4 - 0x68))

-- An instruction that always is seen: the store of `log` to its port, the load of `wait`, the store of `finish`, the jump of REPEAT. No other one shows
-- anything.
unfoldable pub shown_always : ℕ → ℕ → Processor → NatMap ℕ → Option Ins → List Entry
shown_always p depth c words (Some (GsStore n s)) = if sign_extend n == 0x28 then Log p (register c s) ∷ [] else []
shown_always p depth c words (Some (Load d b n)) = if b == 3 then shown_wait p c words else []
shown_always p depth c words (Some (Store b n s)) = if b == 3 then shown_ran p c words ∷ [] else []
shown_always p depth c words (Some (Jmp n)) = if is_in_repeat c.rip then shown_again p depth words ∷ [] else []
shown_always p depth c words _ = []

-- by its mark: the two marks with a condition are those of `call`
abbrev pub shown_instruction : ℕ → ℕ → Processor → NatMap ℕ → Mark → Option Ins → List Entry
shown_instruction p depth c words Never i = []
shown_instruction p depth c words Always i = shown_always p depth c words i
shown_instruction p depth c words IfNonzero i = Busy p (record_site c words) ∷ []
shown_instruction p depth c words IfEqual i = shown_call p c words ∷ []

-- ---- a step

-- What a step of p with this outcome shows, where so many bodies stood on p: the entries of its instruction where the kernel ran it. The processor and
-- the words are those after it.
abbrev pub shown_by : ℕ → ℕ → Bool → Bool → List Entry → Processor → NatMap ℕ → Stepped → List Entry
shown_by p depth user fred told c words (Stepped.Delivered e frame) = shown_delivery p depth user fred c words e frame ∷ []
shown_by p depth user fred told c words Stepped.Ran = if user then [] else told
shown_by p depth user fred told c words Stepped.Shutdown = []
shown_by p depth user fred told c words (Stepped.Sent m) = []

-- what the instruction of p shows, with its mark
abbrev pub told_at : Mark → System → ℕ → List Entry
told_at mark s p =
    shown_instruction p (bodies_on s p) (s.cpus p) s.memory.words mark (instruction_at s.memory.words (s.cpus p).rip)

-- what the next step of p shows, where it is visible
unfoldable pub shown : Marks → System → ℕ → List Entry
shown marks s p =
    let r : After = step (s.cpus p) (s.apics p) s.memory (s.latches p) in
    shown_by p (bodies_on s p) (is_user (s.cpus p)) (has_fred (s.cpus p)) (told_at (mark_at marks (s.cpus p).rip) s p) r.cpu r.words r.step
