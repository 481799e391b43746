-- The laws of user code, as the contract of this crate states them. Own.
use Rattle.std.specs.Prelude.{◌≡◌, ℕ, ◌+◌, ◌^◌, ◌<◌, Bool, true, false, Option, None}
use Rattle.ev_isa.specs.Word.{NatMap, is_canonical}
use Rattle.ev_isa.specs.Reading.{reading}
use Rattle.ev_isa.specs.Pages.{place_of, UserMemory, fault_at}
use Rattle.ev_isa.specs.declared.mode.Mode.{Mode}
use Rattle.ev_event.specs.declared.boundary.Next.TheVariants.{Instruction}
use Rattle.ev_event.specs.declared.event.Event.{Event}
use Rattle.ev_body.specs.declared.image.Image.{Image}
use Rattle.ev_body.specs.WellFormed.{IsImage}
use Rattle.ev_effect.specs.Task.{Task}
use Rattle.ev_state.specs.Processor.{Processor}
use Rattle.ev_apic.specs.declared.apic.Apic.{Apic}
use Rattle.ev_mem.specs.Memory.{Memory, page_fault}
use Rattle.ev_proc.specs.ProcessorStep.{After, step, ran, next_of, instruction_at}
use Rattle.ev_abstract.specs.UserCode.{text_bytes, user_step, Goes, Raises}
use Rattle.ev_abstract.specs.Machine.{user_memory, opening}
use Rattle.ev_concrete.specs.Opening.{opening_memory}
use Rattle.ev_user.specs.Tasks.{RunsTask, task_processor}
use Rattle.ev_user.specs.Sees.{Sees, IsPageWord, IsWrite, with_write, written}
use Rattle.ev_user.specs.Causes.{Cause, IsCause, is_own, own_event, raised_event, raising}

-- ---- memory

-- At the opening user code sees what the abstract machine's sees.
abbrev pub OpeningSees : Type 0
OpeningSees = (mode : Mode) (image : Image) → IsImage image
    → Sees image (user_memory image (opening image)) (opening_memory mode image)

-- ---- what is read

-- At every address, each access of user code meets the same page fault, or none, on both sides.
abbrev pub PagesFaultAlike : Type 0
PagesFaultAlike = (image : Image) (u : UserMemory) (m : Memory) → IsImage image → Sees image u m
    → (write fetch : Bool) (a : ℕ)
    → page_fault m (record { user = true; write = write; fetch = fetch }) a
    ≡ fault_at u.present (record { user = true; write = write; fetch = fetch }) (place_of a)

-- In the lower half so does each access of the kernel's code.
abbrev pub KernelFaultsAlike : Type 0
KernelFaultsAlike = (image : Image) (u : UserMemory) (m : Memory) → IsImage image → Sees image u m
    → (write : Bool) (a : ℕ) → a < 2 ^ 63
    → page_fault m (record { user = false; write = write; fetch = false }) a
    ≡ fault_at u.present (record { user = false; write = write; fetch = false }) (place_of a)

-- Where user code can fetch, memory reads as the text with zeros behind it.
abbrev pub ReadsAlike : Type 0
ReadsAlike = (image : Image) (u : UserMemory) (m : Memory) → IsImage image → Sees image u m
    → (a : ℕ)
    → fault_at u.present (record { user = true; write = false; fetch = true }) (place_of a) ≡ None
    → instruction_at m.words a ≡ reading (text_bytes u.text a)

-- ---- a step

-- The processor c of the image runs task t, whose memory it sees as u, and the boundary chooses the
-- instruction.
pub record Site (mode : Mode) (image : Image) (p r : ℕ) (t : Task) (u : UserMemory) (c : Processor)
    (a : Apic) (m : Memory) (nmi : Bool) : Type 0 where
  pub formed : IsImage image
  pub runs : RunsTask mode image p r t c
  pub sees : Sees image u m
  pub chosen : next_of c a nmi ≡ Instruction

-- The step s runs to the task t': it writes the one word that the task writes, if any, and so both
-- memories stay alike. All else stays.
pub record GoesOn (mode : Mode) (image : Image) (p r : ℕ) (t : Task) (u : UserMemory)
    (c : Processor) (a : Apic) (m : Memory) (nmi : Bool) (t' : Task) (words : NatMap ℕ)
    (s : After) : Type 0 where
  pub write : Option (ℕ × ℕ)
  pub words_are : words ≡ with_write u.words write
  pub place : IsWrite u.present write
  pub step_is : s
      ≡ ran (task_processor mode image p r t' c.cr2 c.nmi_blocked) a (with_write m.words write) nmi
  pub runs : RunsTask mode image p r t' (task_processor mode image p r t' c.cr2 c.nmi_blocked)
  pub gs : t'.gs ≡ t.gs
  pub sees : Sees image (record u { words = words }) (written m write)
  pub others : (x : ℕ) → (IsPageWord x → ⊥) → with_write m.words write x ≡ m.words x

-- The step s delivers what the task raises, from the task's processor with the RIP that is saved;
-- of INT n other than INT 3 the processor's own event. That RIP is canonical, and behind an
-- instruction of two bytes, which was read in the text, it is no wrapped one.
pub record Raised (t : Task) (c : Processor) (a : Apic) (m : Memory) (nmi : Bool) (saved : ℕ)
    (e : Event) (s : After) : Type 0 where
  pub cause : Cause
  pub is : IsCause cause
  pub own : is_own cause ≡ true
  pub event : e ≡ raised_event cause
  pub saved_is : saved ≡ t.rip + (raised_event cause).length
  pub canonical : is_canonical saved ≡ true
  pub behind : (own_event cause).length ≡ 2 → t.rip + 2 < 2 ^ 64
  pub step_is : s ≡ raising c a m nmi cause

-- Where the abstract machine's user code goes on, so does the processor.
abbrev pub UserGoesOn : Type 0
UserGoesOn = (mode : Mode) (image : Image) (p r : ℕ) (t : Task) (u : UserMemory) (c : Processor)
    (a : Apic) (m : Memory) (nmi : Bool)
    → Site mode image p r t u c a m nmi → (t' : Task)
    (words : NatMap ℕ) → user_step u t ≡ Goes t' words
    → GoesOn mode image p r t u c a m nmi t' words (step c a m nmi)

-- Where it raises an event, the processor's step is the delivery.
abbrev pub UserRaises : Type 0
UserRaises = (mode : Mode) (image : Image) (p r : ℕ) (t : Task) (u : UserMemory) (c : Processor)
    (a : Apic) (m : Memory) (nmi : Bool)
    → Site mode image p r t u c a m nmi → (saved : ℕ) (e : Event)
    → user_step u t ≡ Raises saved e → Raised t c a m nmi saved e (step c a m nmi)
