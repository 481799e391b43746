-- The delivery of any event through the IDT: its frame, and the block that begins, with what its variables are. SDM volume 3, 6.12 to 6.14; SYSCALL, volume 2.
use Rattle.std.specs.Prelude.{◌≡◌, ◌≢◌, ℕ, ◌+◌, ◌-◌, ◌*◌, ◌%◌, ◌^◌, ◌<◌, Bool, true, false, ◌&&◌, ◌==◌, nat_lt, if◌then◌else◌, get_or, set, length, map}
use Rattle.ev_isa.specs.Word.{NatMap}
use Rattle.ev_isa.specs.Flags.{flags_word}
use Rattle.ev_event.specs.declared.event.Event.{Event}
use Rattle.ev_event.specs.declared.event.EventType.TheVariants.{SoftInt}
use Rattle.ev_event.specs.Event.{gp, has_error_code, is_hardware, nmi_event}
use Rattle.ev_effect.specs.Frame.{placed}
use Rattle.ev_gate.specs.Gate.{gate_at}
use Rattle.ev_state.specs.Outcome.{Went, Met}
use Rattle.ev_state.specs.Processor.{Processor, is_user}
use Rattle.ev_mem.specs.Memory.{Memory}
use Rattle.ev_idt.specs.IdtDelivery.{idt_delivery, in_handler, is_gated, new_rsp, syscall_idt}
use Rattle.ev_listing.specs.AddressMap.{vector_stub, sys_entry}
use Rattle.ev_concrete.specs.Opening.{gate}
use Rattle.ev_symbolic.specs.Value.{M}
use Rattle.ev_symbolic.specs.State.{top_tag}
use Rattle.ev_symbolic.specs.Agrees.{Env, eval, untracked, Open, Code, At, Fits, with_words}
use Rattle.ev_symbolic.specs.Openings.{gs_tag}
use Rattle.ev_symbolic.specs.Names.{stub_tag}
use Rattle.ev_blocks.specs.Shapes.{Origin, UserCode, KernelCode}
use Rattle.ev_blocks.specs.Idt.{IdtSpot, Stub, Sys, pushed, pushed_bytes, idt_block}
use Rattle.ev_blocks.specs.Nmi.{Choice, GsBase, TaskGs, KernelGs, Choosing, nmi_block}
use Rattle.ev_deliver.specs.FredDelivers.{faulted, fred_variables}

-- what was interrupted
abbrev pub origin_by : Bool → Origin
origin_by true = UserCode
origin_by false = KernelCode

-- the variables are those of FRED, but for the words of CS and SS
abbrev pub idt_variables : Processor → Event → ℕ → ℕ
idt_variables c e i = if i == 18 then c.cs else (if i == 21 then c.ss else fred_variables c e i)

-- ---- through the entry of a vector

-- the vector's entry pushes an error code of 0 where the processor pushed none
abbrev pub stub_of : Processor → Event → IdtSpot
stub_of c e = Stub (origin_by (is_user c)) (has_error_code e.vector) e.vector

-- the frame's address, the handler's processor, and the words with the frame
abbrev pub frame_at : Env → Bool → ℕ
frame_at env has_error = (env.base top_tag + (M - pushed_bytes has_error)) % M

-- the handler's processor
abbrev pub idt_handler : Processor → Event → ℕ → Processor
idt_handler c e frame = in_handler (faulted c e) (gate e.vector) e.kind frame

-- the words with the frame
abbrev pub idt_words : Env → Bool → NatMap ℕ → NatMap ℕ
idt_words env has_error words = placed words (frame_at env has_error) (map (eval env) (pushed has_error))

-- What the delivery finds: the kernel's gate, which is open to it; the activation's top, and GS that is or becomes the kernel's. An event of a vector with an
-- error code is one that has it.
pub record IdtSite (c : Processor) (m : Memory) (e : Event) (env : Env) : Type 0 where
  pub gate_is : gate_at m.words c.idt e.vector ≡ gate e.vector
  pub passes : (is_gated e.kind && is_user c && nat_lt (gate e.vector).dpl 3) ≡ false
  pub small : e.vector < 2 ^ 8
  pub error : (is_hardware e.kind && has_error_code e.vector) ≡ has_error_code e.vector
  pub long : length c.regs ≡ 16
  pub levels : length c.msrs.rsp ≡ 4
  pub top : new_rsp c m.words (gate e.vector) ≡ env.base top_tag

-- with that, of any vector but that of NMIs
pub record StubSite (c : Processor) (m : Memory) (e : Event) (env : Env) : Type 0 where
  pub site : IdtSite c m e env
  pub other : e.vector ≢ 2
  pub area : (if is_user c then c.msrs.kernel_gs_base else c.msrs.gs_base) ≡ env.base gs_tag
  pub area_small : env.base gs_tag < M
  pub stub : env.base stub_tag ≡ vector_stub e.vector
  pub var : env.var ≡ idt_variables c e

-- the delivery goes on at the first instruction of the vector's entry, with the frame placed
pub record StubBegins (code : Code) (c : Processor) (m : Memory) (e : Event) (env : Env) : Type 0 where
  pub went : idt_delivery c m e
      ≡ Went (idt_handler c e (frame_at env (has_error_code e.vector))) (idt_words env (has_error_code e.vector) m.words)
      (frame_at env (has_error_code e.vector))
  pub at : At code (idt_block (stub_of c e)) 0 env (idt_handler c e (frame_at env (has_error_code e.vector)))
      (with_words m (idt_words env (has_error_code e.vector) m.words))

-- so it is for every event of every vector but that of NMIs
abbrev pub IdtDelivers : Type 0
IdtDelivers = (code : Code) (c : Processor) (m : Memory) (e : Event) (env : Env) → StubSite c m e env
    → env.rest ≡ untracked (idt_handler c e (frame_at env (has_error_code e.vector)))
    → (idt_handler c e (frame_at env (has_error_code e.vector))).flags ≡ flags_word env.flags
    → Fits code env (idt_block (stub_of c e)) → Open env (idt_block (stub_of c e)).ground.known m.regions → StubBegins code c m e env

-- INT n of a task through a gate that is closed to it: the general protection fault that is delivered in its place
abbrev pub IdtRefuses : Type 0
IdtRefuses = (c : Processor) (m : Memory) (e : Event) → gate_at m.words c.idt e.vector ≡ gate e.vector → e.kind ≡ SoftInt → is_user c ≡ true
    → e.vector ≢ 3 → idt_delivery c m e ≡ Met c (gp (8 * e.vector + 2))

-- ---- an NMI, on its own stack

-- the base that isn't the kernel's, and the word that tells whether an NMI's body runs
abbrev pub nmi_variables : Processor → (base running : ℕ) → ℕ → ℕ
nmi_variables c base running i = if i == 25 then running else (if i == 60 then base else idt_variables c nmi_event i)

-- the base that isn't the kernel's, by which is in GS
abbrev pub task_base : GsBase → Processor → ℕ
task_base TaskGs c = c.msrs.gs_base
task_base KernelGs c = c.msrs.kernel_gs_base

-- and the kernel's
abbrev pub kernel_base : GsBase → Processor → ℕ
kernel_base TaskGs c = c.msrs.kernel_gs_base
kernel_base KernelGs c = c.msrs.gs_base

-- the address of the word that tells whether a body runs
abbrev pub running_at : Env → ℕ
running_at env = (env.base top_tag + (M - 0x40)) % M

-- what the delivery of an NMI finds
pub record NmiSite (c : Processor) (m : Memory) (g : GsBase) (env : Env) : Type 0 where
  pub site : IdtSite c m nmi_event env
  pub area : kernel_base g c ≡ env.base gs_tag
  pub area_small : env.base gs_tag < M
  pub var : env.var ≡ nmi_variables c (task_base g c) (m.words (running_at env))

-- it goes on at the first instruction of the NMI code, whatever that will choose
pub record NmiBegins (code : Code) (c : Processor) (m : Memory) (choice : Choice) (g : GsBase) (env : Env) : Type 0 where
  pub went : idt_delivery c m nmi_event ≡ Went (idt_handler c nmi_event (frame_at env false)) (idt_words env false m.words) (frame_at env false)
  pub at : At code (nmi_block (Choosing choice g)) 0 env (idt_handler c nmi_event (frame_at env false)) (with_words m (idt_words env false m.words))

-- so it is for every choice and either base
abbrev pub NmiDelivers : Type 0
NmiDelivers = (code : Code) (c : Processor) (m : Memory) (choice : Choice) (g : GsBase) (env : Env) → NmiSite c m g env
    → env.rest ≡ untracked (idt_handler c nmi_event (frame_at env false))
    → (idt_handler c nmi_event (frame_at env false)).flags ≡ flags_word env.flags
    → Fits code env (nmi_block (Choosing choice g)) → Open env (nmi_block (Choosing choice g)).ground.known m.regions
    → NmiBegins code c m choice g env

-- ---- SYSCALL writes no word: RIP and RFLAGS go into RCX and R11

-- the registers as SYSCALL leaves them, the task's GS base, the selector, and RSP of level 0
abbrev pub call_variables : Processor → ℕ → ℕ
call_variables c i =
    if i == 60 then c.msrs.gs_base else (if i == 61 then c.gs else (if i == 63 then get_or c.msrs.rsp 0 0
    else get_or (set (set c.regs 1 c.rip) 11 c.flags) i 0))

-- RIP of c is that of the next instruction; the processor's area has the top of the task's stack
pub record CallSite (c : Processor) (m : Memory) (env : Env) : Type 0 where
  pub entry : c.msrs.lstar ≡ sys_entry
  pub long : length c.regs ≡ 16
  pub levels : length c.msrs.rsp ≡ 4
  pub area : c.msrs.kernel_gs_base ≡ env.base gs_tag
  pub area_small : env.base gs_tag + 0x10 < M
  pub top : m.words (env.base gs_tag + 0x10) ≡ env.base top_tag
  pub top_small : env.base top_tag < M
  pub var : env.var ≡ call_variables c

-- it goes on at the first instruction of its entry
abbrev pub CallDelivers : Type 0
CallDelivers = (code : Code) (c : Processor) (m : Memory) (env : Env) → CallSite c m env → env.rest ≡ untracked (syscall_idt c)
    → (syscall_idt c).flags ≡ flags_word env.flags → Fits code env (idt_block Sys) → Open env (idt_block Sys).ground.known m.regions
    → At code (idt_block Sys) 0 env (syscall_idt c) m
