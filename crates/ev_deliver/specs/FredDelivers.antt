-- The delivery of any event under FRED: its frame, and the block that begins, with what its variables are. FRED specification, chapter "FRED event delivery".
use Rattle.std.specs.Prelude.{◌≡◌, ℕ, ◌+◌, ◌-◌, ◌*◌, ◌/◌, ◌%◌, ◌^◌, ◌<◌, Bool, true, false, ◌&&◌, ◌==◌, if◌then◌else◌, get_or, length, map}
use Rattle.ev_isa.specs.Word.{NatMap, bit}
use Rattle.ev_isa.specs.Flags.{Flags, no_status}
use Rattle.ev_event.specs.declared.event.Event.{Event}
use Rattle.ev_event.specs.declared.event.EventType.{EventType}
use Rattle.ev_event.specs.declared.event.EventType.TheVariants.{SoftInt, Other}
use Rattle.ev_event.specs.Event.{has_error_code, is_hardware, is_nmi_type}
use Rattle.ev_effect.specs.Frame.{placed}
use Rattle.ev_state.specs.Outcome.{Went}
use Rattle.ev_state.specs.Processor.{Processor, is_user, rsp, selector}
use Rattle.ev_mem.specs.Memory.{Memory}
use Rattle.ev_fred.specs.FredDelivery.{fred_delivery, in_fred_handler, new_level, frame_top, ss_word}
use Rattle.ev_symbolic.specs.Value.{M}
use Rattle.ev_symbolic.specs.State.{top_tag}
use Rattle.ev_symbolic.specs.Agrees.{Env, eval, untracked, Open, Code, FactsHold, At, Fits, with_words}
use Rattle.ev_symbolic.specs.Openings.{gs_tag}
use Rattle.ev_symbolic.specs.Names.{frame_cs, frame_ss}
use Rattle.ev_blocks.specs.Shapes.{fred_frame}
use Rattle.ev_blocks.specs.Fred.{FredWay, ByCall, ByInt3, ByIntN, ByOther, FredSpot, FromUser, FromKernel, fred_block, event_vector}

-- ---- which block begins

-- by the type, and of INT n by the vector
abbrev pub way_by : EventType → ℕ → FredWay
way_by Other v = ByCall
way_by SoftInt v = if v == 3 then ByInt3 else ByIntN
way_by kind v = ByOther

-- that of an event
abbrev pub way_of : Event → FredWay
way_of e = way_by e.kind e.vector

-- from a task or from the kernel
abbrev pub entry_by : Bool → Event → FredSpot
entry_by true e = FromUser (way_of e)
entry_by false e = FromKernel

-- from a task by the event's type, and from the kernel one for all
abbrev pub entry_of : Processor → Event → FredSpot
entry_of c e = entry_by (is_user c) e

-- ---- its variables

-- the error code that the frame has
abbrev pub error_of : Event → ℕ
error_of e = if is_hardware e.kind && has_error_code e.vector then e.error else 0

-- the GS base that isn't in use after the delivery
abbrev pub other_base : Bool → Processor → ℕ
other_base true c = c.msrs.gs_base
other_base false c = c.msrs.kernel_gs_base

-- a page fault leaves its address in CR2
abbrev pub cr2_after : Event → ℕ → ℕ
cr2_after e a = if is_hardware e.kind && (e.vector == 14) then e.info else a

-- the processor with that CR2
abbrev pub faulted : Processor → Event → Processor
faulted c e = record c { cr2 = cr2_after e c.cr2 }

-- the registers, the frame, the other GS base, the selector, CR2 and RSP of level 0
abbrev pub fred_variables : Processor → Event → ℕ → ℕ
fred_variables c e i =
    if i == 16 then error_of e else (if i == 17 then c.rip else (if i == 18 then c.cs + 2 ^ 16 * c.level else (if i == 19 then c.flags
    else (if i == 20 then rsp c else (if i == 21 then ss_word c e false else (if i == 22 then e.info else (if i == 23 then 0
    else (if i == 60 then other_base (is_user c) c else (if i == 61 then c.gs else (if i == 62 then cr2_after e c.cr2
    else (if i == 63 then get_or c.msrs.rsp 0 0 else get_or c.regs i 0)))))))))))

-- RFLAGS is 2 in the handler
abbrev pub no_flags : Flags
no_flags = record { status = no_status; interrupts = false; alignment = false }

-- ---- what the delivery finds

-- The top of the frame is the activation's, and GS is or becomes the kernel's; the processor has the configuration of the kernel.
pub record FredSite (c : Processor) (e : Event) (env : Env) : Type 0 where
  pub config : c.msrs.config ≡ 0xffffffff81000040
  pub long : length c.regs ≡ 16
  pub levels : length c.msrs.rsp ≡ 4
  pub top : frame_top c (new_level c e false) ≡ env.base top_tag
  pub area : (if is_user c then c.msrs.kernel_gs_base else c.msrs.gs_base) ≡ env.base gs_tag
  pub area_small : env.base gs_tag < M
  pub var : env.var ≡ fred_variables c e
  pub flags : env.flags ≡ no_flags

-- the frame's address, the handler's processor, and the words with the frame
abbrev pub frame_at : Env → ℕ
frame_at env = (env.base top_tag + (M - 0x40)) % M

-- the handler's processor
abbrev pub fred_handler : Processor → Event → Env → Processor
fred_handler c e env = in_fred_handler (faulted c e) e (new_level c e false) (frame_at env)

-- the words with the frame
abbrev pub fred_words : Env → NatMap ℕ → NatMap ℕ
fred_words env words = placed words (frame_at env) (map (eval env) fred_frame)

-- the facts of the entry hold: so it is the one that the event's type and vector say
abbrev pub FredFacts : Type 0
FredFacts = (c : Processor) (e : Event) (env : Env) → env.var ≡ fred_variables c e → c.ss < 2 ^ 16 → e.vector < 2 ^ 8
    → FactsHold env (fred_block (entry_of c e)).ground.facts

-- What the frame tells of the event and of what it interrupted, whatever else stands in its words: the vector; the selectors of CS, with the stack level
-- above it, and of SS; the blocking by STI; and whether the event is an NMI.
pub record FrameTells (c : Processor) (e : Event) (env : Env) : Type 0 where
  pub vector : eval env event_vector ≡ e.vector
  pub cs : selector (eval env frame_cs) ≡ c.cs
  pub level : eval env frame_cs / 2 ^ 16 % 4 ≡ c.level
  pub ss : selector (eval env frame_ss) ≡ c.ss
  pub sti : bit 16 (eval env frame_ss) ≡ c.sti_blocked
  pub nmi : bit 18 (eval env frame_ss) ≡ is_nmi_type e.kind

-- so it is for every event
abbrev pub FramesTell : Type 0
FramesTell = (c : Processor) (e : Event) (env : Env) → env.var ≡ fred_variables c e → c.cs < 2 ^ 16 → c.level < 4 → c.ss < 2 ^ 16 → e.vector < 2 ^ 8
    → FrameTells c e env

-- the delivery goes on at the entry's first instruction, with the frame placed
pub record FredBegins (code : Code) (c : Processor) (m : Memory) (e : Event) (env : Env) : Type 0 where
  pub went : fred_delivery c m e false ≡ Went (fred_handler c e env) (fred_words env m.words) (frame_at env)
  pub at : At code (fred_block (entry_of c e)) 0 env (fred_handler c e env) (with_words m (fred_words env m.words))

-- so it is for every event, processor and memory
abbrev pub FredDelivers : Type 0
FredDelivers = (code : Code) (c : Processor) (m : Memory) (e : Event) (env : Env) → FredSite c e env
    → env.rest ≡ untracked (fred_handler c e env) → Fits code env (fred_block (entry_of c e))
    → Open env (fred_block (entry_of c e)).ground.known m.regions → FredBegins code c m e env
