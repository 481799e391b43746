-- The delivery of what a task raises: what it owes for the activation that it begins, in either mode.
use Rattle.std.proofs.Common.{◌≡◌, ℕ, ◌+◌, ◌*◌, ◌^◌, ◌<◌, ◌≤◌, Bool, true, false, [], ◌∷◌, length, Option, Some, None, refl, sym, ap, subst, arith}
use Rattle.std.specs.Prelude.{slice_get}
use Rattle.std.proofs.lemmas.Bool.{ne_eqb}
use Rattle.std.specs.List.{list_any}
use Rattle.ev_isa.specs.Word.{NatMap, bit}
use Rattle.ev_isa.specs.Flags.{flags_word}
use Rattle.ev_isa.specs.declared.mode.Mode.{Mode}
use Rattle.ev_event.specs.declared.event.Event.{Event}
use Rattle.ev_body.specs.declared.key.Side.TheVariants.{User}
use Rattle.ev_body.specs.declared.body.Body.{Body}
use Rattle.ev_body.specs.declared.image.Image.{Image}
use Rattle.ev_body.specs.Bodies.{first_body}
use Rattle.ev_body.specs.WellFormed.{IsImage}
use Rattle.ev_effect.specs.Task.{Task}
use Rattle.ev_state.specs.Processor.{Processor, selector}
use Rattle.ev_mem.specs.Memory.{Memory}
use Rattle.ev_apic.specs.declared.apic.Apic.{Apic}
use Rattle.ev_proc.specs.declared.stepped.Stepped.{Stepped}
use Rattle.ev_proc.specs.ProcessorStep.{After, has_fred}
use Rattle.ev_listing.specs.AddressMap.{pcpu, user_table, task_selector, stack_top}
use Rattle.ev_abstract.specs.Context.{BodyContext}
use Rattle.ev_abstract.specs.Delivery.{event_key, body_at_start, saved_by}
use Rattle.ev_concrete.specs.Opening.{regions}
use Rattle.ev_concrete.specs.ConcreteRun.{System, acted}
use Rattle.ev_concrete.specs.LiveWords.{overwrites}
use Rattle.ev_concrete.specs.Shown.{is_refused, told_rip, told_event, saved_rip}
use Rattle.ev_symbolic.specs.Agrees.{with_words}
use Rattle.ev_activation.specs.Seat.{Kind, FromTask, Seat, kind_from}
use Rattle.ev_user.specs.Tasks.{level_zero, task_processor}
use Rattle.ev_user.specs.Causes.{Fault, Undefined, Protection, Page, Cause, Faulted, Debug, Breakpoint, Three, Refused, Call, Arrived, IsCause, own_event, raised_event, raising}
use Rattle.ev_relation.specs.Active.{address_of_item, item_place, Active}
use Rattle.ev_relation.specs.Nmi.{Frame}
use Rattle.ev_relation.specs.Tasks.{TssIs}
use Rattle.ev_relation.specs.Named.{Changes}
use Rattle.ev_relation.proofs.CallKinds.{is_over_task}
use Rattle.ev_relation.proofs.Facts.{HasFixed, Facts}
use Rattle.ev_relation.proofs.Fits.{IsSeat}
use Rattle.ev_relation.proofs.After.{kernel_names}
use Rattle.ev_task_steps.proofs.UserSafe.{OnlyTask}

-- ---- what the delivery speaks of

-- the number of the key of what is raised, and the kind of its activation
abbrev pub cause_key : Cause → ℕ
cause_key cause = event_key (raised_event cause).kind (raised_event cause).vector

abbrev pub kind_at : Cause → Kind
kind_at cause = kind_from (cause_key cause) []

-- each has a table's word, and an activation over a task
pub key_small : (cause : Cause) → IsCause cause → cause_key cause ≤ 0x100
key_small (Faulted Undefined) h = omega arith
key_small (Faulted Fault.Stack) h = omega arith
key_small (Faulted Protection) h = omega arith
key_small (Faulted (Page code address)) h = omega arith
key_small (Faulted Fault.Alignment) h = omega arith
key_small Debug h = omega arith
key_small Breakpoint h = omega arith
key_small Three h = omega arith
key_small (Refused n) h = omega arith
key_small Call h = omega arith
key_small (Arrived v) h = let l = h.1 in omega arith

-- that of an interrupt is one of an event
pub arrived_kind : (v : ℕ) → IsCause (Arrived v) → kind_at (Arrived v) ≡ FromTask
arrived_kind v h =
    let l = h.0 in
    let u = h.1 in rw (ne_eqb v 0x100 (λ e. let z : ⊥ = omega arith in z), ne_eqb v 2 (λ e. let z : ⊥ = omega arith in z)) refl

pub over_one : (cause : Cause) → IsCause cause → is_over_task (kind_at cause) ≡ true
over_one (Faulted Undefined) h = refl
over_one (Faulted Fault.Stack) h = refl
over_one (Faulted Protection) h = refl
over_one (Faulted (Page code address)) h = refl
over_one (Faulted Fault.Alignment) h = refl
over_one Debug h = refl
over_one Breakpoint h = refl
over_one Three h = refl
over_one (Refused n) h = refl
over_one Call h = refl
over_one (Arrived v) h = ap is_over_task (arrived_kind v h)

-- the RIP that the task goes on at
abbrev pub saved_at : Task → Cause → ℕ
saved_at t cause = t.rip + (raised_event cause).length

-- the task to which the body returns
abbrev pub returning : Task → Cause → Task
returning t cause = saved_by (raised_event cause).kind (record t { rip = saved_at t cause })

-- what stands after the delivery of an event
abbrev pub arrival : Processor → NatMap ℕ → Event → Option ℕ → Apic → Bool → After
arrival c words e frame a nmi = record { cpu = c; apic = a; words = words; nmi = nmi; step = Stepped.Delivered e frame }

-- so many edges come at most before a visible step
abbrev pub entry_edges : ℕ
entry_edges = 100

-- ---- what the load of the body's address finds

-- the place of the key's word, the task that goes on, and what the event tells the body
pub record Finds (mode : Mode) (p n : ℕ) (t : Task) (body : ℕ) (cause : Cause) (v : ℕ → ℕ) : Type 0 where
  pub place : v 0 ≡ user_table + 8 * cause_key cause
  pub regs : (returning t cause).regs
      ≡ v 30 ∷ v 31 ∷ v 32 ∷ v 33 ∷ v 20 ∷ v 35 ∷ v 36 ∷ v 37 ∷ v 38 ∷ v 39 ∷ v 40 ∷ v 41 ∷ v 42 ∷ v 43 ∷ v 44 ∷ v 45 ∷ []
  pub rip : v 17 ≡ (returning t cause).rip
  pub cs : selector (v 18) ≡ 0x33
  pub flags : v 19 ≡ flags_word (returning t cause).flags
  pub ss : selector (v 21) ≡ 0x2b
  pub sti : bit 16 (v 21) ≡ false
  pub gs : v 60 ≡ (returning t cause).gs
  pub chosen : v 61 ≡ task_selector p n
  pub level : v 63 ≡ level_zero mode p n
  pub locals : (body_at_start body User (raised_event cause)).locals ≡ v 6 ∷ v 7 ∷ v 8 ∷ v 9 ∷ v 10 ∷ v 11 ∷ v 12 ∷ v 13 ∷ []

-- ---- the delivery, of a task on its stack n

module _ (mode : Mode) (image : Image) (p n : ℕ) (t : Task) (cr2 : ℕ) (cause : Cause) (body : ℕ) where
  abbrev pub raiser : Processor
  raiser = task_processor mode image p n t cr2 false

  abbrev pub over : Processor
  over = task_processor mode image p n (returning t cause) cr2 false

  abbrev pub context : BodyContext
  context = body_at_start body User (raised_event cause)

  abbrev pub seat : Seat
  seat = record { stack = n; used = 0 }

  -- what it finds
  pub record Ready (m : Memory) : Type 0 where
    pub running : n < 4
    pub within : p < image.processors
    pub few : image.processors ≤ 8
    pub formed : IsImage image
    pub facts : Facts mode image
    pub is_cause : IsCause cause
    pub long : length t.regs ≡ 16
    pub rip_small : (own_event cause).length ≡ 2 → t.rip + 2 < 2 ^ 64
    pub regions_are : m.regions ≡ regions image
    pub fixed : HasFixed mode image m
    pub found : first_body 0 image.bodies (cause_key cause) User ≡ Some body
    pub stands : Body
    pub is : slice_get image.bodies body ≡ Some stands
    pub top_is : m.words (pcpu p + 0x10) ≡ stack_top p n
    pub tss : TssIs mode p n m.words

  -- the place of the body's first item, as base 20
  abbrev pub first_place : ℕ → ℕ
  first_place k = item_place mode image body 0

  pub in_bodies : (m : Memory) → Ready m → (0xffffffff82000000 ≤ item_place mode image body 0) × (item_place mode image body 0 + 0x100 ≤ 2 ^ 64)
  in_bodies m ready = subst (λ a. (0xffffffff82000000 ≤ a) × (a + 0x100 ≤ 2 ^ 64)) (sym (ap (address_of_item mode body 0) ready.is))
      (ready.facts.item_range body 0 ready.stands ready.is)

  -- What it comes to, by the event that is delivered: an activation at its entry, with no word changed but those of a frame on the task's stack, which writes
  -- over no live word. What is told of that event is what was raised.
  pub record Begins (m : Memory) : Type 0 where
    pub cpu : Processor
    pub words : NatMap ℕ
    pub frame : Option ℕ
    pub event : Event
    pub runs : (a : Apic) (nmi : Bool) → raising raiser a m nmi cause ≡ arrival cpu words event frame a nmi
    pub blocking : cpu.nmi_blocked ≡ false
    pub active : (f : Frame) → Active mode image p entry_edges (kind_at cause) seat f false None over context cpu (with_words m words)
    pub changes : Changes p seat (kernel_names p) m.words words
    pub told : told_event (is_refused (has_fred raiser) event) event ≡ raised_event cause
    pub saved : told_rip (is_refused (has_fred raiser) event) (saved_rip (has_fred raiser) cpu words event frame) ≡ saved_at t cause
    pub safe : (s : System) → OnlyTask s p n → (k : ℕ) (z : System) → z.cpus p ≡ cpu
        → list_any (overwrites mode image s) (acted k z p (Stepped.Delivered event frame)).1 ≡ false

  -- the seat of a task's stack
  pub in_seat : n < 4 → IsSeat seat
  in_seat h = record { stack = omega arith; room = omega arith; aligned = refl }
