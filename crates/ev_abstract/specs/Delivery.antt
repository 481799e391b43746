-- Delivery of an event, and return from a body. Own, after both specifications: no word of memory is written.
use Rattle.std.specs.Prelude.{ℕ, ◌/◌, false, not, ◌&&◌, if◌then◌else◌, List, [], ◌∷◌, ◌++◌, length, Option, Some, None, slice_get, suc}
use Rattle.ev_isa.specs.Word.{put_at}
use Rattle.ev_isa.specs.Flags.{flags_word}
use Rattle.ev_event.specs.declared.event.EventType.{EventType}
use Rattle.ev_event.specs.declared.event.Event.{Event}
use Rattle.ev_event.specs.declared.event.EventType.TheVariants.{External, Other}
use Rattle.ev_body.specs.declared.key.Side.{Side}
use Rattle.ev_body.specs.declared.key.Side.TheVariants.{User, Kernel}
use Rattle.ev_body.specs.declared.body.Body.{Body}
use Rattle.ev_body.specs.declared.image.Image.{Image}
use Rattle.ev_body.specs.Bodies.{first_body}
use Rattle.ev_effect.specs.Task.{Task, with_reg}
use Rattle.ev_abstract.specs.Context.{BodyContext}
use Rattle.ev_abstract.specs.declared.entry.Entry.{Entry}
use Rattle.ev_abstract.specs.declared.entry.Entry.TheVariants.{Enter}
use Rattle.ev_abstract.specs.Machine.{Processor, task, with_task}
use Rattle.ev_abstract.specs.Boundary.{is_nmi_body}
use Rattle.ev_event.specs.Event.{nmi_event, interrupt_event}

-- the number of the key of an event: the vector, and 100H for SYSCALL
abbrev pub event_key : EventType → ℕ → ℕ
event_key Other vector = 0x100
event_key _ vector = vector

-- the class that a delivery puts in service
abbrev pub service_of : EventType → ℕ → Option ℕ
service_of External vector = Some (vector / 16)
service_of _ vector = None

-- a body at its start: IF off, rdi the key's number, rsi the error code, r8 the event data, r9 to r13 0
abbrev pub body_at_start : ℕ → Side → Event → BodyContext
body_at_start body side e = record {
  body = body;
  side = side;
  place = 0;
  locals = e.error ∷ event_key e.kind e.vector ∷ e.info ∷ 0 ∷ 0 ∷ 0 ∷ 0 ∷ 0 ∷ [];
  flags = None;
  interrupts = false;
  service = service_of e.kind e.vector;
  calls = [];
}

-- which side a delivery has, and which user RIP its entry shows
abbrev pub side_of : List BodyContext → Side
side_of [] = User
side_of (c ∷ below) = Kernel

-- the RIP that an entry shows: of user code alone
abbrev pub shown_rip : List BodyContext → Task → Option ℕ
shown_rip [] t = Some t.rip
shown_rip (c ∷ below) t = None

-- with the body of this number (an accepted image has one for each event that comes)
abbrev pub entered : ℕ → Processor → Event → Side → Option ℕ → List Body → Processor × List Entry
entered p x e side None bodies = (x, [])
entered p x e side (Some n) bodies = with_body (slice_get bodies n)
  where
    with_body : Option Body → Processor × List Entry
    with_body None = (x, [])
    with_body (Some b) = (
      record x { bodies = body_at_start n side e ∷ x.bodies },
      Enter p b.key e.kind side (suc (length x.bodies)) e.error e.info (shown_rip x.bodies (task x)) ∷ [],
    )

-- an event is delivered: the body of its key and side is entered
unfoldable pub delivered : Image → ℕ → Processor → Event → Processor × List Entry
delivered image p x e = let side : Side = side_of x.bodies in
    entered p x e side (first_body 0 image.bodies (event_key e.kind e.vector) side) image.bodies

-- NMI, and the interrupt of a vector: the latch or the pending vector is taken away
abbrev pub nmi_delivered : Image → ℕ → Processor → Processor × List Entry
nmi_delivered image p x = delivered image p (record x { nmi = false }) nmi_event

-- the same of an interrupt, which is pending no longer
abbrev pub interrupt_delivered : Image → ℕ → Processor → ℕ → Processor × List Entry
interrupt_delivered image p x v = delivered image p (record x { pending = put_at x.pending v false }) (interrupt_event v)

-- SYSCALL leaves the next RIP in RCX and RFLAGS in R11 (SDM volume 2, SYSCALL)
abbrev pub saved_by : EventType → Task → Task
saved_by Other t = with_reg (with_reg t 1 t.rip) 11 (flags_word t.flags)
saved_by _ t = t

-- an event of the task, with the RIP that is saved
abbrev pub task_event : Image → ℕ → Processor → ℕ → Event → Processor × List Entry
task_event image p x saved e = delivered image p (with_task x (saved_by e.kind (record (task x) { rip = saved }))) e

-- ---- return

-- the task goes to the back of the waiting ones, and the first of these runs
abbrev pub switched : Processor → List ℕ → Processor
switched x [] = x
switched x (t ∷ ts) = record x { running = t; waiting = ts }

-- the next task runs, and the running one waits behind all others
abbrev pub rescheduled : Processor → Processor
rescheduled x = switched (record x { resched = false }) (x.waiting ++ x.running ∷ [])

-- the last context c is dropped
abbrev pub dropped : Image → BodyContext → Processor → List BodyContext → Processor
dropped image c x [] = if x.resched && not (is_nmi_body image c) then rescheduled (record x { bodies = [] }) else record x { bodies = [] }
dropped image c x (b ∷ bs) = record x { bodies = b ∷ bs }
