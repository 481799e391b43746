-- A delivery or a return on a bare processor: its state at first, what comes of it, and the text of that. Own.
use Rattle.std.specs.Prelude.{ℕ, zero, suc, ◌-◌, ◌/◌, Bool, true, false, not, ◌&&◌, ◌==◌, if◌then◌else◌, List, [], ◌∷◌, ◌++◌, map, flat_map, filter, Option, Some, None, decimal, codes}
use Rattle.ev_isa.specs.Word.{NatMap, bit, bit_if}
use Rattle.ev_isa.specs.Flags.{modelled}
use Rattle.ev_event.specs.declared.event.Event.{Event}
use Rattle.ev_body.specs.declared.image.Image.{Image}
use Rattle.ev_abstract.specs.Machine.{no_task}
use Rattle.ev_state.specs.Processor.{Processor, rsp, with_rsp}
use Rattle.ev_mem.specs.declared.region.Region.{Region}
use Rattle.ev_mem.specs.Memory.{Memory}
use Rattle.ev_effect.specs.Frame.{addresses, placed}
use Rattle.ev_listing.specs.AddressMap.{stack_top}
use Rattle.ev_state.specs.Outcome.{Outcome, Went, Met}
use Rattle.ev_event.specs.declared.double_fault.Combined.{Combined}
use Rattle.ev_event.specs.declared.double_fault.Combined.TheVariants.{Serial, Shutdown}
use Rattle.ev_event.specs.DoubleFault.{combine}
use Rattle.ev_proc.specs.ProcessorStep.{try, double_fault}
use Rattle.ev_concrete.specs.ConcreteRun.{frame_size}
use Rattle.ev_isa.specs.declared.mode.Mode.{Mode}
use Rattle.ev_concrete.specs.Opening.{regions, opening_cpu, opening_word}
use Rattle.ev_abstract.specs.EntryText.{Text, words, hex}
use Rattle.ev_probe.specs.declared.report.Try.{Try}
use Rattle.ev_probe.specs.declared.report.ProbeEnd.{ProbeEnd}
use Rattle.ev_probe.specs.Told.{Told, try_of}

-- the state of a probe
pub record Probe : Type 0 where
  pub mode : Mode
  pub cpl : ℕ
  pub rip : ℕ
  pub flags : ℕ
  pub rsp : ℕ
  pub level : ℕ
  pub sti : Bool
  pub nmi : Bool
  pub stklvls : ℕ
  pub bad : ℕ
  pub words : List ℕ

-- one processor with the kernel's memory and no bodies
abbrev pub bare : Image
bare = record { processors = 1; nest = 1; pages = []; cells = []; text = []; tasks = (no_task ∷ []) ∷ []; bodies = [] }

-- processor 0, with the stack of task 0 current
abbrev pub probe_cpu : Probe → Processor
probe_cpu q = let c : Processor = opening_cpu q.mode bare 0 in record (with_rsp c q.rsp) {
  rip = q.rip;
  flags = modelled q.flags;
  cpl = q.cpl;
  cs = if q.cpl == 3 then 0x33 else 0x10;
  ss = if q.cpl == 3 then 0x2b else 0x18;
  level = q.level;
  sti_blocked = q.sti;
  nmi_blocked = q.nmi;
  msrs = record c.msrs { stklvls = q.stklvls };
}

-- stack n is unmapped where bit n of `bad` is set
abbrev pub is_mapped : ℕ → Region → Bool
is_mapped bad r = not ((r.base / 0x100000 == stack_top 0 0 / 0x100000) && bit ((r.base - (stack_top 0 0 - 0x2000)) / 0x4000) bad)

-- the kernel's memory, with the words of a return at RSP
abbrev pub probe_memory : Probe → Memory
probe_memory q = record { regions = filter (is_mapped q.bad) (regions bare); words = placed (opening_word [] q.mode bare) q.rsp q.words }

-- ---- a delivery

-- the words of the frame of an event
abbrev pub frame_words : Processor → NatMap ℕ → ℕ → Event → List ℕ
frame_words c words a e = map words (addresses a (frame_size c e))

-- a try before these
abbrev pub with_try : Event → Told → Told
with_try e r = record r { tries = try_of e ∷ r.tries }

-- the last try
abbrev pub last_try : Event → Option (ℕ × List ℕ) → ProbeEnd → Told
last_try e frame end = record { tries = try_of e ∷ []; frame = frame; end = end }

-- At most so many tries to deliver an event and what it meets, each of which saves the same RIP: a fault that meets the delivery of #DF is shutdown.
unfoldable pub report : ℕ → Processor → Memory → Event → Bool → Told
report zero c m e nested = record { tries = []; frame = None; end = ProbeEnd.Shutdown }
report (suc n) c m e nested = elim (try c m e nested) [
  | Went c' words a ↦ last_try e (Some (a, frame_words c words a e)) (ProbeEnd.State c')
  | Met c' e' ↦ elim (combine e e') [
    | Serial ↦ with_try e (report n c' m e' true)
    | Combined.Double ↦ with_try e (report n c' m double_fault true)
    | Shutdown ↦ last_try e None ProbeEnd.Shutdown
  ]
]

-- No chain has more than four tries.
abbrev pub probed : Probe → Event → Told
probed q e = report 4 (probe_cpu q) (probe_memory q) e false

-- ---- a return

-- what comes of a return: the processor after it, or the event that it raises
abbrev pub returned : Outcome → Told
returned (Went c words frame) = record { tries = []; frame = None; end = ProbeEnd.State c }
returned (Met c e) = record { tries = []; frame = None; end = ProbeEnd.Raised (try_of e) }

-- ---- the text

-- a line of words
abbrev pub line : List Text → Text
line ws = words ws ++ 10 ∷ []

-- an event with its error code, behind a word
abbrev pub event_text : Text → Try → Text
event_text word t = line (word ∷ decimal t.vector ∷ codes "error" ∷ hex t.error ∷ [])

-- the line of a try
abbrev pub try_text : Try → Text
try_text t = event_text (codes "try") t

-- the line of the frame, if there is one
abbrev pub frame_text : Option (ℕ × List ℕ) → Text
frame_text None = []
frame_text (Some f) = line (codes "frame" ∷ hex f.0 ∷ map hex f.1)

-- the line of a processor
abbrev pub cpu_text : Processor → Text
cpu_text c = line (codes "cpu" ∷ codes "rip" ∷ hex c.rip ∷ codes "cs" ∷ hex c.cs ∷ codes "ss" ∷ hex c.ss ∷ codes "flags" ∷ hex c.flags
    ∷ codes "rsp" ∷ hex (rsp c) ∷ codes "level" ∷ decimal c.level ∷ codes "nmi" ∷ decimal (bit_if 0 c.nmi_blocked) ∷ codes "cr2" ∷ hex c.cr2 ∷ [])

-- the last line
abbrev pub end_text : ProbeEnd → Text
end_text (ProbeEnd.State c) = cpu_text c
end_text (ProbeEnd.Raised t) = event_text (codes "raise") t
end_text ProbeEnd.Shutdown = line (codes "shutdown" ∷ [])

-- the text of what is told
abbrev pub report_text : Told → Text
report_text r = flat_map try_text r.tries ++ frame_text r.frame ++ end_text r.end
