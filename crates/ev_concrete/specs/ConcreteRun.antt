-- The concrete machine: visible steps and edges, and its run. Own.
use Rattle.std.specs.Prelude.{ℕ, zero, suc, ◌+◌, ◌-◌, Bool, true, false, not, ◌&&◌, ◌||◌, nat_lt, nat_le, ◌==◌, if◌then◌else◌, List, [], ◌∷◌, ◌++◌, map, filter, min, Option, Some, None}
use Rattle.ev_isa.specs.Word.{NatMap, NatSet, put_at, no_numbers, numbers_from}
use Rattle.ev_event.specs.declared.event.Event.{Event}
use Rattle.ev_body.specs.declared.key.Key.{Key}
use Rattle.ev_body.specs.declared.image.Image.{Image}
use Rattle.ev_body.specs.Bodies.{key_number}
use Rattle.ev_abstract.specs.declared.script_line.Line.{Line}
use Rattle.ev_abstract.specs.declared.script_line.Line.TheVariants.{Turn, Edge, Arrive, Accept}
use Rattle.ev_state.specs.Processor.{Processor, is_user, register, rsp}
use Rattle.ev_isa.specs.declared.instruction.Ins.{Ins}
use Rattle.ev_isa.specs.declared.instruction.Ins.TheVariants.{Sysretq, Iretq, Eretu, Erets}
use Rattle.ev_apic.specs.declared.apic.Apic.{Apic}
use Rattle.ev_apic.specs.declared.send.Target.{Target}
use Rattle.ev_apic.specs.declared.send.Target.TheVariants.{One, Myself, All, Others}
use Rattle.ev_apic.specs.declared.send.SendKey.{SendKey}
use Rattle.ev_mem.specs.Memory.{Memory}
use Rattle.ev_trace.specs.FrameText.{Totals, Noted}
use Rattle.ev_effect.specs.Frame.{addresses}
use Rattle.ev_listing.specs.AddressMap.{stack_top, repeat_entry, nbody_entry, nlast_entry}
use Rattle.ev_listing.specs.Marks.{Mark, Never, Always, IfNonzero, IfEqual, all_marks}
use Rattle.ev_event.specs.Event.{has_error_code, is_hardware}
use Rattle.ev_proc.specs.ProcessorStep.{After, next_of, step, has_fred, instruction_at}
use Rattle.ev_proc.specs.declared.stepped.Stepped.{Stepped}
use Rattle.ev_event.specs.declared.boundary.Next.{Next}
use Rattle.ev_event.specs.declared.boundary.Next.TheVariants.{Interrupt}
use Rattle.ev_isa.specs.declared.mode.Mode.{Mode}
use Rattle.ev_concrete.specs.Opening.{listings, opening_cpu, opening_apic, opening_memory}
use Rattle.ev_event.specs.declared.frame_note.FrameNote.{FrameNote}
use Rattle.ev_apic.specs.declared.inbox.Inbox.{Inbox}
use Rattle.ev_apic.specs.Inbox.{no_mail, mailed, with_mail}
use Rattle.ev_apic.specs.Vectors.{with_vector}

-- An activation of a handler: RSP and RIP at which it was interrupted (those of the last one are the processor's), and whether it is that of an inner NMI.
pub record Activation : Type 0 where
  pub rsp : ℕ
  pub rip : ℕ
  pub inner : Bool

-- The machine: processors with their local APICs and NMI latches, mail, memory, totals, and what stands on each processor. RSP and RIP of a list's first
-- activation are those of when it was last interrupted: the processor has its own.
pub record System : Type 0 where
  pub cpus : NatMap Processor
  pub apics : NatMap Apic
  pub latches : NatSet  -- the NMI latches, by processor
  pub inboxes : NatMap Inbox
  pub memory : Memory
  pub totals : Totals
  pub activations : NatMap (List Activation)  -- of each processor, the last one first

-- the marks of a mode's code
abbrev pub Marks : Type 0
Marks = List (ℕ × Mark)

-- the marks of the code of an image
abbrev pub marks_of : Mode → Image → Marks
marks_of mode image = all_marks (listings mode image)

-- the mark of an address
abbrev pub mark_at : Marks → ℕ → Mark
mark_at [] a = Never
mark_at (e ∷ es) a = if e.0 == a then e.1 else mark_at es a

-- ---- visible steps

-- whether an NMI at this processor would be an inner one: under IDT, from the kernel, where the NMI code leads to REDIR or INRET
abbrev pub is_inner_nmi : System → ℕ → Processor → Bool
is_inner_nmi s p c =
    not (has_fred c) && not (is_user c)
    && ((nat_le repeat_entry c.rip && nat_lt c.rip nbody_entry) || (c.rip == nlast_entry + 12) || (s.memory.words (stack_top p 4 - 0x40) == 1))

-- whether the abstract machine makes a step with a marked instruction
abbrev pub is_seen : Mark → System → Processor → Bool
is_seen Never s c = false
is_seen Always s c = true
is_seen IfNonzero s c = not (s.memory.words (register c 3) == 0)
is_seen IfEqual s c = s.memory.words (register c 2) == register c 0

-- the same by what comes next at p
abbrev pub is_visible_by : Marks → System → ℕ → Processor → Next → Bool
is_visible_by marks s p c Next.Nmi = not (is_inner_nmi s p c)
is_visible_by marks s p c (Interrupt v) = true
is_visible_by marks s p c _ = is_user c || is_seen (mark_at marks c.rip) s c

-- whether p's next step is visible; else it is an edge
unfoldable pub is_visible : Marks → System → ℕ → Bool
is_visible marks s p = is_visible_by marks s p (s.cpus p) (next_of (s.cpus p) (s.apics p) (s.latches p))

-- ---- how a step of p changes its activations: a delivery begins one, and a return ends the last

-- whether the instruction ends an activation
unfoldable pub is_return : Option Ins → Bool
is_return (Some Sysretq) = true
is_return (Some Iretq) = true
is_return (Some Eretu) = true
is_return (Some Erets) = true
is_return _ = false

-- the last activation is interrupted where the processor is
abbrev pub interrupted : Processor → List Activation → List Activation
interrupted c [] = []
interrupted c (a ∷ as') = record a { rsp = rsp c; rip = c.rip } ∷ as'

-- the activations below the last one
abbrev pub without_last : List Activation → List Activation
without_last [] = []
without_last (a ∷ as') = as'

-- whether the last IRETQ leads to REPEAT, so that its activation goes on; user code may stand at that address too
abbrev pub is_repeated : Processor → Processor → Bool
is_repeated c c' = (c.rip == nlast_entry + 12) && (c'.rip == repeat_entry) && not (is_user c')

-- whether the step is the delivery of an inner NMI
abbrev pub starts_inner : System → ℕ → Next → Bool
starts_inner s p Next.Nmi = is_inner_nmi s p (s.cpus p)
starts_inner s p _ = false

-- what stands on p behind a step that came to this
abbrev pub activations_by : System → ℕ → List Activation → Processor → Stepped → List Activation
activations_by s p as' c' (Stepped.Delivered e frame) =
    record { rsp = 0; rip = 0; inner = starts_inner s p (next_of (s.cpus p) (s.apics p) (s.latches p)) } ∷ interrupted (s.cpus p) as'
activations_by s p as' c' Stepped.Ran =
    if is_return (instruction_at s.memory.words (s.cpus p).rip) && not (is_user (s.cpus p)) && not (is_repeated (s.cpus p) c') then without_last as' else as'
activations_by s p as' c' _ = as'

-- ---- steps

-- the processors that an interrupt command of p goes to, of n; one that isn't there gets none
abbrev pub targets : ℕ → ℕ → Target → List ℕ
targets n p (One t) = if nat_lt t n then t ∷ [] else []
targets n p Myself = p ∷ []
targets n p All = numbers_from 0 n
targets n p Others = filter (λ q. not (q == p)) (numbers_from 0 n)

-- what was sent stands in the mail of each
abbrev pub posted : System → SendKey → List ℕ → System
posted s key [] = s
posted s key (t ∷ ts) = posted (record s { inboxes = put_at s.inboxes t (mailed (s.inboxes t) key) }) key ts

-- the lower of two frame addresses
abbrev pub lower : ℕ → Option ℕ → Option ℕ
lower a None = Some a
lower a (Some b) = Some (min a b)

-- how many words a delivery writes
abbrev pub frame_size : Processor → Event → ℕ
frame_size c e = if has_fred c then 8 else (if is_hardware e.kind && has_error_code e.vector then 6 else 5)

-- what the system gets of a step's act: mail and totals, and the frames that it wrote
abbrev pub acted : ℕ → System → ℕ → Stepped → System × List FrameNote
acted n s p Stepped.Ran = (s, [])
acted n s p Stepped.Shutdown = (s, [])
acted n s p (Stepped.Sent m) = (posted s m.key (targets n p m.target), [])
acted n s p (Stepped.Delivered e None) = (s, [])
acted n s p (Stepped.Delivered e (Some a)) = (
  record s { totals = record s.totals { frames = suc s.totals.frames; low = lower a s.totals.low } },
  record { address = a; words = record { items = map s.memory.words (addresses a (frame_size (s.cpus p) e)) } } ∷ [],
)

-- the machine behind a step of p, but for mail and totals
abbrev pub after_step : System → ℕ → After → System
after_step s p r = record {
  cpus = put_at s.cpus p r.cpu;
  apics = put_at s.apics p r.apic;
  latches = put_at s.latches p r.nmi;
  inboxes = s.inboxes;
  memory = record s.memory { words = r.words };
  totals = record s.totals { steps = suc s.totals.steps };
  activations = put_at s.activations p (activations_by s p (s.activations p) r.cpu r.step);
}

-- one concrete step of p, of n processors
unfoldable pub concrete_step : ℕ → System → ℕ → System × List FrameNote
concrete_step n s p = let r : After = step (s.cpus p) (s.apics p) s.memory (s.latches p) in acted n (after_step s p r) p r.step

-- frames before those of what follows
abbrev pub with_frames : List FrameNote → System × List FrameNote → System × List FrameNote
with_frames fs r = (r.0, fs ++ r.1)

-- edges of p, until so many are made or the next step is visible
unfoldable pub edges : ℕ → Marks → ℕ → System → ℕ → System × List FrameNote
edges zero marks n s p = (s, [])
edges (suc k) marks n s p = elim (is_visible marks s p) [
  | true ↦ (s, [])
  | false ↦ let r : System × List FrameNote = concrete_step n s p in with_frames r.1 (edges k marks n r.0 p)
]

-- edges of p, until its next step is visible: in an accepted run fewer than 1,024
abbrev pub settled : Marks → ℕ → System → ℕ → System × List FrameNote
settled marks n s p = edges 1024 marks n s p

-- edges of p and then one visible step
abbrev pub concrete_turn : Marks → ℕ → System → ℕ → System × List FrameNote
concrete_turn marks n s p = let r : System × List FrameNote = settled marks n s p in with_frames r.1 (concrete_step n r.0 p)

-- a vector or NMI comes to p
abbrev pub arrived_at : System → ℕ → Key → System
arrived_at s p Key.Nmi = record s { latches = put_at s.latches p true }
arrived_at s p key = record s { apics = put_at s.apics p (record (s.apics p) { irr = with_vector (s.apics p).irr (key_number key) true }) }

-- the mail of p moves to its local APIC and its latch
abbrev pub accept_mail : System → ℕ → System
accept_mail s p = record s {
  apics = put_at s.apics p (with_mail (s.apics p) (s.inboxes p));
  latches = put_at s.latches p (s.latches p || (s.inboxes p).nmi);
  inboxes = put_at s.inboxes p no_mail;
}

-- a line of the script
unfoldable pub concrete_line : Marks → ℕ → System → Line → System × List FrameNote
concrete_line marks n s (Turn p) = concrete_turn marks n s p
concrete_line marks n s (Edge p k) = edges k marks n s p
concrete_line marks n s (Arrive p key) = (arrived_at s p key, [])
concrete_line marks n s (Accept p) = (accept_mail s p, [])

-- frames with their processor
abbrev pub noted : ℕ → List FrameNote → List Noted
noted p fs = map (λ f. (p, f)) fs

-- the processor that a line names
abbrev pub processor_of : Line → ℕ
processor_of (Turn p) = p
processor_of (Edge p k) = p
processor_of (Arrive p key) = p
processor_of (Accept p) = p

-- noted frames before those of what follows
abbrev pub behind : List Noted → System × List Noted → System × List Noted
behind fs r = (r.0, fs ++ r.1)

-- lines of the script, one after the other
abbrev pub concrete_lines : Marks → ℕ → System → List Line → System × List Noted
concrete_lines marks n s [] = (s, [])
concrete_lines marks n s (l ∷ ls) = let r : System × List FrameNote = concrete_line marks n s l in
    behind (noted (processor_of l) r.1) (concrete_lines marks n r.0 ls)

-- every processor of the list is settled, in order
abbrev pub all_settled : Marks → ℕ → System → List ℕ → System × List Noted
all_settled marks n s [] = (s, [])
all_settled marks n s (p ∷ ps) = let r : System × List FrameNote = settled marks n s p in behind (noted p r.1) (all_settled marks n r.0 ps)

-- the machine before the script
unfoldable pub opening_system : Mode → Image → System
opening_system mode image = record {
  cpus = opening_cpu mode image;
  apics = λ p. opening_apic;
  latches = no_numbers;
  inboxes = λ p. no_mail;
  memory = opening_memory mode image;
  totals = record { steps = 0; frames = 0; low = None };
  activations = λ p. [];
}

-- the run of a script
abbrev pub concrete_run : Mode → Image → List Line → System × List Noted
concrete_run mode image script = let marks : Marks = marks_of mode image in concrete_lines marks image.processors (opening_system mode image) script

-- the run of a script, and every processor settled at its end
abbrev pub settled_run : Mode → Image → List Line → System × List Noted
settled_run mode image script =
    let marks : Marks = marks_of mode image in
    let r : System × List Noted = concrete_lines marks image.processors (opening_system mode image) script in
    behind r.1 (all_settled marks image.processors r.0 (numbers_from 0 image.processors))
