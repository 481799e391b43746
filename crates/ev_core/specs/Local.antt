-- What a step does to what belongs to its processor. Own.
use Rattle.std.specs.Prelude.{ℕ, suc, Bool, true, false, not, ◌||◌, ◌==◌, if◌then◌else◌, List, [], ◌∷◌, map, Option, Some, None}
use Rattle.ev_isa.specs.Word.{NatMap}
use Rattle.ev_event.specs.declared.frame_note.FrameNote.{FrameNote}
use Rattle.ev_effect.specs.Frame.{addresses}
use Rattle.ev_state.specs.Processor.{Processor}
use Rattle.ev_apic.specs.declared.send.Send.{Send}
use Rattle.ev_apic.specs.declared.send.Target.{Target}
use Rattle.ev_apic.specs.declared.send.Target.TheVariants.{One, Myself, All, Others}
use Rattle.ev_apic.specs.Inbox.{mailed, no_mail, with_mail}
use Rattle.ev_mem.specs.Memory.{Memory}
use Rattle.ev_trace.specs.FrameText.{Totals}
use Rattle.ev_proc.specs.declared.stepped.Stepped.{Stepped}
use Rattle.ev_concrete.specs.Opening.{opening_apic}
use Rattle.ev_concrete.specs.ConcreteRun.{System, lower, frame_size}
use Rattle.ev_core.specs.declared.local.Local.{Local}

-- the values of an option as a list
abbrev pub optional : {A : Type 0} → Option A → List A
optional None = []
optional (Some a) = a ∷ []

-- what belongs to a processor at the opening
abbrev pub start : Local
start = record { apic = opening_apic; latch = false; inbox = no_mail; depth = 0 }

-- what belongs to it behind its mail was accepted
abbrev pub accepted : Local → Local
accepted l = record l { apic = with_mail l.apic l.inbox; latch = l.latch || l.inbox.nmi; inbox = no_mail }

-- a system in which every processor is as this one, with no activation
abbrev pub still : Processor → Local → Memory → System
still c l m = record {
  cpus = λ p. c;
  apics = λ p. l.apic;
  latches = λ p. l.latch;
  inboxes = λ p. l.inbox;
  memory = m;
  totals = record { steps = 0; frames = 0; low = None };
  activations = λ p. [];
}

-- the totals after a step
abbrev pub counted : Totals → Stepped → Totals
counted t (Stepped.Delivered e (Some a)) = record { steps = suc t.steps; frames = suc t.frames; low = lower a t.low }
counted t (Stepped.Delivered e None) = record t { steps = suc t.steps }
counted t Stepped.Ran = record t { steps = suc t.steps }
counted t Stepped.Shutdown = record t { steps = suc t.steps }
counted t (Stepped.Sent m) = record t { steps = suc t.steps }

-- the frame that a step wrote, whose processor and words are these after it
abbrev pub frame_by : Processor → NatMap ℕ → Stepped → List FrameNote
frame_by c words (Stepped.Delivered e (Some a)) = record { address = a; words = record { items = map words (addresses a (frame_size c e)) } } ∷ []
frame_by c words (Stepped.Delivered e None) = []
frame_by c words Stepped.Ran = []
frame_by c words Stepped.Shutdown = []
frame_by c words (Stepped.Sent m) = []

-- ---- mail

abbrev pub is_target : Target → ℕ → ℕ → Bool
is_target (One t) p q = t == q
is_target Myself p q = q == p
is_target All p q = true
is_target Others p q = not (q == p)

-- what belongs to q after p sent this
abbrev pub after_send : Send → ℕ → ℕ → Local → Local
after_send m p q l = if is_target m.target p q then record l { inbox = mailed l.inbox m.key } else l

-- what belongs to q after this step of p
abbrev pub after_act : Stepped → ℕ → ℕ → Local → Local
after_act (Stepped.Sent m) p q l = after_send m p q l
after_act (Stepped.Delivered e frame) p q l = l
after_act Stepped.Ran p q l = l
after_act Stepped.Shutdown p q l = l
