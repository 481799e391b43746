-- What is answered to a probe line. Own.
use Rattle.std.specs.Prelude.{◌≡◌, ℕ, ◌==◌, false, List, [], if◌then◌else◌, Result, Err}
use Rattle.ev_event.specs.declared.event.Event.{Event}
use Rattle.ev_io.specs.declared.cause.Cause.{Cause}
use Rattle.ev_io.specs.Tokens.{tokens_of}
use Rattle.ev_line.specs.Operands.{then_make}
use Rattle.ev_state.specs.Processor.{Processor}
use Rattle.ev_mem.specs.Memory.{Memory}
use Rattle.ev_idt.specs.IdtDelivery.{iretq}
use Rattle.ev_fred.specs.FredDelivery.{eretu, erets}
use Rattle.ev_probe.specs.declared.probing.ProbeFault.{ProbeFault}
use Rattle.ev_probe.specs.declared.line.Op.{Op}
use Rattle.ev_probe.specs.declared.line.ProbeLine.{ProbeLine}
use Rattle.ev_probe.specs.ProbeLine.{event_of, is_return, probe_line}
use Rattle.ev_probe.specs.Told.{Told}
use Rattle.ev_abstract.specs.EntryText.{Text}
use Rattle.ev_probe.specs.Probe.{Probe, probe_cpu, probe_memory, report, report_text, returned}

-- the words of a return
abbrev pub words_by : Op → List ℕ → List ℕ
words_by op words = if is_return op then words else []

-- the state at first
unfoldable pub probe_of : ProbeLine → Probe
probe_of l = record {
  mode = l.mode;
  cpl = l.values.cpl;
  rip = l.values.rip;
  flags = l.values.flags;
  rsp = l.values.rsp;
  level = l.values.level;
  sti = l.values.sti == 1;
  nmi = l.values.nmi == 1;
  stklvls = l.values.stklvls;
  bad = l.values.bad;
  words = words_by l.op l.values.words;
}

-- what comes of an operation on a processor and a memory
unfoldable pub told_from : Op → Processor → Memory → Event → Told
told_from Op.Deliver c m e = report 4 c m e false
told_from Op.Iretq c m e = returned (iretq c m)
told_from Op.Eretu c m e = returned (eretu c m)
told_from Op.Erets c m e = returned (erets c m)

-- what comes of a line
unfoldable pub told_of : ProbeLine → Told
told_of l = told_from l.op (probe_cpu (probe_of l)) (probe_memory (probe_of l)) (event_of l.values)

-- what comes of the line that a text says, or the text's cause
unfoldable pub answer_to : List ℕ → Result Told Cause
answer_to text = then_make told_of (probe_line (tokens_of text))

-- a fault with its cause; that memory was refused is free
abbrev pub Refuses : {X : Type 0} → Result X Cause → ProbeFault → Type 0
Refuses answer (ProbeFault.BadLine cause) = answer ≡ Err cause
Refuses answer ProbeFault.NoMemory = Unit {0}

-- the text that is printed for a line, or its cause
unfoldable pub probe_text : List ℕ → Result Text Cause
probe_text text = then_make report_text (answer_to text)
