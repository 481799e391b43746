-- What is proved of all probe lines, as the contract of a public function states it.
use Rattle.std.specs.Prelude.{◌≡◌, ◌≤◌, ◌<◌, ◌^◌, ◌&&◌, ◌==◌, not, Bool, true, false, ℕ, List, flat_map, if◌then◌else◌, Ok, Err}
use Rattle.std.specs.Int.{w64, to_le_bytes}
use Rattle.ev_io.specs.declared.cause.Cause.{Cause}
use Rattle.ev_io.specs.InputLines.{lines_of}
use Rattle.ev_event.specs.declared.event.Event.{Event}
use Rattle.ev_event.specs.Event.{has_error_code, is_hardware, is_nmi_type, type_number}
use Rattle.ev_frame.specs.declared.frame.Frame64.{Frame64}
use Rattle.ev_frame.specs.Frame.{read_frame}
use Rattle.ev_state.specs.Processor.{Processor, rsp}
use Rattle.ev_fred.specs.FredDelivery.{fred_frame, has_length, is_software}
use Rattle.ev_probe.specs.declared.line.ProbeLine.{ProbeLine}
use Rattle.ev_probe.specs.ProbeLine.{event_of, is_allowed, is_return}
use Rattle.ev_probe.specs.Probe.{probe_cpu, probe_memory, report}
use Rattle.ev_probe.specs.Answer.{probe_of, told_of}
use Rattle.ev_probe.specs.Input.{input_text, read_line}

-- No delivery is tried more than four times: where more tries are allowed the same is told of each line.
abbrev pub FourTriesSuffice : Type 0
FourTriesSuffice = (l : ProbeLine) → is_allowed l.mode l.op l.values ≡ true → is_return l.op ≡ false → (n : ℕ) → 4 ≤ n
    → report n (probe_cpu (probe_of l)) (probe_memory (probe_of l)) (event_of l.values) false ≡ told_of l

-- the fields of the frame that FRED delivery writes
abbrev pub frame_of : Processor → Event → Bool → Frame64
frame_of c e nested = record {
  error = if is_hardware e.kind && has_error_code e.vector then e.error else 0;
  rip = c.rip;
  flags = c.flags;
  rsp = rsp c;
  info = e.info;
  cs = c.cs;
  ss = c.ss;
  old_level = c.level;
  vector = e.vector;
  kind = type_number e.kind;
  length = if has_length e.kind then e.length else 0;
  wfe = false;
  sti = c.sti_blocked;
  software = is_software e.kind;
  nmi = is_nmi_type e.kind;
  enclave = false;
  long = true;
  nested = nested && not (is_hardware e.kind && (e.vector == 8));
}

-- a processor and an event whose fields are within their widths
pub record AreWithin (c : Processor) (e : Event) : Type 0 where
  pub rip : c.rip < 2 ^ 64
  pub flags : c.flags < 2 ^ 64
  pub rsp : rsp c < 2 ^ 64
  pub cs : c.cs < 2 ^ 16
  pub ss : c.ss < 2 ^ 16
  pub level : c.level < 4
  pub error : e.error < 2 ^ 64
  pub info : e.info < 2 ^ 64
  pub vector : e.vector < 2 ^ 8
  pub length : e.length < 16

-- The eight words that FRED delivery writes, as bytes, are read as the frame of the event: no reserved bit is set, and each field is where it is read.
abbrev pub FredFramesAreRead : Type 0
FredFramesAreRead = (c : Processor) (e : Event) (nested : Bool) → AreWithin c e
    → read_frame (flat_map (to_le_bytes w64) (fred_frame c e nested)) ≡ Ok (frame_of c e nested)

-- An input of which a line doesn't follow has no text: it is refused with that line and its cause.
abbrev pub RefusedInputsHaveNoText : Type 0
RefusedInputsHaveNoText = (bytes : List ℕ) (refusal : ℕ × Cause) → read_line 0 0 (lines_of bytes) ≡ Err refusal → input_text bytes ≡ Err refusal
