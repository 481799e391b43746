-- What a report tells. Own.
use Rattle.std.specs.Prelude.{ℕ, List, ◌++◌, Option, Some, None}
use Rattle.std.specs.Option.{option_map}
use Rattle.ev_event.specs.declared.event.Event.{Event}
use Rattle.ev_state.specs.Processor.{Processor}
use Rattle.ev_event.specs.declared.frame_note.FrameNote.{FrameNote}
use Rattle.ev_probe.specs.declared.report.Try.{Try}
use Rattle.ev_probe.specs.declared.report.ProbeEnd.{ProbeEnd}
use Rattle.ev_probe.specs.declared.report.Report.{Report}

-- the deliveries that are tried, in their order, the frame of the last, which has an address and words, and what comes in the end
pub record Told : Type 0 where
  pub tries : List Try
  pub frame : Option (ℕ × List ℕ)
  pub end : ProbeEnd

-- a frame by its address and its words, from the lowest up
abbrev pub noted : FrameNote → ℕ × List ℕ
noted f = (f.address, f.words.items)

-- what a report tells
abbrev pub told : Report → Told
told r = record { tries = r.tries.items; frame = option_map noted r.frame; end = r.end }

-- what is told of an event that is tried or raised
abbrev pub try_of : Event → Try
try_of e = record { vector = e.vector; error = e.error }

-- the end of a delivery that wrote this frame, by the processor after it: no frame is shutdown
abbrev pub end_by : Option FrameNote → Processor → ProbeEnd
end_by None c = ProbeEnd.Shutdown
end_by (Some f) c = ProbeEnd.State c

-- what is told of tries, the frame and the processor after them
abbrev pub told_by : List Try → Option FrameNote → Processor → Told
told_by tries frame c = record { tries = tries; frame = option_map noted frame; end = end_by frame c }

-- what is told, behind other tries
abbrev pub behind : List Try → Told → Told
behind tries r = record r { tries = tries ++ r.tries }
