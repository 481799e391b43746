-- What a delivery or a return comes to. Own words for what both specifications say of faults on the way.
use Rattle.std.specs.Prelude.{ℕ, ◌+◌, ◌-◌, ◌*◌, ◌^◌, ◌&&◌, ◌==◌, if◌then◌else◌, List, map, Option, Some, None}
use Rattle.ev_isa.specs.Word.{NatMap, wrap}
use Rattle.ev_event.specs.declared.event.Event.{Event}
use Rattle.ev_event.specs.Event.{is_hardware}
use Rattle.ev_effect.specs.Frame.{placed}
use Rattle.ev_state.specs.Processor.{Processor}

-- A delivery or a return: the processor and the words after it with the address of the frame, or the event that is met. In the second case only CR2 and,
-- at IRETQ, the blocking of NMIs have changed.
pub data Outcome : Type 0 where
  Went : Processor → NatMap ℕ → (frame : ℕ) → Outcome
  Met : Processor → Event → Outcome

-- a page fault leaves its address in CR2
abbrev pub with_cr2 : Processor → Event → Processor
with_cr2 c e = if is_hardware e.kind && (e.vector == 14) then record c { cr2 = e.info } else c

-- where so many words end at an address
abbrev pub below : ℕ → ℕ → ℕ
below a n = wrap (a + 2 ^ 64 - 8 * n)

-- the words can be written, or the first that can't, from the highest down, is met
abbrev pub frame_written : Processor → Processor → NatMap ℕ → ℕ → List ℕ → Option Event → Outcome
frame_written c c' words a frame None = Went c' (placed words a frame) a
frame_written c c' words a frame (Some e) = Met (with_cr2 c e) e

-- a return's words, from the lowest up, or the event of the first that can't be read
abbrev pub words_at : NatMap ℕ → List ℕ → List ℕ
words_at words as' = map words as'
