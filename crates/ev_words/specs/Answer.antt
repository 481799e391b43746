-- What the calls of deliveries and returns answer, as outcomes. Own.
use Rattle.std.specs.Prelude.{ℕ, false, List, [], ◌∷◌, Result, Ok, Err}
use Rattle.ev_isa.specs.Word.{NatMap}
use Rattle.ev_isa.specs.Pages.{View}
use Rattle.ev_event.specs.declared.event.Event.{Event}
use Rattle.ev_state.specs.Processor.{Processor}
use Rattle.ev_state.specs.Outcome.{Outcome, Went, Met}
use Rattle.ev_mem.specs.Memory.{Memory, view}
use Rattle.ev_words.specs.declared.words.ReturnWords.{ReturnWords}

-- A delivery that answers the frame's address has led to the processor and the words after it, and one that answers an event has met it.
abbrev pub delivery_of : Result ℕ Event → Processor → NatMap ℕ → Outcome
delivery_of (Ok frame) c words = Went c words frame
delivery_of (Err e) c words = Met c e

-- the same of a return, which makes no frame
abbrev pub return_of : Result (Unit {0}) Event → Processor → NatMap ℕ → Outcome
return_of (Ok done) c words = Went c words 0
return_of (Err e) c words = Met c e

-- how the kernel sees memory
abbrev pub kernel_view : Memory → View
kernel_view m = view m false

-- the words of a return, from the lowest up
abbrev pub listed : ReturnWords → List ℕ
listed w = w.rip ∷ w.cs ∷ w.flags ∷ w.rsp ∷ w.ss ∷ []
