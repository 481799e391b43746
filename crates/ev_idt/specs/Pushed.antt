-- What it means to push words. Own.
use Rattle.std.specs.Prelude.{◌≡◌, true, ℕ, List, length, reverse, Option, Some, None, Result, Ok, Err}
use Rattle.ev_event.specs.declared.event.Event.{Event}
use Rattle.ev_effect.specs.Frame.{addresses, first_event, placed}
use Rattle.ev_state.specs.Outcome.{below}
use Rattle.ev_mem.specs.Memory.{Memory}
use Rattle.ev_words.specs.Answer.{kernel_view}

-- the event of the first word, from the highest down, that can't be written so that the words end at an address
abbrev pub push_event : Memory → ℕ → List ℕ → Option Event
push_event m end words = first_event (kernel_view m) true (reverse (addresses (below end (length words)) (length words)))

-- words were pushed so that they end at an address, or an event was met
abbrev pub Pushed : Memory → Memory → ℕ → List ℕ → Result ℕ Event → Type 0
Pushed old new end words (Ok a) = (a ≡ below end (length words)) × (push_event old end words ≡ None) × (new ≡ record old { words = placed old.words a words })
Pushed old new end words (Err e) = push_event old end words ≡ Some e
