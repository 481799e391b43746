-- The words of a frame: their addresses, the memory that holds them, and the event of the first that can't be accessed. Own.
use Rattle.std.specs.Prelude.{ℕ, zero, suc, ◌+◌, Bool, List, [], ◌∷◌, Option, Some, None}
use Rattle.ev_isa.specs.Word.{NatMap, put_at, wrap}
use Rattle.ev_isa.specs.Pages.{View}
use Rattle.ev_event.specs.declared.event.Event.{Event}
use Rattle.ev_event.specs.Event.{ss}
use Rattle.ev_effect.specs.Effect.{access_event}

-- the addresses of so many words from an address on, from the lowest up
abbrev pub addresses : ℕ → ℕ → List ℕ
addresses a zero = []
addresses a (suc n) = a ∷ addresses (wrap (a + 8)) n

-- the memory with these words from an address on
abbrev pub placed : NatMap ℕ → ℕ → List ℕ → NatMap ℕ
placed words a [] = words
placed words a (w ∷ ws) = placed (put_at words a w) (wrap (a + 8)) ws

-- the first of two events
abbrev pub or_else : Option Event → Option Event → Option Event
or_else None e = e
or_else (Some d) e = Some d

-- the first event among accesses of the kernel to the words at these addresses
abbrev pub first_event : View → Bool → List ℕ → Option Event
first_event v write [] = None
first_event v write (a ∷ rest) = or_else (access_event v write (ss 0) a) (first_event v write rest)
