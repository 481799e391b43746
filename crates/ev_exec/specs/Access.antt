-- The tests of an address before its page. Own.
use Rattle.std.specs.Prelude.{ℕ, not, if◌then◌else◌, Option, Some, None}
use Rattle.ev_isa.specs.Word.{is_canonical, is_aligned}
use Rattle.ev_event.specs.declared.event.Event.{Event}
use Rattle.ev_event.specs.Event.{ac}

abbrev pub address_event : Event → ℕ → Option Event
address_event bad a = if not (is_canonical a) then Some bad else (if not (is_aligned a) then Some ac else None)
