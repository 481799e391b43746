-- Accesses, and what comes of them. Own.
use Rattle.std.specs.Prelude.{ℕ, ◌^◌, Bool, ◌==◌, nat_lt, if◌then◌else◌, Option, Some, None, Result, Ok, Err}
use Rattle.ev_isa.specs.Word.{put_at}
use Rattle.ev_isa.specs.Pages.{Access, Place, Lower, Upper}
use Rattle.ev_mem.specs.declared.region.RegionKind.{RegionKind}
use Rattle.ev_mem.specs.declared.region.Who.{Who}
use Rattle.ev_mem.specs.declared.region.PageFault.{PageFault}
use Rattle.ev_mem.specs.Memory.{Memory, place_by}

-- the access of who reaches memory, to read or to write
abbrev pub access_of : Who → Bool → Access
access_of who write = record { user = who.cpl == 3; write = write; fetch = who.fetch }

-- the answer, unless there is a page fault
abbrev pub or_fault : {A : Type 0} → ℕ → Option ℕ → A → Result A PageFault
or_fault a None x = Ok x
or_fault a (Some code) x = Err (record { code = code; address = a })

-- memory with the word v at an address
abbrev pub with_word : Memory → ℕ → ℕ → Memory
with_word m a v = record m { words = put_at m.words a v }

-- a word is written under a condition
abbrev pub with_word_if : Bool → Memory → ℕ → ℕ → Memory
with_word_if b m a v = if b then with_word m a v else m

-- the place of an address by the kind of its region, if it has one
abbrev pub place_by_kind : ℕ → Option RegionKind → Place
place_by_kind a None = if nat_lt a (2 ^ 63) then Lower else Upper
place_by_kind a (Some kind) = place_by kind
