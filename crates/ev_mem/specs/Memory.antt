-- Memory of words with regions and page rules (own; SDM volume 3, 4.7 for the error code).
use Rattle.std.specs.Prelude.{ℕ, zero, suc, ◌+◌, ◌-◌, ◌*◌, ◌%◌, ◌^◌, Bool, false, ◌&&◌, nat_lt, nat_le, ◌==◌, if◌then◌else◌, List, [], ◌∷◌, ◌++◌, Option, take, drop}
use Rattle.std.specs.Int.{w64, to_le_bytes}
use Rattle.ev_isa.specs.Word.{NatMap, NatSet}
use Rattle.ev_isa.specs.Pages.{Place, KernelWord, Lower, Upper, Access, fault_at, View}
use Rattle.ev_mem.specs.declared.region.RegionKind.{RegionKind}
use Rattle.ev_mem.specs.declared.region.RegionKind.TheVariants.{Kernel}
use Rattle.ev_mem.specs.declared.region.Region.{Region}

-- The regions of memory, and its words by address.
pub record Memory : Type 0 where
  pub regions : List Region
  pub words : NatMap ℕ

-- the page map: page i is present where word i is 1
abbrev pub page_map : ℕ
page_map = 0xffff888000820000

-- the data pages that the page map says are present
abbrev pub present_in : Memory → NatSet
present_in m i = m.words (page_map + 8 * i) == 1

-- the place of user code that a region is, if it is one
abbrev pub place_by : RegionKind → Place
place_by RegionKind.Text = Place.Text
place_by (RegionKind.Page i) = Place.Page i
place_by Kernel = KernelWord

-- the place of an address: that of its region, if it has one
abbrev pub place_in : List Region → ℕ → Place
place_in [] a = if nat_lt a (2 ^ 63) then Lower else Upper
place_in (r ∷ rs) a = if nat_le r.base a && nat_lt a (r.base + 8 * r.words) then place_by r.kind else place_in rs a

-- the error code of the page fault of an access
abbrev pub page_fault : Memory → Access → ℕ → Option ℕ
page_fault m access a = fault_at (present_in m) access (place_in m.regions a)

-- an access to data
abbrev pub data_access : Bool → Bool → Access
data_access user write = record { user = user; write = write; fetch = false }

-- how code of a privilege sees the memory
abbrev pub view : Memory → Bool → View
view m user = record { fault = λ write a. page_fault m (data_access user write) a; words = m.words }

-- the eight bytes from an address on, which need not be aligned; the fifteen from there on
abbrev pub bytes_on : NatMap ℕ → ℕ → ℕ → List ℕ
bytes_on words a zero = []
bytes_on words a (suc n) = to_le_bytes w64 (words a) ++ bytes_on words (a + 8) n

-- the fifteen bytes from an address on, as many as an instruction has at most
unfoldable pub code_bytes : NatMap ℕ → ℕ → List ℕ
code_bytes words a = take 15 (drop (a % 8) (bytes_on words (a - a % 8) 3))
