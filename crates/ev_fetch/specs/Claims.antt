-- What is proved of fetching, as the contract of this crate states it.
use Rattle.std.specs.Prelude.{◌≡◌, ℕ, ◌+◌, ◌<◌, ◌≤◌, true, false, List, length, None}
use Rattle.std.specs.List.{list_all}
use Rattle.ev_isa.specs.Word.{NatMap, is_aligned}
use Rattle.ev_isa.specs.Pages.{text_base, text_word}
use Rattle.ev_isa.specs.Reading.{reading}
use Rattle.ev_isa.specs.declared.mode.Mode.{Mode}
use Rattle.ev_body.specs.declared.image.Image.{Image}
use Rattle.ev_body.specs.WellFormed.{IsImage}
use Rattle.ev_state.specs.Processor.{Processor}
use Rattle.ev_mem.specs.Memory.{Memory, page_fault}
use Rattle.ev_proc.specs.ProcessorStep.{instruction_at}
use Rattle.ev_proc.specs.Conditions.{IsInCode}
use Rattle.ev_abstract.specs.UserCode.{text_bytes}
use Rattle.ev_abstract.specs.Accepted.{IsAccepted}
use Rattle.ev_listing.specs.AddressMap.{fred_page}
use Rattle.ev_listing.specs.Marks.{all_places}
use Rattle.ev_concrete.specs.Opening.{listings, regions, code_word}
use Rattle.ev_concrete.specs.Opening as opening
use Rattle.ev_symbolic.specs.Listed.{Cells, cells_in, code_of}
use Rattle.ev_symbolic.specs.Machine.{Fetches}
use Rattle.ev_fetch.specs.Spelled.{AreSpelled, has_spelling}

-- the cells of the code of a mode and an image
abbrev pub kernel_cells : Mode → Image → Cells
kernel_cells mode image = cells_in (all_places (listings mode image)) (listings mode image)

-- the words from the first entry on hold the placed code
abbrev pub HoldsCode : Mode → Image → NatMap ℕ → Type 0
HoldsCode mode image words = (a : ℕ) → is_aligned a ≡ true → fred_page ≤ a → words a ≡ code_word (opening.code_of (listings mode image)) a

-- the words of the text's region hold the text, with zeros behind it
abbrev pub HoldsText : List ℕ → NatMap ℕ → Type 0
HoldsText text words = (a : ℕ) → is_aligned a ≡ true → text_base ≤ a → a < text_base + 0x10000 → words a ≡ text_word text a

-- The kernel fetches each cell's instruction at the cell's address.
abbrev pub KernelFetches : Type 0
KernelFetches = (mode : Mode) (image : Image) (m : Memory) → IsImage image → AreSpelled (kernel_cells mode image) → m.regions ≡ regions image
    → HoldsCode mode image m.words
    → Fetches (code_of (listings mode image)) m

-- User code fetches in the text, and reads the text's bytes.
abbrev pub TextFetches : Type 0
TextFetches = (image : Image) (m : Memory) → IsImage image → m.regions ≡ regions image → HoldsText image.text m.words → (a : ℕ) → text_base ≤ a
    → a < text_base + length image.text
    → (page_fault m (record { user = true; write = false; fetch = true }) a ≡ None) × (instruction_at m.words a ≡ reading (text_bytes image.text a))

-- What can be fetched lies in the text or in a region of the kernel, and these end far below the addresses that aren't canonical.
abbrev pub StaysInCode : Type 0
StaysInCode = (image : Image) (m : Memory) (c : Processor) → IsImage image → m.regions ≡ regions image → IsInCode c m

-- The cells of an image have spellings where the numbers of its items are in range.
abbrev pub BodiesAreSpelled : Type 0
BodiesAreSpelled = (mode : Mode) (image : Image) → IsImage image → list_all (has_spelling image.processors) image.bodies ≡ true
    → AreSpelled (kernel_cells mode image)

-- The cells of an accepted image have spellings.
abbrev pub AcceptedAreSpelled : Type 0
AcceptedAreSpelled = (mode : Mode) (image : Image) → IsImage image → IsAccepted image → AreSpelled (kernel_cells mode image)
