-- What blocks are made of: grounds over forms of windows, the words of an activation's three layouts, and how one block goes on in the next. Own.
use Rattle.std.specs.Prelude.{ℕ, ◌-◌, Bool, List, [], ◌∷◌, ◌++◌}
use Rattle.ev_listing.specs.AddressMap.{fred_page, code_end}
use Rattle.ev_symbolic.specs.Value.{M, V, K, X, B, OAdd, OShl, Fact}
use Rattle.ev_symbolic.specs.State.{Word, SS, Win, Line, Ground, Block, top_tag, absolute_tag}
use Rattle.ev_symbolic.specs.Openings.{win_at, words_from}
use Rattle.ev_symbolic.specs.Names.{item_tag, error, frame_rip, frame_cs, frame_flags, frame_rsp, frame_ss, information, frame_end, key, saved, other_gs, gs_selector, level_rsp, top_less}
use Rattle.ev_distances.specs.Form.{Form, OnStack, Stretch, wins_of}

-- what an event interrupted: code of a task, or code of the kernel
pub data Origin : Type 0 where
  UserCode KernelCode : Origin

-- the privilege level in its CS
abbrev pub ring : Origin → ℕ
ring UserCode = 3
ring KernelCode = 0

-- The layout of what an activation has on its stack: FRED's frame with the saved area below it, that of a vector's entry or of SYSCALL under IDT, and
-- that of the NMI code under IDT.
pub data Layout : Type 0 where
  FredFrame IdtFrame NmiFrame : Layout

-- ---- windows and grounds

-- the forms of a block's windows: where its known words lie, and what it writes of these; what others may write it never touches
pub record Forms : Type 0 where
  pub known : List Form
  pub own : List Form

-- windows that a block knows and writes
abbrev pub private : List Form → Forms
private fs = record { known = fs; own = fs }

-- so many bytes from the top of the frame down to the RSP of the body
abbrev pub body_bytes : Layout → ℕ
body_bytes FredFrame = 0xc0
body_bytes IdtFrame = 0xb0
body_bytes NmiFrame = 0x118

-- The NMI code leaves 28H bytes for the return frame, and the 38H bytes below the top for an inner NMI.
abbrev pub body_forms : Layout → List Form
body_forms NmiFrame = Stretch 0x118 0x88 ∷ Stretch 0x68 0x30 ∷ []
body_forms layout = OnStack (body_bytes layout) ∷ []

-- the kernel's code
abbrev pub kernel_text : List Win
kernel_text = win_at absolute_tag fred_page (code_end - fred_page) ∷ []

-- the code of an item, which it may jump in
abbrev pub item_text : List Win
item_text = win_at item_tag 0 0x100 ∷ []

-- a ground over these windows, which loads no descriptor and sets no RSP
abbrev pub ground_over : Bool → List Win → Forms → List Fact → Ground
ground_over fred text forms facts = record {
  known = wins_of forms.known;
  own = wins_of forms.own;
  shared = [];
  text = text;
  facts = facts;
  descriptors = [];
  tops = [];
  fred = fred;
}

-- a block over this
abbrev pub over : (ground : Ground) → List Line → SS → ℕ → Block
over g lines opening steps = record { ground = g; lines = lines; opening = opening; steps = steps }

-- ---- words

-- registers 15 down to 0 without RSP, as the saved area has them from its lowest word up
abbrev pub area_of : (ℕ → V) → List V
area_of f = f 15 ∷ f 14 ∷ f 13 ∷ f 12 ∷ f 11 ∷ f 10 ∷ f 9 ∷ f 8 ∷ f 7 ∷ f 6 ∷ f 5 ∷ f 3 ∷ f 2 ∷ f 1 ∷ f 0 ∷ []

-- sixteen registers, of which RSP is told
abbrev pub registers_of : (ℕ → V) → V → List V
registers_of f rsp = f 0 ∷ f 1 ∷ f 2 ∷ f 3 ∷ rsp ∷ f 5 ∷ f 6 ∷ f 7 ∷ f 8 ∷ f 9 ∷ f 10 ∷ f 11 ∷ f 12 ∷ f 13 ∷ f 14 ∷ f 15 ∷ []

-- words from so far below the top of the frame on
abbrev pub from_top : ℕ → List V → List Word
from_top n vs = words_from top_tag (M - n) vs

-- the five words of the interrupted code
abbrev pub interrupted : List V
interrupted = frame_rip ∷ frame_cs ∷ frame_flags ∷ frame_rsp ∷ frame_ss ∷ []

-- FRED's frame
abbrev pub fred_frame : List V
fred_frame = error ∷ interrupted ++ information ∷ frame_end ∷ []

-- the saved area with the variables of its own
abbrev pub saved_area : List V
saved_area = area_of saved

-- what stands while a body runs
abbrev pub body_words : Layout → List Word
body_words FredFrame = from_top 0xc0 saved_area ++ from_top 0x40 fred_frame
body_words IdtFrame = from_top 0xb0 (saved_area ++ key ∷ error ∷ interrupted)
body_words NmiFrame = from_top 0x118 (saved_area ++ K 2 ∷ K 0 ∷ []) ++ from_top 0x68 (interrupted ++ K 1 ∷ [])

-- the five words of the interrupted code, where a return reads them or the NMI code keeps them
abbrev pub interrupted_words : Layout → List Word
interrupted_words FredFrame = from_top 0x38 interrupted
interrupted_words IdtFrame = from_top 0x28 interrupted
interrupted_words NmiFrame = from_top 0x68 interrupted

-- ---- from block to block

-- The variables of the next block: registers, the frame's words with the key and the word that tells of a running body, the saved area, and
-- the other GS base, the selector, CR2 and RSP of level 0.
abbrev pub values : List V → List V → List V → V → List V
values regs frame area cr2 =
    regs ++ frame ++ K 0 ∷ K 0 ∷ K 0 ∷ K 0 ∷ area
    ++ K 0 ∷ K 0 ∷ K 0 ∷ K 0 ∷ K 0 ∷ K 0 ∷ K 0 ∷ K 0 ∷ K 0 ∷ K 0 ∷ K 0 ∷ K 0 ∷ K 0 ∷ K 0 ∷ other_gs ∷ gs_selector ∷ cr2 ∷ level_rsp ∷ []

-- the registers as the event found them, RSP aside
abbrev pub found_registers : List V
found_registers = registers_of (λ r. X r) (K 0)

-- the same with RSP
abbrev pub as_found : V → List V
as_found rsp = registers_of (λ r. X r) rsp

-- what the saved area gives them, RSP aside
abbrev pub same_saved : List V
same_saved = registers_of saved (K 0)

-- and as SYSCALL leaves them, with RIP and the flags in RCX and R11
abbrev pub called_registers : V → V → List V
called_registers rip flags = X 0 ∷ rip ∷ X 2 ∷ X 3 ∷ K 0 ∷ X 5 ∷ X 6 ∷ X 7 ∷ X 8 ∷ X 9 ∷ X 10 ∷ flags ∷ X 12 ∷ X 13 ∷ X 14 ∷ X 15 ∷ []

-- the registers of a body's beginning: RAX to RDX, RSI, RDI and R8 are told
abbrev pub at_load : ℕ → (rax rcx rdx rsi rdi r8 : V) → List V
at_load bytes rax rcx rdx rsi rdi r8 =
    rax ∷ rcx ∷ rdx ∷ X 3 ∷ top_less bytes ∷ X 5 ∷ rsi ∷ rdi ∷ r8 ∷ K 0 ∷ K 0 ∷ K 0 ∷ K 0 ∷ K 0 ∷ K 0 ∷ X 15 ∷ []

-- the place of a key's word in a table
abbrev pub place_in : ℕ → V → V
place_in table v = B OAdd (B OShl v (K 3)) (K table)

-- the ten variables of the frame: its words, the key, and what tells of a running body
abbrev pub frame_of : (error rip cs flags rsp ss information key running : V) → List V
frame_of error rip cs flags rsp ss information key running =
    error ∷ rip ∷ cs ∷ flags ∷ rsp ∷ ss ∷ information ∷ frame_end ∷ key ∷ running ∷ []
