-- Names of the bases and variables that all blocks share, facts about them, and openings in them. Own.
use Rattle.std.specs.Prelude.{ℕ, ◌+◌, ◌-◌, List}
use Rattle.ev_symbolic.specs.Value.{M, V, K, P, X, B, OAnd, OLess, OSame, OSub, Fact}
use Rattle.ev_symbolic.specs.State.{Word, SS, top_tag}
use Rattle.ev_symbolic.specs.Openings.{gs_tag, opening}

-- ---- bases, beside the top of the frame (`top_tag`) and the area of the processor (`gs_tag`)

-- the words of the current task, and those of the task that it is switched to
abbrev pub task_tag : ℕ
task_tag = 18

-- those of the task that it is switched to
abbrev pub next_task_tag : ℕ
next_task_tag = 19

-- an item of a body
abbrev pub item_tag : ℕ
item_tag = 20

-- the top of the stack of the task that is switched to
abbrev pub next_top_tag : ℕ
next_top_tag = 21

-- a call record
abbrev pub record_tag : ℕ
record_tag = 22

-- the entry of a vector
abbrev pub stub_tag : ℕ
stub_tag = 23

-- ---- variables: 0 to 15 are the registers at the opening

-- the frame, from the lowest word up; under IDT without the last two
abbrev pub error : V
error = X 16

-- RIP
abbrev pub frame_rip : V
frame_rip = X 17

-- CS, under FRED with the stack level above it
abbrev pub frame_cs : V
frame_cs = X 18

-- RFLAGS
abbrev pub frame_flags : V
frame_flags = X 19

-- RSP
abbrev pub frame_rsp : V
frame_rsp = X 20

-- SS, under FRED with what it tells of the event above it
abbrev pub frame_ss : V
frame_ss = X 21

-- the event data
abbrev pub information : V
information = X 22

-- the last word of FRED's frame, which is 0
abbrev pub frame_end : V
frame_end = X 23

-- the key of the event, as a vector's entry pushes it
abbrev pub key : V
key = X 24

-- the word that tells whether an NMI's body runs
abbrev pub running : V
running = X 25

-- what the saved area gives register r
abbrev pub saved : ℕ → V
saved r = X (30 + r)

-- the GS base that isn't in use, the selector in GS, CR2, and RSP of level 0
abbrev pub other_gs : V
other_gs = X 60

-- the selector in GS
abbrev pub gs_selector : V
gs_selector = X 61

-- CR2
abbrev pub fault_address : V
fault_address = X 62

-- RSP of level 0
abbrev pub level_rsp : V
level_rsp = X 63

-- of the task that is switched to: its selector and GS base, the words above its saved area, and that area
abbrev pub next_selector : V
next_selector = X 50

-- its GS base
abbrev pub next_gs : V
next_gs = X 51

-- the key in its area
abbrev pub next_key : V
next_key = X 52

-- the error code in its area
abbrev pub next_error : V
next_error = X 53

-- its RIP
abbrev pub next_rip : V
next_rip = X 54

-- its CS
abbrev pub next_cs : V
next_cs = X 55

-- its RFLAGS
abbrev pub next_flags : V
next_flags = X 56

-- its RSP
abbrev pub next_rsp : V
next_rsp = X 57

-- its SS
abbrev pub next_ss : V
next_ss = X 58

-- what its saved area gives register r
abbrev pub next_saved : ℕ → V
next_saved r = X (70 + r)

-- ---- facts: which way a path goes

-- a value is a number
abbrev pub says : V → ℕ → Fact
says v n = record { val = v; is = n }

-- whether a value is 0, is a number, or is below it: 1 where it is so
abbrev pub says_zero : V → ℕ → Fact
says_zero v n = says (B OSame v (K 0)) n

-- whether a value is the number k
abbrev pub says_same : V → ℕ → ℕ → Fact
says_same v k n = says_zero (B OSub v (K k)) n

-- whether a value is below the number k
abbrev pub says_below : V → ℕ → ℕ → Fact
says_below v k n = says (B OLess v (K k)) n

-- the privilege level of what was interrupted: 3 or 0
abbrev pub says_ring : ℕ → Fact
says_ring n = says (B OAnd frame_cs (K 3)) n

-- ---- openings

-- so far below the top of the frame
abbrev pub top_less : ℕ → V
top_less n = P top_tag (M - n)

-- at an address, with RSP so far below the top; GS is the kernel's, and RSP of level 0 a variable
abbrev pub opens : ℕ → V → List Word → SS
opens a rsp words = record (opening a rsp words) { rsp0 = level_rsp }

-- the same before the bases of GS are exchanged
abbrev pub opens_in_user_gs : ℕ → V → List Word → SS
opens_in_user_gs a rsp words = record (opens a rsp words) { gs = other_gs; kernel_gs = P gs_tag 0 }
