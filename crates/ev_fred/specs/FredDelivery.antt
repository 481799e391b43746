-- FRED event delivery and returns (FRED specification, chapters "FRED event delivery" and "FRED return instructions", in the project's profile).
use Rattle.std.specs.Prelude.{ℕ, ◌+◌, ◌-◌, ◌*◌, ◌/◌, ◌%◌, ◌^◌, Bool, true, false, not, ◌&&◌, ◌||◌, nat_lt, nat_le, ◌==◌, if◌then◌else◌, List, [], ◌∷◌, reverse, get_or, Option, Some, None, max}
use Rattle.ev_isa.specs.Word.{NatMap, bit, bit_if, wrap, is_canonical}
use Rattle.ev_isa.specs.Flags.{modelled}
use Rattle.ev_event.specs.declared.event.EventType.{EventType}
use Rattle.ev_event.specs.declared.event.Event.{Event}
use Rattle.ev_event.specs.declared.event.EventType.TheVariants.{External, SoftInt, Int1, Int3, Other}
use Rattle.ev_event.specs.Event.{type_number, gp, has_error_code, is_hardware, is_nmi_type}
use Rattle.ev_state.specs.Msr.{Msrs}
use Rattle.ev_state.specs.Processor.{Processor, is_user, rsp, with_rsp, gs_exchanged, selector}
use Rattle.ev_mem.specs.Memory.{Memory, view}
use Rattle.ev_effect.specs.Frame.{addresses, first_event}
use Rattle.ev_state.specs.Outcome.{Outcome, Went, Met, with_cr2, frame_written, below, words_at}
use Rattle.ev_frame.specs.Config.{level_of}
use Rattle.ev_state.specs.Descriptors.{base_of}

-- ---- CONFIG and STKLVLS

-- IA32_FRED_CONFIG: the page of the entries, whose first is for events from ring 3
abbrev pub handler_page : ℕ → ℕ
handler_page config = config - config % 2 ^ 12

-- bits 10:9: the stack level of external interrupts
abbrev pub interrupt_level : ℕ → ℕ
interrupt_level config = config / 2 ^ 9 % 4

-- bits 8:6, in units of 64: how far RSP goes down on the same stack, in bytes
abbrev pub decrement : ℕ → ℕ
decrement config = config / 2 ^ 6 % 8 * 64

-- ---- the stack

-- the stack level of an event: that of interrupts by CONFIG, and of all else by its vector in STKLVLS
abbrev pub event_level : Msrs → EventType → ℕ → ℕ
event_level m External vector = interrupt_level m.config
event_level m _ vector = level_of m.stklvls vector

-- the new level: 0 from ring 3, but for #DF and for exceptions met during delivery, else the greater of the present and the event's
abbrev pub new_level : Processor → Event → Bool → ℕ
new_level c e nested =
    if is_user c && not nested && not (is_hardware e.kind && (e.vector == 8)) then 0 else max c.level (event_level c.msrs e.kind e.vector)

-- RSP before the frame: the top of the new stack from ring 3 and where the level rises, else RSP down by the decrement and aligned to 64
abbrev pub frame_top : Processor → ℕ → ℕ
frame_top c level =
    if is_user c || nat_lt c.level level then get_or c.msrs.rsp level 0
    else (let a : ℕ = wrap (rsp c + 2 ^ 64 - decrement c.msrs.config) in a - a % 64)

-- ---- the frame

-- events of instructions that raise them on purpose: bit 17 of the SS word
abbrev pub is_software : EventType → Bool
is_software SoftInt = true
is_software Other = true
is_software _ = false

-- events whose frame tells the length of the instruction
abbrev pub has_length : EventType → Bool
has_length SoftInt = true
has_length Int1 = true
has_length Int3 = true
has_length Other = true
has_length _ = false

-- The word of SS: selector, STI blocking, SYSCALL or INT n, NMI, vector, type, 64-bit mode, nested exception, length.
unfoldable pub ss_word : Processor → Event → Bool → ℕ
ss_word c e nested =
    c.ss + bit_if 16 c.sti_blocked + bit_if 17 (is_software e.kind) + bit_if 18 (is_nmi_type e.kind) + 2 ^ 32 * e.vector + 2 ^ 48 * type_number e.kind
    + 2 ^ 57 + bit_if 58 (nested && not (is_hardware e.kind && (e.vector == 8))) + (if has_length e.kind then 2 ^ 60 * e.length else 0)

-- from the lowest word up
abbrev pub fred_frame : Processor → Event → Bool → List ℕ
fred_frame c e nested =
    (if is_hardware e.kind && has_error_code e.vector then e.error else 0)
    ∷ c.rip ∷ (c.cs + 2 ^ 16 * c.level) ∷ c.flags ∷ rsp c ∷ ss_word c e nested ∷ e.info ∷ 0 ∷ []

-- GS bases are exchanged where ring 3 is left
abbrev pub exchanged_if : Bool → Processor → Processor
exchanged_if b c = if b then gs_exchanged c else c

-- the processor at the entry, with RSP at the frame
abbrev pub in_fred_handler : Processor → Event → ℕ → ℕ → Processor
in_fred_handler c e level frame = record (with_rsp (exchanged_if (is_user c) c) frame) {
  rip = handler_page c.msrs.config + (if is_user c then 0 else 0x100);
  cs = 0x10;
  ss = 0x18;
  cpl = 0;
  flags = 2;
  level = level;
  nmi_blocked = c.nmi_blocked || is_nmi_type e.kind;
  sti_blocked = false;
}

-- Delivery of an event, which is nested where it was met during a delivery. RIP is the one that is saved.
unfoldable pub fred_delivery : Processor → Memory → Event → Bool → Outcome
fred_delivery c m e nested =
    let c' : Processor = with_cr2 c e in
    let level : ℕ = new_level c' e nested in
    let a : ℕ = below (frame_top c' level) 8 in
    frame_written c' (in_fred_handler c' e level a) m.words a (fred_frame c' e nested) (first_event (view m false) true (reverse (addresses a 8)))

-- ---- returns: words 1 to 5 of the frame at RSP

-- what both returns restore; the frame of an NMI ends the blocking of NMIs
abbrev pub fred_returned : Processor → ℕ → ℕ → ℕ → ℕ → Processor
fred_returned c rip flags rsp ss = record (with_rsp c rsp) {
  rip = rip;
  flags = modelled flags;
  nmi_blocked = c.nmi_blocked && not (bit 18 ss);
  sti_blocked = bit 16 ss;
}

-- ERETU, from level 0 to ring 3: GS bases are exchanged back; #GP(0) where the words are not of such a return
abbrev pub eretu_words : Processor → NatMap ℕ → List ℕ → Outcome
eretu_words c words (rip ∷ cs ∷ flags ∷ rsp ∷ ss ∷ []) =
    if (c.level == 0) && is_canonical rip && (selector cs == 0x33) && (selector ss == 0x2b)
    then Went (record (gs_exchanged (fred_returned c rip flags rsp ss)) { cs = 0x33; ss = 0x2b; cpl = 3 }) words 0
    else Met c (gp 0)
eretu_words c words _ = Met c (gp 0)

-- ERETS, to ring 0 on the saved level, which is not above the present one; #GP(0) where the words are not of such a return
abbrev pub erets_words : Processor → NatMap ℕ → List ℕ → Outcome
erets_words c words (rip ∷ cs ∷ flags ∷ rsp ∷ ss ∷ []) =
    if nat_le (cs / 2 ^ 16 % 4) c.level && is_canonical rip && (selector cs == 0x10)
    then Went (record (fred_returned c rip flags rsp ss) { level = cs / 2 ^ 16 % 4 }) words 0
    else Met c (gp 0)
erets_words c words _ = Met c (gp 0)

-- a return by words that can be read, or the event of the first that cannot
abbrev pub frame_read : Processor → (List ℕ → Outcome) → NatMap ℕ → List ℕ → Option Event → Outcome
frame_read c return words as' None = return (words_at words as')
frame_read c return words as' (Some e) = Met (with_cr2 c e) e

-- the addresses of RIP, CS, RFLAGS, RSP and SS: the error code below them is passed over
abbrev pub return_addresses : Processor → List ℕ
return_addresses c = addresses (wrap (rsp c + 8)) 5

-- ERETU (FRED specification, "ERETU")
unfoldable pub eretu : Processor → Memory → Outcome
eretu c m = frame_read c (eretu_words c m.words) m.words (return_addresses c) (first_event (view m false) false (return_addresses c))

-- ERETS (FRED specification, "ERETS")
unfoldable pub erets : Processor → Memory → Outcome
erets c m = frame_read c (erets_words c m.words) m.words (return_addresses c) (first_event (view m false) false (return_addresses c))

-- ---- LKGS: the selector's base goes into the kernel GS base

-- a selector without a descriptor is #GP of it
abbrev pub with_kernel_gs : Processor → NatMap ℕ → ℕ → Option ℕ → Outcome
with_kernel_gs c words s None = Met c (gp s)
with_kernel_gs c words s (Some base) = Went (record c { gs = s; msrs = record c.msrs { kernel_gs_base = base } }) words 0

-- LKGS (FRED specification, "LKGS")
unfoldable pub lkgs : Processor → NatMap ℕ → ℕ → Outcome
lkgs c words s = with_kernel_gs c words s (base_of c.gdt s)
