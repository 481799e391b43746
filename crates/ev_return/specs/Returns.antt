-- What the returns come to: exactly the processor that an exit's block has restored, but for CR2 and the blocking of NMIs. SDM volume 2, IRET and SYSRET; FRED
-- specification, chapter "FRED return instructions".
use Rattle.std.specs.Prelude.{◌≡◌, ℕ, ◌+◌, ◌/◌, ◌%◌, ◌^◌, Bool, true, false, not, ◌&&◌, ◌==◌, nat_le, if◌then◌else◌, List, [], ◌∷◌, map, Some, None}
use Rattle.ev_isa.specs.Word.{bit, is_canonical}
use Rattle.ev_isa.specs.Flags.{modelled}
use Rattle.ev_isa.specs.declared.instruction.Ins.{Ins}
use Rattle.ev_isa.specs.declared.instruction.Ins.TheVariants.{Sysretq, Iretq, Eretu, Erets}
use Rattle.ev_effect.specs.Frame.{addresses, first_event}
use Rattle.ev_state.specs.Processor.{Processor, is_user, rsp, selector}
use Rattle.ev_mem.specs.Memory.{Memory, view}
use Rattle.ev_apic.specs.declared.apic.Apic.{Apic}
use Rattle.ev_idt.specs.IdtDelivery.{is_return}
use Rattle.ev_proc.specs.ProcessorStep.{has_fred, executed, ran}
use Rattle.ev_symbolic.specs.Value.{V, P}
use Rattle.ev_symbolic.specs.State.{Word, SS, Block, Ground}
use Rattle.ev_symbolic.specs.Agrees.{Env, eval, untracked, Agrees}
use Rattle.ev_symbolic.specs.Openings.{words_from}
use Rattle.ev_blocks.specs.Shapes.{registers_of}
use Rattle.ev_paths.specs.Ends.{Returns}

-- the return leads to w, with this blocking of NMIs and the CR2 that stands
abbrev pub LeadsBack : Processor → Memory → Ins → Processor → Bool → Type 0
LeadsBack c m i w blocked = (a : Apic) (nmi : Bool) → executed c a m nmi (Some i) ≡ ran (record w { cr2 = c.cr2; nmi_blocked = blocked }) a m.words nmi

-- ---- what the values at an exit's end say of w: its registers, RIP and RFLAGS, the bases of GS in and out of use, the selector, and RSP of level 0

-- with RIP canonical, and with the modelled bits of RFLAGS
pub record Restores (env : Env) (w : Processor) (regs : List V) (rip flags base other chosen level : V) : Type 0 where
  pub regs_are : map (eval env) regs ≡ w.regs
  pub rip_is : eval env rip ≡ w.rip
  pub canonical : is_canonical w.rip ≡ true
  pub flags_are : modelled (eval env flags) ≡ w.flags
  pub base_is : eval env base ≡ w.msrs.gs_base
  pub other_is : eval env other ≡ w.msrs.kernel_gs_base
  pub chosen_is : eval env chosen ≡ w.gs
  pub levels_are : eval env level ∷ env.rest.msrs.rsp ≡ w.msrs.rsp

-- the words of CS and SS that IRETQ takes
pub record IretWords (env : Env) (w : Processor) (cs ss : V) : Type 0 where
  pub cs_is : selector (eval env cs) ≡ w.cs
  pub ss_is : selector (eval env ss) ≡ w.ss
  pub taken : is_return w.cs w.ss ≡ true
  pub ring : w.cpl ≡ (if w.cs == 0x33 then 3 else 0)
  pub unblocked : w.sti_blocked ≡ false
  pub rest : record env.rest { cpl = w.cpl; cs = w.cs; ss = w.ss } ≡ untracked w

-- IRETQ, with the five words among those that the block knows, from RSP on
abbrev pub IretReturns : Type 0
IretReturns =
    (env : Env) (G : Ground) (b : Block) (z : SS) (place : ℕ) (c : Processor) (m : Memory) (w : Processor) (area : ℕ → V) (t o : ℕ)
    (rip cs flags sp ss base other chosen level : V)
    → Returns b z place (registers_of area (P t o)) base other chosen level (words_from t o (rip ∷ cs ∷ flags ∷ sp ∷ ss ∷ []))
    → Agrees env G z c m → is_user env.rest ≡ false → Restores env w (registers_of area sp) rip flags base other chosen level
    → IretWords env w cs ss → LeadsBack c m Iretq w false

-- the same with words that nobody knows but memory: those of the return frame of the NMI code
abbrev pub IretReturnsByWords : Type 0
IretReturnsByWords =
    (env : Env) (G : Ground) (z : SS) (c : Processor) (m : Memory) (w : Processor) (area : ℕ → V) (r base other chosen level : V)
    (rip cs flags sp ss : V) → z.regs ≡ registers_of area r → z.gs ≡ base → z.kernel_gs ≡ other → z.selector ≡ chosen → z.rsp0 ≡ level
    → Agrees env G z c m → is_user env.rest ≡ false
    → first_event (view m false) false (addresses (rsp c) 5) ≡ None
    → map m.words (addresses (rsp c) 5) ≡ eval env rip ∷ eval env cs ∷ eval env flags ∷ eval env sp ∷ eval env ss ∷ []
    → Restores env w (registers_of area sp) rip flags base other chosen level → IretWords env w cs ss → LeadsBack c m Iretq w false

-- SYSRETQ: RIP from RCX and RFLAGS from R11
abbrev pub SysretReturns : Type 0
SysretReturns =
    (env : Env) (G : Ground) (b : Block) (z : SS) (place : ℕ) (c : Processor) (m : Memory) (w : Processor) (area : ℕ → V) (sp base other chosen level : V)
    (frame : List Word) → Returns b z place (registers_of area sp) base other chosen level frame → Agrees env G z c m → is_user env.rest ≡ false
    → has_fred env.rest ≡ false
    → Restores env w (registers_of area sp) (area 1) (area 11) base other chosen level → w.sti_blocked ≡ false
    → record env.rest { cpl = 3; cs = 0x33; ss = 0x2b } ≡ untracked w → LeadsBack c m Sysretq w c.nmi_blocked

-- The words of FRED's frame: CS with the stack level above it, and SS with the blocking by STI and whether the event was an NMI.
pub record EretuWords (env : Env) (w : Processor) (cs ss : V) : Type 0 where
  pub cs_is : selector (eval env cs) ≡ 0x33
  pub ss_is : selector (eval env ss) ≡ 0x2b
  pub level : env.rest.level ≡ 0
  pub blocked : bit 16 (eval env ss) ≡ w.sti_blocked
  pub rest : record env.rest { cpl = 3; cs = 0x33; ss = 0x2b } ≡ untracked w

-- to the kernel the level goes back
pub record EretsWords (env : Env) (w : Processor) (cs ss : V) : Type 0 where
  pub cs_is : selector (eval env cs) ≡ 0x10
  pub level_is : eval env cs / 2 ^ 16 % 4 ≡ w.level
  pub lower : nat_le w.level env.rest.level ≡ true
  pub blocked : bit 16 (eval env ss) ≡ w.sti_blocked
  pub rest : record env.rest { level = w.level } ≡ untracked w

-- the blocking of NMIs ends where the event was one
abbrev pub blocked_after : Processor → ℕ → Bool
blocked_after c ss = c.nmi_blocked && not (bit 18 ss)

-- ERETU exchanges the bases of GS; RSP is at the frame's first word, and the five words stand behind it
abbrev pub EretuReturns : Type 0
EretuReturns =
    (env : Env) (G : Ground) (b : Block) (z : SS) (place : ℕ) (c : Processor) (m : Memory) (w : Processor) (area : ℕ → V) (t o : ℕ)
    (rip cs flags sp ss base other chosen level : V)
    → Returns b z place (registers_of area (P t o)) base other chosen level (words_from t (o + 8) (rip ∷ cs ∷ flags ∷ sp ∷ ss ∷ []))
    → Agrees env G z c m → is_user env.rest ≡ false → has_fred env.rest ≡ true
    → Restores env w (registers_of area sp) rip flags other base chosen level → EretuWords env w cs ss
    → LeadsBack c m Eretu w (blocked_after c (eval env ss))

-- ERETS leaves them
abbrev pub EretsReturns : Type 0
EretsReturns =
    (env : Env) (G : Ground) (b : Block) (z : SS) (place : ℕ) (c : Processor) (m : Memory) (w : Processor) (area : ℕ → V) (t o : ℕ)
    (rip cs flags sp ss base other chosen level : V)
    → Returns b z place (registers_of area (P t o)) base other chosen level (words_from t (o + 8) (rip ∷ cs ∷ flags ∷ sp ∷ ss ∷ []))
    → Agrees env G z c m → is_user env.rest ≡ false → has_fred env.rest ≡ true
    → Restores env w (registers_of area sp) rip flags base other chosen level → EretsWords env w cs ss
    → LeadsBack c m Erets w (blocked_after c (eval env ss))
