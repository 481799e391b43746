-- Single instructions of the kernel at words to which it has access, over any registers and numbers: what is done by hand between blocks. Own.
use Rattle.std.specs.Prelude.{◌≡◌, ℤ, ℕ, ◌+◌, ◌-◌, ◌^◌, Bool, true, false, ◌==◌, if◌then◌else◌, List, set, length, Some, None}
use Rattle.ev_isa.specs.Word.{NatMap, put_at, wrap, sign_extend, displaced, is_canonical}
use Rattle.ev_isa.specs.Flags.{Status, flags_of, modelled, alu, sum, difference, holds}
use Rattle.ev_isa.specs.Spelling.{spelling}
use Rattle.ev_isa.specs.declared.instruction.AluOp.{AluOp}
use Rattle.ev_isa.specs.declared.instruction.Cond.{Cond}
use Rattle.ev_isa.specs.declared.instruction.Ins.{Ins}
use Rattle.ev_isa.specs.declared.instruction.Ins.TheVariants.{MovImm, MovReg, Load, Store, StoreImm, GsLoad, GsStore, Xchg, Xadd, CmpXchg, Alu, AluImm, Nop, Jmp, Jcc, JmpReg, Push, PushImm}
use Rattle.ev_state.specs.Processor.{Processor, is_user, register, with_status}
use Rattle.ev_event.specs.declared.event.Event.{Event}
use Rattle.ev_effect.specs.Effect.{access_event, bad_address}
use Rattle.ev_mem.specs.Memory.{Memory, view}
use Rattle.ev_apic.specs.declared.apic.Apic.{Apic}
use Rattle.ev_proc.specs.ProcessorStep.{executed, ran, delivering}
use Rattle.ev_symbolic.specs.Agrees.{IsOpen}

-- the kernel is at an instruction, behind which stands the address `next`
pub record IsAt (c : Processor) (i : Ins) (next : ℕ) : Type 0 where
  pub kernel : is_user c ≡ false
  pub flags : c.flags ≡ modelled c.flags
  pub ends : c.rip + length (spelling i) ≡ next

-- the processor behind an instruction that leaves these registers
abbrev pub onward : Processor → List ℕ → ℕ → Processor
onward c regs rip = record c { regs = regs; rip = rip; sti_blocked = false }

-- with these status flags
abbrev pub in_status : Processor → Status → Processor
in_status c s = record c { flags = with_status c.flags s }

-- the instruction leads to this processor and these words
abbrev pub Leads : Processor → Memory → Ins → Processor → NatMap ℕ → Type 0
Leads c m i d words = (a : Apic) (nmi : Bool) → executed c a m nmi (Some i) ≡ ran d a words nmi

-- ---- loads and stores: `a` is the address

-- a load into register d, from a displacement of register b
abbrev pub Loads : Processor → Memory → ℕ → Type 0
Loads c m next = (d b : ℕ) (n : ℤ) (a : ℕ) → IsAt c (Load d b n) next → displaced (register c b) n ≡ a → IsOpen m.regions a
    → Leads c m (Load d b n) (onward c (set c.regs d (m.words a)) next) m.words

-- a store of register s
abbrev pub Stores : Processor → Memory → ℕ → Type 0
Stores c m next = (b : ℕ) (n : ℤ) (s a : ℕ) → IsAt c (Store b n s) next → displaced (register c b) n ≡ a → IsOpen m.regions a
    → Leads c m (Store b n s) (onward c c.regs next) (put_at m.words a (register c s))

-- the same where memory lets the kernel read or write the word, whosever it is
abbrev pub LoadsAllowed : Processor → Memory → ℕ → Type 0
LoadsAllowed c m next = (d b : ℕ) (n : ℤ) (a : ℕ) → IsAt c (Load d b n) next → displaced (register c b) n ≡ a
    → access_event (view m false) false (bad_address b) a ≡ None → Leads c m (Load d b n) (onward c (set c.regs d (m.words a)) next) m.words

-- the same of a store
abbrev pub StoresAllowed : Processor → Memory → ℕ → Type 0
StoresAllowed c m next = (b : ℕ) (n : ℤ) (s a : ℕ) → IsAt c (Store b n s) next → displaced (register c b) n ≡ a
    → access_event (view m false) true (bad_address b) a ≡ None → Leads c m (Store b n s) (onward c c.regs next) (put_at m.words a (register c s))

-- where memory doesn't, the event of the access is delivered
abbrev pub Raises : Processor → Memory → Ins → Event → Type 0
Raises c m i e = (a : Apic) (nmi : Bool) → executed c a m nmi (Some i) ≡ delivering c a m nmi e c.rip

-- a load that raises its event
abbrev pub LoadsRaise : Processor → Memory → ℕ → Type 0
LoadsRaise c m next = (d b : ℕ) (n : ℤ) (a : ℕ) (e : Event) → IsAt c (Load d b n) next → displaced (register c b) n ≡ a
    → access_event (view m false) false (bad_address b) a ≡ Some e → Raises c m (Load d b n) e

-- a store that raises its event
abbrev pub StoresRaise : Processor → Memory → ℕ → Type 0
StoresRaise c m next = (b : ℕ) (n : ℤ) (s a : ℕ) (e : Event) → IsAt c (Store b n s) next → displaced (register c b) n ≡ a
    → access_event (view m false) true (bad_address b) a ≡ Some e → Raises c m (Store b n s) e

-- a store of a number
abbrev pub StoresNumber : Processor → Memory → ℕ → Type 0
StoresNumber c m next = (b : ℕ) (n i : ℤ) (a : ℕ) → IsAt c (StoreImm b n i) next → displaced (register c b) n ≡ a → IsOpen m.regions a
    → Leads c m (StoreImm b n i) (onward c c.regs next) (put_at m.words a (sign_extend i))

-- a load from a displacement of the GS base
abbrev pub LoadsFromGs : Processor → Memory → ℕ → Type 0
LoadsFromGs c m next = (d : ℕ) (n : ℤ) (a : ℕ) → IsAt c (GsLoad d n) next → displaced c.msrs.gs_base n ≡ a → IsOpen m.regions a
    → Leads c m (GsLoad d n) (onward c (set c.regs d (m.words a)) next) m.words

-- a store to one
abbrev pub StoresToGs : Processor → Memory → ℕ → Type 0
StoresToGs c m next = (n : ℤ) (s a : ℕ) → IsAt c (GsStore n s) next → displaced c.msrs.gs_base n ≡ a → IsOpen m.regions a
    → Leads c m (GsStore n s) (onward c c.regs next) (put_at m.words a (register c s))

-- a push writes below RSP
abbrev pub pushed_at : Processor → ℕ
pushed_at c = wrap (register c 4 + 2 ^ 64 - 8)

-- a push of a register
abbrev pub Pushes : Processor → Memory → ℕ → Type 0
Pushes c m next = (s : ℕ) → IsAt c (Push s) next → IsOpen m.regions (pushed_at c)
    → Leads c m (Push s) (onward c (set c.regs 4 (pushed_at c)) next) (put_at m.words (pushed_at c) (register c s))

-- a push of a number
abbrev pub PushesNumber : Processor → Memory → ℕ → Type 0
PushesNumber c m next = (i : ℤ) → IsAt c (PushImm i) next → IsOpen m.regions (pushed_at c)
    → Leads c m (PushImm i) (onward c (set c.regs 4 (pushed_at c)) next) (put_at m.words (pushed_at c) (sign_extend i))

-- ---- exchanges

-- an exchange of a word with register s
abbrev pub Exchanges : Processor → Memory → ℕ → Type 0
Exchanges c m next = (b : ℕ) (n : ℤ) (s a : ℕ) → IsAt c (Xchg b n s) next → displaced (register c b) n ≡ a → IsOpen m.regions a
    → Leads c m (Xchg b n s) (onward c (set c.regs s (m.words a)) next) (put_at m.words a (register c s))

-- an exchange that adds register s to the word
abbrev pub Adds : Processor → Memory → ℕ → Type 0
Adds c m next = (b : ℕ) (n : ℤ) (s a : ℕ) → IsAt c (Xadd b n s) next → displaced (register c b) n ≡ a → IsOpen m.regions a
    → Leads c m (Xadd b n s) (in_status (onward c (set c.regs s (m.words a)) next) (sum (m.words a) (register c s)).1)
    (put_at m.words a (sum (m.words a) (register c s)).0)

-- `cmpxchg` writes its register where RAX is the word, and else loads RAX
abbrev pub compared_regs : Processor → ℕ → List ℕ
compared_regs c w = if register c 0 == w then c.regs else set c.regs 0 w

-- the word that it writes
abbrev pub compared_word : Processor → ℕ → ℕ → ℕ
compared_word c w s = if register c 0 == w then register c s else w

-- a comparison and exchange
abbrev pub Compares : Processor → Memory → ℕ → Type 0
Compares c m next = (b : ℕ) (n : ℤ) (s a : ℕ) → IsAt c (CmpXchg b n s) next → displaced (register c b) n ≡ a → IsOpen m.regions a
    → Leads c m (CmpXchg b n s) (in_status (onward c (compared_regs c (m.words a)) next) (difference (register c 0) (m.words a)).1)
    (put_at m.words a (compared_word c (m.words a) s))

-- ---- registers

-- a move of a register
abbrev pub Moves : Processor → Memory → ℕ → Type 0
Moves c m next = (d s : ℕ) → IsAt c (MovReg d s) next → Leads c m (MovReg d s) (onward c (set c.regs d (register c s)) next) m.words

-- a move of a number
abbrev pub MovesNumber : Processor → Memory → ℕ → Type 0
MovesNumber c m next = (d n : ℕ) → IsAt c (MovImm d n) next → Leads c m (MovImm d n) (onward c (set c.regs d n) next) m.words

-- arithmetic of two registers
abbrev pub Computes : Processor → Memory → ℕ → Type 0
Computes c m next = (op : AluOp) (d s : ℕ) → IsAt c (Alu op d s) next
    → Leads c m (Alu op d s) (in_status (onward c (set c.regs d (alu op (register c d) (register c s)).0) next) (alu op (register c d) (register c s)).1)
    m.words

-- arithmetic of a register and a number
abbrev pub ComputesNumber : Processor → Memory → ℕ → Type 0
ComputesNumber c m next = (op : AluOp) (d : ℕ) (i : ℤ) → IsAt c (AluImm op d i) next
    → Leads c m (AluImm op d i) (in_status (onward c (set c.regs d (alu op (register c d) (sign_extend i)).0) next)
    (alu op (register c d) (sign_extend i)).1) m.words

-- an instruction that does nothing
abbrev pub Rests : Processor → Memory → ℕ → Type 0
Rests c m next = IsAt c Nop next → Leads c m Nop (onward c c.regs next) m.words

-- ---- jumps, to canonical addresses; a conditional one by the flags that stand

-- a jump over a distance
abbrev pub Jumps : Processor → Memory → ℕ → Type 0
Jumps c m next = (n : ℤ) → IsAt c (Jmp n) next → is_canonical (displaced next n) ≡ true → Leads c m (Jmp n) (onward c c.regs (displaced next n)) m.words

-- a jump to the address in a register
abbrev pub JumpsTo : Processor → Memory → ℕ → Type 0
JumpsTo c m next = (s : ℕ) → IsAt c (JmpReg s) next → is_canonical (register c s) ≡ true → Leads c m (JmpReg s) (onward c c.regs (register c s)) m.words

-- a conditional jump
abbrev pub Branches : Processor → Memory → ℕ → Type 0
Branches c m next = (k : Cond) (n : ℤ) → IsAt c (Jcc k n) next → is_canonical (displaced next n) ≡ true
    → Leads c m (Jcc k n) (onward c c.regs (if holds k (flags_of c.flags).status then displaced next n else next)) m.words

-- all of them
pub record Singles (c : Processor) (m : Memory) (next : ℕ) : Type 0 where
  pub loads : Loads c m next
  pub stores : Stores c m next
  pub loads_allowed : LoadsAllowed c m next
  pub stores_allowed : StoresAllowed c m next
  pub loads_raise : LoadsRaise c m next
  pub stores_raise : StoresRaise c m next
  pub stores_number : StoresNumber c m next
  pub loads_from_gs : LoadsFromGs c m next
  pub stores_to_gs : StoresToGs c m next
  pub pushes : Pushes c m next
  pub pushes_number : PushesNumber c m next
  pub exchanges : Exchanges c m next
  pub adds : Adds c m next
  pub compares : Compares c m next
  pub moves : Moves c m next
  pub moves_number : MovesNumber c m next
  pub computes : Computes c m next
  pub computes_number : ComputesNumber c m next
  pub rests : Rests c m next
  pub jumps : Jumps c m next
  pub jumps_to : JumpsTo c m next
  pub branches : Branches c m next

-- they hold of every processor and memory
abbrev pub SinglesAreSteps : Type 0
SinglesAreSteps = (c : Processor) (m : Memory) (next : ℕ) → Singles c m next
