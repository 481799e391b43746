-- Single instructions of the kernel at words to which it has access.
use Rattle.std.proofs.Common.{◌≡◌, ℕ, Bool, true, false, List, set, Option, Some, None, Ok, refl, sym, ap, ◌∙◌}
use Rattle.std.specs.Prelude.{◌==◌, if◌then◌else◌}
use Rattle.ev_isa.specs.Word.{NatMap, put_at, sign_extend, displaced}
use Rattle.ev_isa.specs.Flags.{Status, flags_of, alu, sum, difference, holds}
use Rattle.ev_isa.specs.declared.instruction.Ins.{Ins}
use Rattle.ev_isa.specs.declared.instruction.Ins.TheVariants.{MovImm, MovReg, Load, Store, StoreImm, GsLoad, GsStore, Xchg, Xadd, CmpXchg, Alu, AluImm, Nop, Jmp, Jcc, JmpReg, Push, PushImm}
use Rattle.ev_event.specs.declared.event.Event.{Event}
use Rattle.ev_event.specs.Event.{ss, gp}
use Rattle.ev_effect.specs.Task.{Task, with_reg}
use Rattle.ev_effect.specs.Effect.{◌>>=◌, access_event, unless, bad_address, effect, in_flags}
use Rattle.ev_state.specs.Processor.{Processor, is_user, register, with_effect}
use Rattle.ev_mem.specs.Memory.{Memory, view}
use Rattle.ev_exec.specs.Exec.{Executed, Done, Raise, completed, changed, exec}
use Rattle.ev_proc.specs.ProcessorStep.{ran}
use Rattle.ev_symbolic.specs.Agrees.{IsOpen}
use Rattle.ev_symbolic.specs.Single.{IsAt, onward, in_status, Leads, Loads, Stores, LoadsAllowed, StoresAllowed, Raises, LoadsRaise, StoresRaise, StoresNumber, LoadsFromGs, StoresToGs, pushed_at, Pushes, PushesNumber, Exchanges, Adds, Compares, Moves, MovesNumber, Computes, ComputesNumber, Rests, Jumps, JumpsTo, Branches, SinglesAreSteps}
use Rattle.ev_symbolic.proofs.Words.{accessible}
use Rattle.ev_symbolic.proofs.Effects.{task, loaded, jumped_if, branched, executes}

-- what an effect comes to that writes a word and leaves this task
abbrev written : Processor → Task → NatMap ℕ → ℕ → ℕ → Option Event → Executed
written c t words a x o = changed c ((unless o (put_at words a x)) >>= (λ ws. Ok (t, ws)))

module _ (c : Processor) (m : Memory) (next : ℕ) where
  -- where the flags stay, RFLAGS is as it was
  finish : (i : Ins) → IsAt c i next → (regs : List ℕ) (rip : ℕ) (words : NatMap ℕ)
      → exec c m i next ≡ Done (with_effect (completed c) (record (task c next) { regs = regs; rip = rip })) words → Leads c m i (onward c regs rip) words
  finish i h regs rip words hx a nmi =
      executes c m i next (Done (with_effect (completed c) (record (task c next) { regs = regs; rip = rip })) words) h.kernel h.ends hx a nmi
      ∙ ap (λ f. ran (record (onward c regs rip) { flags = f }) a words nmi) (sym h.flags)

  finish_status : (i : Ins) → IsAt c i next → (regs : List ℕ) (s : Status) (words : NatMap ℕ)
      → exec c m i next ≡ Done (with_effect (completed c) (in_flags (record (task c next) { regs = regs }) s)) words
      → Leads c m i (in_status (onward c regs next) s) words
  finish_status i h regs s words hx a nmi =
      executes c m i next (Done (with_effect (completed c) (in_flags (record (task c next) { regs = regs }) s)) words) h.kernel h.ends hx a nmi

  -- a word that is read, and one that is written
  read : (d x a : ℕ) (bad : Event) → x ≡ a → access_event (view m (is_user c)) false bad a ≡ None
      → loaded c next m.words c.regs d x (access_event (view m (is_user c)) false bad x)
      ≡ Done (with_effect (completed c) (record (task c next) { regs = set c.regs d (m.words a) })) m.words
  read d x a bad q o =
      ap (λ y. loaded c next m.words c.regs d y (access_event (view m (is_user c)) false bad y)) q
      ∙ ap (loaded c next m.words c.regs d a) o

  wrote : (t : ℕ → Task) (v : ℕ → ℕ) (x a : ℕ) (bad : Event) → x ≡ a → access_event (view m (is_user c)) true bad a ≡ None
      → written c (t x) m.words x (v x) (access_event (view m (is_user c)) true bad x) ≡ Done (with_effect (completed c) (t a)) (put_at m.words a (v a))
  wrote t v x a bad q o =
      ap (λ y. written c (t y) m.words y (v y) (access_event (view m (is_user c)) true bad y)) q
      ∙ ap (written c (t a) m.words a (v a)) o

  -- the kernel has access to an open word
  open_to : (write : Bool) (bad : Event) (a : ℕ) → is_user c ≡ false → IsOpen m.regions a → access_event (view m (is_user c)) write bad a ≡ None
  open_to write bad a hu o = accessible m (is_user c) hu write bad a o

  -- and to one that it may read or write
  allowed : (write : Bool) (bad : Event) (a : ℕ) → is_user c ≡ false → access_event (view m false) write bad a ≡ None
      → access_event (view m (is_user c)) write bad a ≡ None
  allowed write bad a hu o = ap (λ b. access_event (view m b) write bad a) hu ∙ o

  -- ---- loads and stores

  pub loads : Loads c m next
  unfolding exec effect
  loads d b n a h q o = finish (Load d b n) h (set c.regs d (m.words a)) next m.words
      (read d (displaced (register c b) n) a (bad_address b) q (open_to false (bad_address b) a h.kernel o))

  pub stores : Stores c m next
  unfolding exec effect
  stores b n s a h q o = finish (Store b n s) h c.regs next (put_at m.words a (register c s))
      (wrote (λ y. task c next) (λ y. register c s) (displaced (register c b) n) a (bad_address b) q (open_to true (bad_address b) a h.kernel o))

  pub loads_allowed : LoadsAllowed c m next
  unfolding exec effect
  loads_allowed d b n a h q o = finish (Load d b n) h (set c.regs d (m.words a)) next m.words
      (read d (displaced (register c b) n) a (bad_address b) q (allowed false (bad_address b) a h.kernel o))

  pub stores_allowed : StoresAllowed c m next
  unfolding exec effect
  stores_allowed b n s a h q o = finish (Store b n s) h c.regs next (put_at m.words a (register c s))
      (wrote (λ y. task c next) (λ y. register c s) (displaced (register c b) n) a (bad_address b) q (allowed true (bad_address b) a h.kernel o))

  -- the event of an access
  raised : (i : Ins) (e : Event) → IsAt c i next → exec c m i next ≡ Raise e → Raises c m i e
  raised i e h hx a nmi = executes c m i next (Raise e) h.kernel h.ends hx a nmi

  met : (write : Bool) (bad e : Event) (a : ℕ) → is_user c ≡ false → access_event (view m false) write bad a ≡ Some e
      → access_event (view m (is_user c)) write bad a ≡ Some e
  met write bad e a hu o = ap (λ b. access_event (view m b) write bad a) hu ∙ o

  pub loads_raise : LoadsRaise c m next
  unfolding exec effect
  loads_raise d b n a e h q o =
      raised (Load d b n) e h
      (ap (λ y. loaded c next m.words c.regs d y (access_event (view m (is_user c)) false (bad_address b) y)) q
      ∙ ap (loaded c next m.words c.regs d a) (met false (bad_address b) e a h.kernel o))

  pub stores_raise : StoresRaise c m next
  unfolding exec effect
  stores_raise b n s a e h q o =
      raised (Store b n s) e h
      (ap (λ y. written c (task c next) m.words y (register c s) (access_event (view m (is_user c)) true (bad_address b) y)) q
      ∙ ap (written c (task c next) m.words a (register c s)) (met true (bad_address b) e a h.kernel o))

  pub stores_number : StoresNumber c m next
  unfolding exec effect
  stores_number b n i a h q o = finish (StoreImm b n i) h c.regs next (put_at m.words a (sign_extend i))
      (wrote (λ y. task c next) (λ y. sign_extend i) (displaced (register c b) n) a (bad_address b) q (open_to true (bad_address b) a h.kernel o))

  pub loads_from_gs : LoadsFromGs c m next
  unfolding exec effect
  loads_from_gs d n a h q o =
      finish (GsLoad d n) h (set c.regs d (m.words a)) next m.words (read d (displaced c.msrs.gs_base n) a (gp 0) q (open_to false (gp 0) a h.kernel o))

  pub stores_to_gs : StoresToGs c m next
  unfolding exec effect
  stores_to_gs n s a h q o = finish (GsStore n s) h c.regs next (put_at m.words a (register c s))
      (wrote (λ y. task c next) (λ y. register c s) (displaced c.msrs.gs_base n) a (gp 0) q (open_to true (gp 0) a h.kernel o))

  pub pushes : Pushes c m next
  unfolding exec effect
  pushes s h o = finish (Push s) h (set c.regs 4 (pushed_at c)) next (put_at m.words (pushed_at c) (register c s))
      (wrote (λ y. with_reg (task c next) 4 y) (λ y. register c s) (pushed_at c) (pushed_at c) (ss 0) refl (open_to true (ss 0) (pushed_at c) h.kernel o))

  pub pushes_number : PushesNumber c m next
  unfolding exec effect
  pushes_number i h o = finish (PushImm i) h (set c.regs 4 (pushed_at c)) next (put_at m.words (pushed_at c) (sign_extend i))
      (wrote (λ y. with_reg (task c next) 4 y) (λ y. sign_extend i) (pushed_at c) (pushed_at c) (ss 0) refl (open_to true (ss 0) (pushed_at c) h.kernel o))

  -- ---- exchanges

  pub exchanges : Exchanges c m next
  unfolding exec effect
  exchanges b n s a h q o = finish (Xchg b n s) h (set c.regs s (m.words a)) next (put_at m.words a (register c s))
      (wrote (λ y. with_reg (task c next) s (m.words y)) (λ y. register c s) (displaced (register c b) n) a (bad_address b) q
      (open_to true (bad_address b) a h.kernel o))

  pub adds : Adds c m next
  unfolding exec effect
  adds b n s a h q o =
      finish_status (Xadd b n s) h (set c.regs s (m.words a)) (sum (m.words a) (register c s)).1 (put_at m.words a (sum (m.words a) (register c s)).0)
      (wrote (λ y. in_flags (with_reg (task c next) s (m.words y)) (sum (m.words y) (register c s)).1) (λ y. (sum (m.words y) (register c s)).0)
      (displaced (register c b) n) a (bad_address b) q (open_to true (bad_address b) a h.kernel o))

  -- what `cmpxchg` leaves, by whether RAX is the word
  abbrev compared_as : Bool → ℕ → ℕ → Task × ℕ
  compared_as t w s =
      let t' : Task = in_flags (task c next) (difference (register c 0) w).1 in if t then (t', register c s) else (with_reg t' 0 w, w)

  pub compares : Compares c m next
  unfolding exec effect
  compares b n s a h q o =
      finish_status (CmpXchg b n s) h _ (difference (register c 0) (m.words a)).1 _
      (wrote (λ y. (compared_as (register c 0 == m.words y) (m.words y) s).0) (λ y. (compared_as (register c 0 == m.words y) (m.words y) s).1)
      (displaced (register c b) n) a (bad_address b) q (open_to true (bad_address b) a h.kernel o)
      ∙ by_test (register c 0 == m.words a))
    where
      by_test : (t : Bool)
          → Done (with_effect (completed c) (compared_as t (m.words a) s).0) (put_at m.words a (compared_as t (m.words a) s).1)
          ≡ Done
          (with_effect (completed c)
          (in_flags (record (task c next) { regs = if t then c.regs else set c.regs 0 (m.words a) }) (difference (register c 0) (m.words a)).1))
          (put_at m.words a (if t then register c s else m.words a))
      by_test true = refl
      by_test false = refl

  -- ---- registers

  pub moves : Moves c m next
  unfolding exec effect
  moves d s h = finish (MovReg d s) h (set c.regs d (register c s)) next m.words refl

  pub moves_number : MovesNumber c m next
  unfolding exec effect
  moves_number d n h = finish (MovImm d n) h (set c.regs d n) next m.words refl

  pub computes : Computes c m next
  unfolding exec effect
  computes op d s h =
      finish_status (Alu op d s) h (set c.regs d (alu op (register c d) (register c s)).0) (alu op (register c d) (register c s)).1 m.words refl

  pub computes_number : ComputesNumber c m next
  unfolding exec effect
  computes_number op d i h =
      finish_status (AluImm op d i) h (set c.regs d (alu op (register c d) (sign_extend i)).0) (alu op (register c d) (sign_extend i)).1 m.words refl

  pub rests : Rests c m next
  unfolding exec effect
  rests h = finish Nop h c.regs next m.words refl

  -- ---- jumps

  pub jumps : Jumps c m next
  unfolding exec effect
  jumps n h k = finish (Jmp n) h c.regs (displaced next n) m.words (ap (jumped_if c next m.words (displaced next n)) k)

  pub jumps_to : JumpsTo c m next
  unfolding exec effect
  jumps_to s h k = finish (JmpReg s) h c.regs (register c s) m.words (ap (jumped_if c next m.words (register c s)) k)

  pub branches : Branches c m next
  unfolding exec effect
  branches k n h q = by_test (holds k (flags_of c.flags).status) refl
    where
      by_test : (t : Bool) → holds k (flags_of c.flags).status ≡ t → Leads c m (Jcc k n) (onward c c.regs (if t then displaced next n else next)) m.words
      by_test true e = finish (Jcc k n) h c.regs (displaced next n) m.words
          (ap (branched c next m.words (displaced next n)) e ∙ ap (λ b. jumped_if c next m.words (displaced next n) b) q)
      by_test false e = finish (Jcc k n) h c.regs next m.words (ap (branched c next m.words (displaced next n)) e)

pub singles : SinglesAreSteps
singles c m next = record {
  loads = loads c m next;
  stores = stores c m next;
  loads_allowed = loads_allowed c m next;
  stores_allowed = stores_allowed c m next;
  loads_raise = loads_raise c m next;
  stores_raise = stores_raise c m next;
  stores_number = stores_number c m next;
  loads_from_gs = loads_from_gs c m next;
  stores_to_gs = stores_to_gs c m next;
  pushes = pushes c m next;
  pushes_number = pushes_number c m next;
  exchanges = exchanges c m next;
  adds = adds c m next;
  compares = compares c m next;
  moves = moves c m next;
  moves_number = moves_number c m next;
  computes = computes c m next;
  computes_number = computes_number c m next;
  rests = rests c m next;
  jumps = jumps c m next;
  jumps_to = jumps_to c m next;
  branches = branches c m next;
}
