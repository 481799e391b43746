-- The effect of an instruction (SDM volume 2, the pages of the instructions).
-- An access is tested for a canonical address, then for alignment, then for its page (own; user code runs as with CR0.AM and RFLAGS.AC set).
use Rattle.std.specs.Prelude.{ℕ, ◌+◌, ◌-◌, ◌^◌, Bool, true, false, not, ◌||◌, ◌==◌, if◌then◌else◌, Option, Some, None, Result, Ok, Err}
use Rattle.ev_isa.specs.Word.{NatMap, put_at, wrap, sign_extend, displaced, is_canonical, is_aligned}
use Rattle.ev_isa.specs.declared.instruction.Ins.{Ins}
use Rattle.ev_isa.specs.declared.instruction.Ins.TheVariants.{MovImm, MovReg, Load, Store, StoreImm, GsLoad, GsStore, GsPush, Alu, AluImm, Shl, Shr, Xchg, CmpXchg, Xadd, Jmp, Jcc, JmpReg, Push, PushImm, Pop}
use Rattle.ev_isa.specs.Flags.{Status, sum, difference, alu, shift_left, shift_right, holds}
use Rattle.ev_event.specs.declared.event.Event.{Event}
use Rattle.ev_event.specs.Event.{ss, gp, pf, ac}
use Rattle.ev_isa.specs.Pages.{View}
use Rattle.ev_effect.specs.Task.{Task, reg, with_reg}

infixl 10 ◌>>=◌
-- the second effect follows where the first raises nothing
abbrev pub ◌>>=◌ : {A B : Type 0} → Result A Event → (A → Result B Event) → Result B Event
(Ok x) >>= f = f x
(Err e) >>= f = Err e

-- the page fault of an access, by its error code
abbrev pub page_event : Option ℕ → ℕ → Option Event
page_event None a = None
page_event (Some code) a = Some (pf code a)

-- The event of an access to the word at an address, if it has one. `bad` is that of an address that isn't canonical.
unfoldable pub access_event : View → Bool → Event → ℕ → Option Event
access_event m write bad a = if not (is_canonical a) then Some bad else (if not (is_aligned a) then Some ac else page_event (m.fault write a) a)

-- the value, unless an event is raised
abbrev pub unless : {A : Type 0} → Option Event → A → Result A Event
unless None x = Ok x
unless (Some e) x = Err e

-- a read word, and the words after a write
abbrev pub read_word : View → Event → ℕ → Result ℕ Event
read_word m bad a = unless (access_event m false bad a) (m.words a)

-- a word is written, or the access raises an event
abbrev pub write_word : View → Event → ℕ → ℕ → Result (NatMap ℕ) Event
write_word m bad a v = unless (access_event m true bad a) (put_at m.words a v)

-- the event of a non-canonical address with this base: #SS(0) for RSP and RBP, else #GP(0)
abbrev pub bad_address : ℕ → Event
bad_address b = if (b == 4) || (b == 5) then ss 0 else gp 0

-- registers and words
abbrev pub Changed : Type 0
Changed = Task × NatMap ℕ

-- the task with these status flags
abbrev pub in_flags : Task → Status → Task
in_flags t s = record t { flags = record t.flags { status = s } }

-- a result goes into the destination, and its flags into RFLAGS
abbrev pub with_result : Task → ℕ → ℕ × Status → Task
with_result t d r = in_flags (with_reg t d r.0) r.1

-- the task at an address, which is canonical: #GP(0) comes at the jump
abbrev pub jumped : Task → ℕ → Result Task Event
jumped t a = if is_canonical a then Ok (record t { rip = a }) else Err (gp 0)

-- a push writes below RSP and then moves RSP
abbrev pub pushed : View → Task → ℕ → Result Changed Event
pushed m t v = let a : ℕ = wrap (reg t 4 + 2 ^ 64 - 8) in do
  ws ← write_word m (ss 0) a v
  Ok (with_reg t 4 a, ws)

-- `cmpxchg` of the word w: the task, and what is written
abbrev pub compared : Task → ℕ → ℕ → Task × ℕ
compared t w s = let t' : Task = in_flags t (difference (reg t 0) w).1 in
    if reg t 0 == w then (t', reg t s) else (with_reg t' 0 w, w)

-- The effect of an instruction that raises no event of its own. RIP of the task is that of the next instruction.
unfoldable pub effect : View → Task → Ins → Result Changed Event
effect m t (MovImm d n) = Ok (with_reg t d n, m.words)
effect m t (MovReg d s) = Ok (with_reg t d (reg t s), m.words)
effect m t (Load d b n) = do
  v ← read_word m (bad_address b) (displaced (reg t b) n)
  Ok (with_reg t d v, m.words)
effect m t (Store b n s) = do
  ws ← write_word m (bad_address b) (displaced (reg t b) n) (reg t s)
  Ok (t, ws)
effect m t (StoreImm b n i) = do
  ws ← write_word m (bad_address b) (displaced (reg t b) n) (sign_extend i)
  Ok (t, ws)
effect m t (GsLoad d n) = do
  v ← read_word m (gp 0) (displaced t.gs n)
  Ok (with_reg t d v, m.words)
effect m t (GsStore n s) = do
  ws ← write_word m (gp 0) (displaced t.gs n) (reg t s)
  Ok (t, ws)
effect m t (GsPush n) = do
  v ← read_word m (gp 0) (displaced t.gs n)
  pushed m t v
effect m t (Alu op d s) = Ok (with_result t d (alu op (reg t d) (reg t s)), m.words)
effect m t (AluImm op d i) = Ok (with_result t d (alu op (reg t d) (sign_extend i)), m.words)
effect m t (Shl d n) = Ok (with_result t d (shift_left (reg t d) n), m.words)
effect m t (Shr d n) = Ok (with_result t d (shift_right (reg t d) n), m.words)
effect m t (Xchg b n s) = let a : ℕ = displaced (reg t b) n in do
  ws ← write_word m (bad_address b) a (reg t s)
  Ok (with_reg t s (m.words a), ws)
effect m t (Xadd b n s) = let a : ℕ = displaced (reg t b) n in let r : ℕ × Status = sum (m.words a) (reg t s) in do
  ws ← write_word m (bad_address b) a r.0
  Ok (in_flags (with_reg t s (m.words a)) r.1, ws)
effect m t (CmpXchg b n s) = let a : ℕ = displaced (reg t b) n in let r : Task × ℕ = compared t (m.words a) s in do
  ws ← write_word m (bad_address b) a r.1
  Ok (r.0, ws)
effect m t (Jmp n) = do
  t' ← jumped t (displaced t.rip n)
  Ok (t', m.words)
effect m t (Jcc c n) = do
  t' ← if holds c t.flags.status then jumped t (displaced t.rip n) else Ok t
  Ok (t', m.words)
effect m t (JmpReg s) = do
  t' ← jumped t (reg t s)
  Ok (t', m.words)
effect m t (Push s) = pushed m t (reg t s)
effect m t (PushImm i) = pushed m t (sign_extend i)
effect m t (Pop d) = do
  v ← read_word m (ss 0) (reg t 4)
  Ok (with_reg (with_reg t 4 (wrap (reg t 4 + 8))) d v, m.words)
effect m t _ = Ok (t, m.words)
