-- User code keeps words: what it puts into a register or a word of memory is below 2^64.
use Rattle.std.proofs.Common.{◌≡◌, ℕ, zero, suc, ◌+◌, ◌-◌, ◌*◌, ◌/◌, ◌%◌, ◌^◌, ◌<◌, ◌≤◌, Bool, true, false, List, [], ◌∷◌, get_or, set, length, Option, Some, None, Ok, Err, refl, subst, arith}
use Rattle.std.specs.Int.{w32}
use Rattle.std.specs.Int.RustNames.{FitsSigned}
use Rattle.std.specs.Prelude.{ℤ, pos, negsuc, ◌==◌, Result, if◌then◌else◌}
use Rattle.std.specs.Int.Bits.{and_lt}
use Rattle.std.proofs.lemmas.Nat.{or_lt, xor_lt}
use Rattle.std.proofs.Math.Nat.{div-le_self}
use Rattle.ev_isa.specs.Word.{NatMap, put_at, is_canonical, displaced, sign_extend}
use Rattle.ev_isa.specs.Flags.{Status, sum, difference, alu, shift_left, shift_right, holds}
use Rattle.ev_isa.specs.Pages.{UserMemory, View, fault_at, place_of}
use Rattle.ev_isa.specs.Reading.{reading}
use Rattle.ev_isa.specs.Spelling.{spelling}
use Rattle.ev_isa.specs.Instruction.{user_may}
use Rattle.ev_isa.specs.declared.instruction.AluOp.{AluOp}
use Rattle.ev_isa.specs.declared.instruction.AluOp.TheVariants.{Add, Or, And, Sub, Xor, Cmp}
use Rattle.ev_isa.specs.declared.instruction.Ins.{Ins}
use Rattle.ev_isa.specs.declared.instruction.Ins.TheVariants.{MovImm, MovReg, Load, Store, StoreImm, GsLoad, GsStore, GsPush, Alu, AluImm, Shl, Shr, Xchg, Xadd, CmpXchg, Jmp, Jcc, JmpReg, Push, PushImm, Pop, IntN, Int1, Int3, Syscall, Sti, Cli, Ud2}
use Rattle.ev_event.specs.declared.event.EventType.TheVariants.{SoftInt}
use Rattle.ev_event.specs.declared.event.Event.{Event}
use Rattle.ev_event.specs.Event.{ud, gp, software}
use Rattle.ev_code.specs.Coding.{FieldsFit}
use Rattle.ev_code.proofs.Spelled.{read_takes}
use Rattle.ev_code.proofs.ReadingForms.{reading_begins}
use Rattle.ev_effect.specs.Task.{Task, reg, with_reg}
use Rattle.ev_effect.specs.Effect.{Changed, ◌>>=◌, unless, in_flags, pushed, compared, jumped, effect}
use Rattle.ev_abstract.specs.UserCode.{UserStep, Goes, Raises, step_of, text_bytes, user_view, read_step, fetch_step, user_step}
use Rattle.ev_abstract.specs.UserCode as user
use Rattle.ev_fetch.proofs.Regions.{all_small}
use Rattle.ev_user.specs.Words.{AreWords, HoldsWords, UserKeepsWords}
use Rattle.ev_user.proofs.Fetch.{byte_small}

-- ---- numbers

-- an immediate, of 32 bits
sign_small : (z : ℤ) → FitsSigned w32 z → sign_extend z < 2 ^ 64
sign_small (pos n) f = let k : n < 2147483648 = f.sfits in let h : n < 18446744073709551616 = omega arith in h
sign_small (negsuc n) f = let h : 18446744073709551616 - suc n < 18446744073709551616 = omega arith in h

pub alu_small : (op : AluOp) (a b : ℕ) → a < 2 ^ 64 → b < 2 ^ 64 → (alu op a b).0 < 2 ^ 64
unfolding alu sum difference
alu_small Add a b h k = let r : (a + b) % 18446744073709551616 < 2 ^ 64 = omega arith in r
alu_small Or a b h k = or_lt 64 a b h k
alu_small And a b h k = and_lt 64 a b h k
alu_small Sub a b h k = let r : (a + 18446744073709551616 - b) % 18446744073709551616 < 2 ^ 64 = omega arith in r
alu_small Xor a b h k = xor_lt 64 a b h k
alu_small Cmp a b h k = h

sum_small : (a b : ℕ) → (sum a b).0 < 2 ^ 64
unfolding sum
sum_small a b = let r : (a + b) % 18446744073709551616 < 2 ^ 64 = omega arith in r

left_small : (a n : ℕ) → (shift_left a n).0 < 2 ^ 64
unfolding shift_left
left_small a n = below (a * 2 ^ n)
  where
    below : (x : ℕ) → x % 18446744073709551616 < 2 ^ 64
    below x = omega arith

right_small : (a n : ℕ) → a < 2 ^ 64 → (shift_right a n).0 < 2 ^ 64
unfolding shift_right
right_small a n h = let l : a / 2 ^ n ≤ a = div-le_self a (2 ^ n) in omega arith

-- ---- registers and memory

pub set_words : (regs : List ℕ) (d v : ℕ) → AreWords regs → v < 2 ^ 64 → AreWords (set regs d v)
set_words [] d v h k r = h r
set_words (x ∷ xs) zero v h k zero = k
set_words (x ∷ xs) zero v h k (suc r) = h (suc r)
set_words (x ∷ xs) (suc d) v h k zero = h 0
set_words (x ∷ xs) (suc d) v h k (suc r) = set_words xs d v (λ i. h (suc i)) k r

pub put_words : (words : NatMap ℕ) (a v : ℕ) → HoldsWords words → v < 2 ^ 64 → HoldsWords (put_at words a v)
put_words words a v h k x = pick (x == a)
  where
    pick : (b : Bool) → (elim b [ true ↦ v | false ↦ words x ]) < 2 ^ 64
    pick true = k
    pick false = h x

-- ---- effects

unfoldable pub KeepsWords : Result Changed Event → Type 0
KeepsWords (Ok x) = AreWords x.0.regs × HoldsWords x.1
KeepsWords (Err e) = Unit {0}

on_unless : {A : Type 0} (o : Option Event) (x : A) (f : A → Result Changed Event) → KeepsWords (f x) → KeepsWords (unless o x >>= f)
unfolding KeepsWords
on_unless None x f h = h
on_unless (Some e) x f h = tt

on_jump : (b : Bool) (t u : Task) (e : Event) (words : NatMap ℕ) → AreWords t.regs → AreWords u.regs → HoldsWords words
    → KeepsWords ((if b then Ok t else Err e) >>= (λ (x : Task). Ok (x, words)))
unfolding KeepsWords
on_jump true t u e words h k w = (h, w)
on_jump false t u e words h k w = tt

module _ (v : View) (t : Task) (regs : AreWords t.regs) (words : HoldsWords v.words) where
  pushes : (x : Task) (n : ℕ) → AreWords x.regs → n < 2 ^ 64 → KeepsWords (pushed v x n)
  unfolding KeepsWords
  pushes x n h k =
      let a : ℕ = (reg x 4 + 18446744073709551616 - 8) % 18446744073709551616 in
      on_unless _ (put_at v.words a n) (λ ws. Ok (with_reg x 4 a, ws)) (set_words x.regs 4 a h (omega arith), put_words v.words a n words k)

  -- `cmpxchg`
  compares : (w s : ℕ) → w < 2 ^ 64 → AreWords (compared t w s).0.regs × ((compared t w s).1 < 2 ^ 64)
  compares w s k = pick (reg t 0 == w)
    where
      chosen : Bool → Task × ℕ
      chosen b = let t' : Task = in_flags t (difference (reg t 0) w).1 in if b then (t', reg t s) else (with_reg t' 0 w, w)

      pick : (b : Bool) → AreWords (chosen b).0.regs × ((chosen b).1 < 2 ^ 64)
      pick true = (regs, regs s)
      pick false = (set_words t.regs 0 w regs k, k)

  pub keeps : (i : Ins) → FieldsFit i → KeepsWords (effect v t i)
  unfolding effect KeepsWords
  keeps (MovImm d n) h = (set_words t.regs d n regs h.1, words)
  keeps (MovReg d s) h = (set_words t.regs d (reg t s) regs (regs s), words)
  keeps (Load d b n) h = on_unless _ (v.words _) (λ x. Ok (with_reg t d x, v.words)) (set_words t.regs d (v.words _) regs (words _), words)
  keeps (Store b n s) h = on_unless _ (put_at v.words _ (reg t s)) (λ ws. Ok (t, ws)) (regs, put_words v.words _ (reg t s) words (regs s))
  keeps (StoreImm b n i) h = on_unless _ (put_at v.words _ (sign_extend i)) (λ ws. Ok (t, ws))
      (regs, put_words v.words _ (sign_extend i) words (sign_small i h.2))
  keeps (GsLoad d n) h = on_unless _ (v.words _) (λ x. Ok (with_reg t d x, v.words)) (set_words t.regs d (v.words _) regs (words _), words)
  keeps (GsStore n s) h = on_unless _ (put_at v.words _ (reg t s)) (λ ws. Ok (t, ws)) (regs, put_words v.words _ (reg t s) words (regs s))
  keeps (GsPush n) h = on_unless _ (v.words _) (λ x. pushed v t x) (pushes t (v.words _) regs (words _))
  keeps (Alu op d s) h = (set_words t.regs d (alu op (reg t d) (reg t s)).0 regs (alu_small op (reg t d) (reg t s) (regs d) (regs s)), words)
  keeps (AluImm op d i) h =
      (set_words t.regs d (alu op (reg t d) (sign_extend i)).0 regs (alu_small op (reg t d) (sign_extend i) (regs d) (sign_small i h.1)), words)
  keeps (Shl d n) h = (set_words t.regs d (shift_left (reg t d) n).0 regs (left_small (reg t d) n), words)
  keeps (Shr d n) h = (set_words t.regs d (shift_right (reg t d) n).0 regs (right_small (reg t d) n (regs d)), words)
  keeps (Xchg b n s) h = on_unless _ (put_at v.words _ (reg t s)) (λ ws. Ok (with_reg t s (v.words _), ws))
      (set_words t.regs s (v.words _) regs (words _), put_words v.words _ (reg t s) words (regs s))
  keeps (Xadd b n s) h =
      let a : ℕ = displaced (reg t b) n in
      let r : ℕ × Status = sum (v.words a) (reg t s) in
      on_unless _ (put_at v.words a r.0) (λ ws. Ok (in_flags (with_reg t s (v.words a)) r.1, ws))
      (set_words t.regs s (v.words a) regs (words a), put_words v.words a r.0 words (sum_small (v.words a) (reg t s)))
  keeps (CmpXchg b n s) h =
      let c = compares (v.words _) s (words _) in
      on_unless _ (put_at v.words _ (compared t (v.words _) s).1) (λ ws. Ok ((compared t (v.words _) s).0, ws))
      (c.0, put_words v.words _ (compared t (v.words _) s).1 words c.1)
  keeps (Jmp n) h = on_jump (is_canonical (displaced t.rip n)) (record t { rip = displaced t.rip n }) t (gp 0) v.words regs regs words
  keeps (Jcc c n) h = pick (holds c t.flags.status)
    where
      pick : (b : Bool) → KeepsWords ((if b then jumped t (displaced t.rip n) else Ok t) >>= (λ (x : Task). Ok (x, v.words)))
      pick true = on_jump (is_canonical (displaced t.rip n)) (record t { rip = displaced t.rip n }) t (gp 0) v.words regs regs words
      pick false = (regs, words)
  keeps (JmpReg s) h = on_jump (is_canonical (reg t s)) (record t { rip = reg t s }) t (gp 0) v.words regs regs words
  keeps (Push s) h = pushes t (reg t s) regs (regs s)
  keeps (PushImm i) h = pushes t (sign_extend i) regs (sign_small i h)
  keeps (Pop d) h =
      let a : ℕ = (reg t 4 + 8) % 18446744073709551616 in
      on_unless _ (v.words (reg t 4)) (λ x. Ok (with_reg (with_reg t 4 a) d x, v.words))
      (set_words (set t.regs 4 a) d (v.words (reg t 4)) (set_words t.regs 4 a regs (omega arith)) (words (reg t 4)), words)
  keeps i h = (regs, words)

-- ---- a step

StepKeeps : UserStep → Type 0
StepKeeps (Goes t words) = AreWords t.regs × HoldsWords words
StepKeeps (Raises saved e) = Unit {0}

by_effect : (t : Task) (r : Result Changed Event) → KeepsWords r → StepKeeps (step_of t r)
unfolding KeepsWords StepKeeps
by_effect t (Ok x) h = h
by_effect t (Err e) h = tt

-- what is read of bytes has fields that fit
pub fields_fit : (u : UserMemory) (t : Task) → ((i : ℕ) → get_or u.text i 0 < 256) → (i : Ins) → reading (text_bytes u.text t.rip) ≡ Some i → FieldsFit i
fields_fit u t bytes i q =
    let k = reading_begins (text_bytes u.text t.rip) i q in
    (read_takes (text_bytes u.text t.rip) i k.1.0 (λ n. byte_small u.text t.rip n bytes) k.1.2).0.fields

module _ (u : UserMemory) (t : Task) (bytes : (i : ℕ) → get_or u.text i 0 < 256) (regs : AreWords t.regs) (words : HoldsWords u.words) where
  executes : (i : Ins) (next : ℕ) → FieldsFit i → StepKeeps (user.executed (user_view u) t next i)
  unfolding user.executed StepKeeps
  executes Int1 next h = tt
  executes Int3 next h = tt
  executes Syscall next h = tt
  executes (IntN n) next h = pick (n == 3)
    where
      pick : (b : Bool) → StepKeeps (if b then Raises next (software SoftInt 3 2) else Raises t.rip (gp (8 * n + 2)))
      pick true = tt
      pick false = tt
  executes Sti next h = tt
  executes Cli next h = tt
  executes Ud2 next h = tt
  executes i next h = pick (user_may i)
    where
      pick : (b : Bool) → StepKeeps (if b then step_of t (effect (user_view u) (record t { rip = next }) i) else Raises t.rip ud)
      pick true = by_effect t (effect (user_view u) (record t { rip = next }) i) (keeps (user_view u) (record t { rip = next }) regs words i h)
      pick false = tt

  by_read : (o : Option Ins) → reading (text_bytes u.text t.rip) ≡ o → StepKeeps (read_step (user_view u) t o)
  unfolding StepKeeps
  by_read None q = tt
  by_read (Some i) q = executes i (t.rip + length (spelling i)) (fields_fit u t bytes i q)

  by_fetch : (o : Option ℕ) → StepKeeps (fetch_step u t o)
  unfolding StepKeeps
  by_fetch None = by_read (reading (text_bytes u.text t.rip)) refl
  by_fetch (Some code) = tt

  steps : StepKeeps (user_step u t)
  unfolding user_step
  steps = by_fetch (fault_at u.present (record { user = true; write = false; fetch = true }) (place_of t.rip))

pub user_keeps_words : UserKeepsWords
unfolding StepKeeps
user_keeps_words u t t' words small regs held goes = subst StepKeeps goes (steps u t (all_small u.text small) regs held)
