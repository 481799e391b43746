-- The effect of an instruction over two views of memory that are alike where the code has access: the same task, the same write, or the same fault.
use Rattle.std.proofs.Common.{◌≡◌, ℕ, ◌+◌, ◌-◌, ◌^◌, ◌<◌, Bool, true, false, not, length, set, Option, Some, None, Result, Ok, Err, refl, sym, ap, ◌∙◌, subst}
use Rattle.std.specs.Prelude.{◌==◌, ◌||◌, if◌then◌else◌}
use Rattle.std.proofs.lemmas.List.{length-set}
use Rattle.ev_isa.specs.Word.{put_at, wrap, sign_extend, displaced, is_canonical, is_aligned}
use Rattle.ev_isa.specs.Flags.{Status, sum, difference, alu, shift_left, shift_right, holds}
use Rattle.ev_isa.specs.Pages.{View}
use Rattle.ev_isa.specs.declared.instruction.Ins.{Ins}
use Rattle.ev_isa.specs.declared.instruction.Ins.TheVariants.{MovImm, MovReg, Load, Store, StoreImm, GsLoad, GsStore, GsPush, Alu, AluImm, Shl, Shr, Xchg, CmpXchg, Xadd, Jmp, Jcc, JmpReg, Push, PushImm, Pop}
use Rattle.ev_event.specs.declared.event.Event.{Event}
use Rattle.ev_event.specs.Event.{ss, gp, ac, pf}
use Rattle.ev_effect.specs.Task.{Task, reg, with_reg}
use Rattle.ev_effect.specs.Effect.{Changed, effect, ◌>>=◌, unless, access_event, page_event, read_word, write_word, bad_address, jumped, pushed, compared, with_result, in_flags}
use Rattle.ev_user.specs.Sees.{with_write}
use Rattle.ev_user.specs.Causes.{Fault, Stack, Protection, Page, Alignment, fault_event, Faulted, IsCause}

-- the same faults, of small codes, and the same words where there is none
pub record AreAlike (v w : View) : Type 0 where
  pub faults : (write : Bool) (a : ℕ) → v.fault write a ≡ w.fault write a
  pub codes : (write : Bool) (a code : ℕ) → v.fault write a ≡ Some code → code < 32
  pub words : (write : Bool) (a : ℕ) → is_aligned a ≡ true → v.fault write a ≡ None → v.words a ≡ w.words a

-- a word that can be written
abbrev pub IsOpenTo : View → Option (ℕ × ℕ) → Type 0
IsOpenTo v None = Unit {0}
IsOpenTo v (Some x) = (is_aligned x.0 ≡ true) × (v.fault true x.0 ≡ None)

-- what an instruction leaves of a task: its GS base, the number of registers, IF, and that RIP is canonical
pub record Keeps (t u : Task) : Type 0 where
  pub gs : u.gs ≡ t.gs
  pub long : length u.regs ≡ length t.regs
  pub interrupts : u.flags.interrupts ≡ t.flags.interrupts
  pub canonical : is_canonical t.rip ≡ true → is_canonical u.rip ≡ true

module _ (v w : View) (alike : AreAlike v w) (t : Task) where
  pub record Did (x y : Changed) : Type 0 where
    pub task : x.0 ≡ y.0
    pub write : Option (ℕ × ℕ)
    pub left : x.1 ≡ with_write v.words write
    pub right : y.1 ≡ with_write w.words write
    pub open_to : IsOpenTo v write
    pub keeps : Keeps t x.0

  pub record Faults (e f : Event) : Type 0 where
    pub same : e ≡ f
    pub fault : Fault
    pub is : IsCause (Faulted fault)
    pub event : e ≡ fault_event fault

  abbrev pub Alike : Result Changed Event → Result Changed Event → Type 0
  Alike (Ok x) (Ok y) = Did x y
  Alike (Err e) (Err f) = Faults e f
  Alike _ _ = ⊥

  fails : (f : Fault) → IsCause (Faulted f) → Faults (fault_event f) (fault_event f)
  fails f h = record { same = refl; fault = f; is = h; event = refl }

  -- the event of an address that isn't canonical
  record IsBad (e : Event) : Type 0 where
    fault : Fault
    is : IsCause (Faulted fault)
    event : e ≡ fault_event fault

  is_ss : IsBad (ss 0)
  is_ss = record { fault = Stack; is = tt; event = refl }

  is_gp : IsBad (gp 0)
  is_gp = record { fault = Protection; is = tt; event = refl }

  is_bad : (b : ℕ) → IsBad (bad_address b)
  is_bad b = pick ((b == 4) || (b == 5))
    where
      pick : (x : Bool) → IsBad (if x then ss 0 else gp 0)
      pick true = is_ss
      pick false = is_gp

  -- an access, and what follows it
  access : {A : Type 0} (write : Bool) (bad : Event) (a : ℕ) (x y : A) (f g : A → Result Changed Event) → IsBad bad
      → (is_aligned a ≡ true → v.fault write a ≡ None → Alike (f x) (g y))
      → Alike (unless (access_event v write bad a) x >>= f) (unless (access_event w write bad a) y >>= g)
  unfolding access_event
  access {A = A} write bad a x y f g h k = pick (is_canonical a) (is_aligned a) (v.fault write a) (w.fault write a) refl refl refl (sym (alike.faults write a))
    where
      of : Bool → Bool → Option ℕ → Option Event
      of p q o = if not p then Some bad else (if not q then Some ac else page_event o a)

      pick : (p q : Bool) (o o' : Option ℕ) → is_canonical a ≡ p → is_aligned a ≡ q → v.fault write a ≡ o → o' ≡ v.fault write a
          → Alike (unless (of p q o) x >>= f) (unless (of p q o') y >>= g)
      pick false q o o' hp hq ho e = record { same = refl; fault = h.fault; is = h.is; event = h.event }
      pick true false o o' hp hq ho e = fails Alignment tt
      pick true true None None hp hq ho e = k hq ho
      pick true true (Some code) (Some code') hp hq ho e =
          let same : code ≡ code' = cc in
          record {
            same = ap (λ n. pf n a) same;
            fault = Page code a;
            is = (alike.codes write a code ho, hp);
            event = refl;
          }
      pick true true None (Some code) hp hq ho e = absurd (cc)
      pick true true (Some code) None hp hq ho e = absurd (cc)

  -- a read: the same word goes on
  reads : (bad : Event) (a : ℕ) (f g : ℕ → Result Changed Event) → IsBad bad → ((n : ℕ) → Alike (f n) (g n))
      → Alike (read_word v bad a >>= f) (read_word w bad a >>= g)
  reads bad a f g h k =
      access false bad a (v.words a) (w.words a) f g h
      (λ p q. subst (λ n. Alike (f (v.words a)) (g n)) (alike.words false a p q) (k (v.words a)))

  -- a write that ends the instruction, of a value and a task that depend on the word that was there
  writes : (bad : Event) (a : ℕ) (value : ℕ → ℕ) (to : ℕ → Task) → IsBad bad → ((n : ℕ) → Keeps t (to n))
      → Alike (write_word v bad a (value (v.words a)) >>= (λ ws. Ok (to (v.words a), ws)))
      (write_word w bad a (value (w.words a)) >>= (λ ws. Ok (to (w.words a), ws)))
  writes bad a value to h k =
      access true bad a (put_at v.words a (value (v.words a))) (put_at w.words a (value (w.words a)))
      (λ ws. Ok (to (v.words a), ws)) (λ ws. Ok (to (w.words a), ws)) h
      (λ p q. record {
        task = ap to (alike.words true a p q);
        write = Some (a, value (v.words a));
        left = refl;
        right = ap (λ n. put_at w.words a (value n)) (sym (alike.words true a p q));
        open_to = (p, q);
        keeps = k (v.words a);
      })

  -- no access
  only : (u : Task) → Keeps t u → Alike (Ok (u, v.words)) (Ok (u, w.words))
  only u k = record { task = refl; write = None; left = refl; right = refl; open_to = tt; keeps = k }

  -- ---- tasks

  stays : Keeps t t
  stays = record { gs = refl; long = refl; interrupts = refl; canonical = λ h. h }

  sets : (d n : ℕ) → Keeps t (with_reg t d n)
  sets d n = record { gs = refl; long = length-set t.regs d n; interrupts = refl; canonical = λ h. h }

  results : (d : ℕ) (r : ℕ × Status) → Keeps t (with_result t d r)
  results d r = record { gs = refl; long = length-set t.regs d r.0; interrupts = refl; canonical = λ h. h }

  jumps : (a : ℕ) → Alike (jumped t a >>= (λ u. Ok (u, v.words))) (jumped t a >>= (λ u. Ok (u, w.words)))
  jumps a = pick (is_canonical a) refl
    where
      at : Task
      at = record t { rip = a }

      pick : (b : Bool) → is_canonical a ≡ b
          → Alike ((if b then Ok at else Err (gp 0)) >>= (λ u. Ok (u, v.words))) ((if b then Ok at else Err (gp 0)) >>= (λ u. Ok (u, w.words)))
      pick true q = only at (record { gs = refl; long = refl; interrupts = refl; canonical = λ h. q })
      pick false q = fails Protection tt

  branches : (b : Bool) (a : ℕ)
      → Alike ((if b then jumped t a else Ok t) >>= (λ u. Ok (u, v.words))) ((if b then jumped t a else Ok t) >>= (λ u. Ok (u, w.words)))
  branches true a = jumps a
  branches false a = only t stays

  pushes : (n : ℕ) → Alike (pushed v t n) (pushed w t n)
  pushes n =
      let a : ℕ = wrap (reg t 4 + 2 ^ 64 - 8) in
      writes (ss 0) a (λ m. n) (λ m. with_reg t 4 a) is_ss (λ m. sets 4 a)

  compares : (n s : ℕ) → Keeps t (compared t n s).0
  compares n s = pick (reg t 0 == n)
    where
      u : Task
      u = in_flags t (difference (reg t 0) n).1

      pick : (b : Bool) → let r : Task × ℕ = (if b then (u, reg t s) else (with_reg u 0 n, n)) in Keeps t r.0
      pick true = record { gs = refl; long = refl; interrupts = refl; canonical = λ h. h }
      pick false = record { gs = refl; long = length-set t.regs 0 n; interrupts = refl; canonical = λ h. h }

  pops : (d n a : ℕ) → Keeps t (with_reg (with_reg t 4 a) d n)
  pops d n a = record { gs = refl; long = length-set (set t.regs 4 a) d n ∙ length-set t.regs 4 a; interrupts = refl; canonical = λ h. h }

  -- every instruction has the same effect
  pub effects : (i : Ins) → Alike (effect v t i) (effect w t i)
  unfolding effect
  effects (MovImm d n) = only (with_reg t d n) (sets d n)
  effects (MovReg d s) = only (with_reg t d (reg t s)) (sets d (reg t s))
  effects (Load d b n) = reads (bad_address b) (displaced (reg t b) n) (λ x. Ok (with_reg t d x, v.words)) (λ x. Ok (with_reg t d x, w.words)) (is_bad b)
      (λ x. only (with_reg t d x) (sets d x))
  effects (Store b n s) = writes (bad_address b) (displaced (reg t b) n) (λ x. reg t s) (λ x. t) (is_bad b) (λ x. stays)
  effects (StoreImm b n i) = writes (bad_address b) (displaced (reg t b) n) (λ x. sign_extend i) (λ x. t) (is_bad b) (λ x. stays)
  effects (GsLoad d n) = reads (gp 0) (displaced t.gs n) (λ x. Ok (with_reg t d x, v.words)) (λ x. Ok (with_reg t d x, w.words)) is_gp
      (λ x. only (with_reg t d x) (sets d x))
  effects (GsStore n s) = writes (gp 0) (displaced t.gs n) (λ x. reg t s) (λ x. t) is_gp (λ x. stays)
  effects (GsPush n) = reads (gp 0) (displaced t.gs n) (pushed v t) (pushed w t) is_gp pushes
  effects (Alu op d s) = let r : ℕ × Status = alu op (reg t d) (reg t s) in only (with_result t d r) (results d r)
  effects (AluImm op d i) = let r : ℕ × Status = alu op (reg t d) (sign_extend i) in only (with_result t d r) (results d r)
  effects (Shl d n) = let r : ℕ × Status = shift_left (reg t d) n in only (with_result t d r) (results d r)
  effects (Shr d n) = let r : ℕ × Status = shift_right (reg t d) n in only (with_result t d r) (results d r)
  effects (Xchg b n s) = writes (bad_address b) (displaced (reg t b) n) (λ x. reg t s) (λ x. with_reg t s x) (is_bad b) (sets s)
  effects (Xadd b n s) =
      writes (bad_address b) (displaced (reg t b) n) (λ x. (sum x (reg t s)).0) (λ x. in_flags (with_reg t s x) (sum x (reg t s)).1) (is_bad b)
      (λ x. results s (x, (sum x (reg t s)).1))
  effects (CmpXchg b n s) = writes (bad_address b) (displaced (reg t b) n) (λ x. (compared t x s).1) (λ x. (compared t x s).0) (is_bad b) (λ x. compares x s)
  effects (Jmp n) = jumps (displaced t.rip n)
  effects (Jcc c n) = branches (holds c t.flags.status) (displaced t.rip n)
  effects (JmpReg s) = jumps (reg t s)
  effects (Push s) = pushes (reg t s)
  effects (PushImm i) = pushes (sign_extend i)
  effects (Pop d) = let a : ℕ = wrap (reg t 4 + 8) in
      reads (ss 0) (reg t 4) (λ x. Ok (with_reg (with_reg t 4 a) d x, v.words)) (λ x. Ok (with_reg (with_reg t 4 a) d x, w.words)) is_ss
      (λ x. only (with_reg (with_reg t 4 a) d x) (pops d x a))
  effects i = only t stays
