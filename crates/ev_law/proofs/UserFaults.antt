-- What user code raises is never an interrupt.
use Rattle.std.specs.Prelude.{◌≡◌, refl, ℕ, ◌+◌, ◌*◌, ◌-◌, ◌^◌, Bool, true, false, not, ◌||◌, ◌==◌, if◌then◌else◌, Option, Some, None, Result, Ok, Err, length}
use Rattle.ev_isa.specs.Word.{put_at, wrap, sign_extend, displaced, is_canonical, is_aligned}
use Rattle.ev_isa.specs.Flags.{Status, sum, holds}
use Rattle.ev_isa.specs.Spelling.{spelling}
use Rattle.ev_isa.specs.Reading.{reading}
use Rattle.ev_isa.specs.Pages.{View, UserMemory, fault_at, place_of}
use Rattle.ev_isa.specs.Instruction.{user_may}
use Rattle.ev_isa.specs.declared.instruction.Ins.{Ins}
use Rattle.ev_isa.specs.declared.instruction.Ins.TheVariants.{Load, Store, StoreImm, GsLoad, GsStore, GsPush, Xchg, CmpXchg, Xadd, Jmp, Jcc, JmpReg, Push, PushImm, Pop, IntN, Int3, Int1, Syscall, Sti, Cli, Ud2}
use Rattle.ev_event.specs.declared.event.Event.{Event}
use Rattle.ev_event.specs.Event.{ss, gp, pf, ac, ud, software}
use Rattle.ev_effect.specs.Task.{Task, reg}
use Rattle.ev_effect.specs.Effect.{Changed, effect, ◌>>=◌, unless, access_event, page_event, read_word, write_word, bad_address, jumped, pushed, compared}
use Rattle.ev_abstract.specs.UserCode.{UserStep, Goes, Raises, step_of, executed, read_step, fetch_step, user_step, user_view, text_bytes}
use Rattle.ev_law.proofs.Delivery.{is_fault}

abbrev MayFault : Option Event → Type 0
MayFault None = Unit {0}
MayFault (Some e) = is_fault e ≡ true

abbrev FaultsOnly : {A : Type 0} → Result A Event → Type 0
FaultsOnly (Ok x) = Unit {0}
FaultsOnly (Err e) = is_fault e ≡ true

abbrev pub RaisesFaults : UserStep → Type 0
RaisesFaults (Goes t words) = Unit {0}
RaisesFaults (Raises saved e) = is_fault e ≡ true

bind_faults : {A B : Type 0} (r : Result A Event) (f : A → Result B Event) → FaultsOnly r → ((x : A) → FaultsOnly (f x)) → FaultsOnly (r >>= f)
bind_faults (Ok x) f h k = k x
bind_faults (Err e) f h k = h

unless_faults : {A : Type 0} (o : Option Event) (x : A) → MayFault o → FaultsOnly (unless o x)
unless_faults None x h = tt
unless_faults (Some e) x h = h

is_ss : (n : ℕ) → is_fault (ss n) ≡ true
unfolding is_fault
is_ss n = refl

is_gp : (n : ℕ) → is_fault (gp n) ≡ true
unfolding is_fault
is_gp n = refl

is_pf : (code a : ℕ) → is_fault (pf code a) ≡ true
unfolding is_fault
is_pf code a = refl

is_ac : is_fault ac ≡ true
unfolding is_fault
is_ac = refl

is_ud : is_fault ud ≡ true
unfolding is_fault
is_ud = refl

page_faults : (o : Option ℕ) (a : ℕ) → MayFault (page_event o a)
page_faults None a = tt
page_faults (Some code) a = is_pf code a

access_faults : (m : View) (write : Bool) (bad : Event) (a : ℕ) → is_fault bad ≡ true → MayFault (access_event m write bad a)
unfolding access_event
access_faults m write bad a h = pick (not (is_canonical a)) (not (is_aligned a))
  where
    pick : (x y : Bool) → MayFault (if x then Some bad else (if y then Some ac else page_event (m.fault write a) a))
    pick true y = h
    pick false true = is_ac
    pick false false = page_faults (m.fault write a) a

read_faults : (m : View) (bad : Event) (a : ℕ) → is_fault bad ≡ true → FaultsOnly (read_word m bad a)
read_faults m bad a h = unless_faults (access_event m false bad a) (m.words a) (access_faults m false bad a h)

write_faults : (m : View) (bad : Event) (a v : ℕ) → is_fault bad ≡ true → FaultsOnly (write_word m bad a v)
write_faults m bad a v h = unless_faults (access_event m true bad a) (put_at m.words a v) (access_faults m true bad a h)

bad_faults : (b : ℕ) → is_fault (bad_address b) ≡ true
bad_faults b = pick ((b == 4) || (b == 5))
  where
    pick : (x : Bool) → is_fault (if x then ss 0 else gp 0) ≡ true
    pick true = is_ss 0
    pick false = is_gp 0

jump_faults : (t : Task) (a : ℕ) → FaultsOnly (jumped t a)
jump_faults t a = pick (is_canonical a)
  where
    pick : (x : Bool) → FaultsOnly {A = Task} (if x then Ok (record t { rip = a }) else Err (gp 0))
    pick true = tt
    pick false = is_gp 0

push_faults : (m : View) (t : Task) (v : ℕ) → FaultsOnly (pushed m t v)
push_faults m t v =
    bind_faults (write_word m (ss 0) (wrap (reg t 4 + 2 ^ 64 - 8)) v) _ (write_faults m (ss 0) (wrap (reg t 4 + 2 ^ 64 - 8)) v (is_ss 0)) (λ ws. tt)

branch_faults : (x : Bool) (t : Task) (a : ℕ) → FaultsOnly {A = Task} (if x then jumped t a else Ok t)
branch_faults true t a = jump_faults t a
branch_faults false t a = tt

effect_faults : (m : View) (t : Task) (i : Ins) → FaultsOnly (effect m t i)
unfolding effect
effect_faults m t (Load d b n) =
    bind_faults (read_word m (bad_address b) (displaced (reg t b) n)) _ (read_faults m (bad_address b) (displaced (reg t b) n) (bad_faults b)) (λ v. tt)
effect_faults m t (Store b n s) =
    bind_faults (write_word m (bad_address b) (displaced (reg t b) n) (reg t s)) _
    (write_faults m (bad_address b) (displaced (reg t b) n) (reg t s) (bad_faults b)) (λ v. tt)
effect_faults m t (StoreImm b n i) =
    bind_faults (write_word m (bad_address b) (displaced (reg t b) n) (sign_extend i)) _
    (write_faults m (bad_address b) (displaced (reg t b) n) (sign_extend i) (bad_faults b)) (λ v. tt)
effect_faults m t (GsLoad d n) = bind_faults (read_word m (gp 0) (displaced t.gs n)) _ (read_faults m (gp 0) (displaced t.gs n) (is_gp 0)) (λ v. tt)
effect_faults m t (GsStore n s) =
    bind_faults (write_word m (gp 0) (displaced t.gs n) (reg t s)) _ (write_faults m (gp 0) (displaced t.gs n) (reg t s) (is_gp 0)) (λ v. tt)
effect_faults m t (GsPush n) =
    bind_faults (read_word m (gp 0) (displaced t.gs n)) _ (read_faults m (gp 0) (displaced t.gs n) (is_gp 0)) (λ v. push_faults m t v)
effect_faults m t (Xchg b n s) =
    bind_faults (write_word m (bad_address b) (displaced (reg t b) n) (reg t s)) _
    (write_faults m (bad_address b) (displaced (reg t b) n) (reg t s) (bad_faults b)) (λ v. tt)
effect_faults m t (Xadd b n s) = let r : ℕ × Status = sum (m.words (displaced (reg t b) n)) (reg t s) in
    bind_faults (write_word m (bad_address b) (displaced (reg t b) n) r.0) _ (write_faults m (bad_address b) (displaced (reg t b) n) r.0 (bad_faults b))
    (λ v. tt)
effect_faults m t (CmpXchg b n s) = let r : Task × ℕ = compared t (m.words (displaced (reg t b) n)) s in
    bind_faults (write_word m (bad_address b) (displaced (reg t b) n) r.1) _ (write_faults m (bad_address b) (displaced (reg t b) n) r.1 (bad_faults b))
    (λ v. tt)
effect_faults m t (Jmp n) = bind_faults (jumped t (displaced t.rip n)) _ (jump_faults t (displaced t.rip n)) (λ v. tt)
effect_faults m t (Jcc c n) =
    bind_faults (if holds c t.flags.status then jumped t (displaced t.rip n) else Ok t) _ (branch_faults (holds c t.flags.status) t (displaced t.rip n))
    (λ v. tt)
effect_faults m t (JmpReg s) = bind_faults (jumped t (reg t s)) _ (jump_faults t (reg t s)) (λ v. tt)
effect_faults m t (Push s) = push_faults m t (reg t s)
effect_faults m t (PushImm i) = push_faults m t (sign_extend i)
effect_faults m t (Pop d) = bind_faults (read_word m (ss 0) (reg t 4)) _ (read_faults m (ss 0) (reg t 4) (is_ss 0)) (λ v. tt)
effect_faults m t _ = tt

step_faults : (t : Task) (r : Result Changed Event) → FaultsOnly r → RaisesFaults (step_of t r)
step_faults t (Ok u) h = tt
step_faults t (Err e) h = h

may_faults : (m : View) (t u : Task) (i : Ins) (b : Bool) → RaisesFaults (if b then step_of t (effect m u i) else Raises t.rip ud)
may_faults m t u i true = step_faults t (effect m u i) (effect_faults m u i)
may_faults m t u i false = is_ud

intn_faults : (t : Task) (next n : ℕ) (b : Bool)
    → RaisesFaults (if b then Raises next (software Rattle.ev_event.specs.declared.event.EventType.TheVariants.SoftInt 3 2) else Raises t.rip
    (gp (8 * n + 2)))
unfolding is_fault
intn_faults t next n true = refl
intn_faults t next n false = refl

executed_faults : (m : View) (t : Task) (next : ℕ) (i : Ins) → RaisesFaults (executed m t next i)
unfolding executed is_fault
executed_faults m t next Int1 = refl
executed_faults m t next Int3 = refl
executed_faults m t next Syscall = refl
executed_faults m t next (IntN n) = intn_faults t next n (n == 3)
executed_faults m t next Sti = refl
executed_faults m t next Cli = refl
executed_faults m t next Ud2 = refl
executed_faults m t next i = may_faults m t (record t { rip = next }) i (user_may i)

read_step_faults : (m : View) (t : Task) (o : Option Ins) → RaisesFaults (read_step m t o)
read_step_faults m t None = is_ud
read_step_faults m t (Some i) = executed_faults m t (t.rip + length (spelling i)) i

fetch_faults : (m : UserMemory) (t : Task) (o : Option ℕ) → RaisesFaults (fetch_step m t o)
fetch_faults m t None = read_step_faults (user_view m) t (reading (text_bytes m.text t.rip))
fetch_faults m t (Some code) = is_pf code t.rip

pub user_step_faults : (m : UserMemory) (t : Task) → RaisesFaults (user_step m t)
unfolding user_step
user_step_faults m t = fetch_faults m t (fault_at m.present (record { user = true; write = false; fetch = true }) (place_of t.rip))
