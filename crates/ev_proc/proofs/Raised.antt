-- Each event that an instruction, a delivery or a return raises is a hardware exception.
use Rattle.std.proofs.Common.{◌+◌, ◌-◌, ◌^◌, ℕ, Bool, true, false, not, ◌||◌, ◌==◌, if◌then◌else◌, List, [], ◌∷◌, Option, Some, None, Result, Ok, Err, refl}
use Rattle.ev_isa.specs.Word.{NatMap, is_canonical, is_aligned, displaced, wrap, sign_extend}
use Rattle.ev_isa.specs.Flags.{holds}
use Rattle.ev_isa.specs.Pages.{View}
use Rattle.ev_isa.specs.declared.instruction.Ins.{Ins}
use Rattle.ev_isa.specs.declared.instruction.Ins.TheVariants.{MovImm, MovReg, Load, Store, StoreImm, GsLoad, GsStore, GsPush, Alu, AluImm, Shl, Shr, Xchg, CmpXchg, Xadd, Jmp, Jcc, JmpReg, Push, PushImm, Pop, IntN, Lkgs, MovGs, ReadCr2, WriteCr2, Int3, Int1, Syscall, Sysretq, Iretq, Swapgs, Eretu, Erets, Rdmsr, Wrmsr, Sti, Cli, Ud2}
use Rattle.ev_event.specs.declared.event.Event.{Event}
use Rattle.ev_event.specs.Event.{exception, ss, gp, ac}
use Rattle.ev_effect.specs.Task.{Task, reg}
use Rattle.ev_effect.specs.Effect.{◌>>=◌, Changed, effect, access_event, page_event, unless, read_word, write_word, bad_address, jumped, pushed}
use Rattle.ev_effect.specs.Frame.{first_event, or_else}
use Rattle.ev_state.specs.Processor.{Processor, is_user, task_of, selector, register}
use Rattle.ev_state.specs.Descriptors.{base_of}
use Rattle.ev_mem.specs.Memory.{Memory, view}
use Rattle.ev_exec.specs.Exec.{Executed, Done, Raise, Special, exec, changed, mov_gs, with_gs, by_outcome}
use Rattle.ev_proc.specs.Conditions.{IsException}

pub is_exception : (v e i : ℕ) → IsException (exception v e i)
is_exception v e i = record { kind = refl; no_length = refl }

abbrev pub IsNoOther : Option Event → Type 0
IsNoOther None = Unit {0}
IsNoOther (Some e) = IsException e

abbrev pub Raises : {A : Type 0} → Result A Event → Type 0
Raises (Ok x) = Unit {0}
Raises (Err e) = IsException e

abbrev pub RaisesWhere : Executed → Type 0
RaisesWhere (Done c words) = Unit {0}
RaisesWhere (Raise e) = IsException e
RaisesWhere Special = Unit {0}

choice : {A : Type 0} (P : A → Type 0) (b : Bool) (x y : A) → P x → P y → P (if b then x else y)
choice P true x y p q = p
choice P false x y p q = q

bind : {A B : Type 0} (r : Result A Event) (f : A → Result B Event) → Raises r → ((x : A) → Raises (f x)) → Raises (r >>= f)
bind (Ok x) f p q = q x
bind (Err e) f p q = p

page : (o : Option ℕ) (a : ℕ) → IsNoOther (page_event o a)
page None a = tt
page (Some code) a = is_exception 14 code a

pub access : (m : View) (write : Bool) (bad : Event) (a : ℕ) → IsException bad → IsNoOther (access_event m write bad a)
unfolding access_event
access m write bad a p =
    choice IsNoOther (not (is_canonical a)) (Some bad) (if not (is_aligned a) then Some ac else page_event (m.fault write a) a) p
    (choice IsNoOther (not (is_aligned a)) (Some ac) (page_event (m.fault write a) a) (is_exception 17 0 0) (page (m.fault write a) a))

either : (d e : Option Event) → IsNoOther d → IsNoOther e → IsNoOther (or_else d e)
either None e p q = q
either (Some d) e p q = p

pub first : (m : View) (write : Bool) (as' : List ℕ) → IsNoOther (first_event m write as')
first m write [] = tt
first m write (a ∷ as') = either (access_event m write (ss 0) a) (first_event m write as') (access m write (ss 0) a (is_exception 12 0 0)) (first m write as')

unless_raises : {A : Type 0} (o : Option Event) (x : A) → IsNoOther o → Raises (unless o x)
unless_raises None x p = tt
unless_raises (Some e) x p = p

read : (m : View) (bad : Event) (a : ℕ) → IsException bad → Raises (read_word m bad a)
read m bad a p = unless_raises (access_event m false bad a) (m.words a) (access m false bad a p)

write : (m : View) (bad : Event) (a v : ℕ) → IsException bad → Raises (write_word m bad a v)
write m bad a v p = unless_raises (access_event m true bad a) _ (access m true bad a p)

bad : (b : ℕ) → IsException (bad_address b)
bad b = choice IsException ((b == 4) || (b == 5)) (ss 0) (gp 0) (is_exception 12 0 0) (is_exception 13 0 0)

jump : (t : Task) (a : ℕ) → Raises (jumped t a)
jump t a = choice Raises (is_canonical a) (Ok (record t { rip = a })) (Err (gp 0)) tt (is_exception 13 0 0)

push : (m : View) (t : Task) (v : ℕ) → Raises (pushed m t v)
push m t v = bind (write_word m (ss 0) (wrap (reg t 4 + 2 ^ 64 - 8)) v) _ (write m (ss 0) (wrap (reg t 4 + 2 ^ 64 - 8)) v (is_exception 12 0 0)) (λ ws. tt)

pub effect_raises : (m : View) (t : Task) (i : Ins) → Raises (effect m t i)
unfolding effect
effect_raises m t (MovImm d n) = tt
effect_raises m t (MovReg d s) = tt
effect_raises m t (Load d b n) = bind (read_word m (bad_address b) (displaced (reg t b) n)) _ (read m (bad_address b) (displaced (reg t b) n) (bad b)) (λ v. tt)
effect_raises m t (Store b n s) = bind (write_word m (bad_address b) (displaced (reg t b) n) (reg t s)) _
    (write m (bad_address b) (displaced (reg t b) n) (reg t s) (bad b)) (λ ws. tt)
effect_raises m t (StoreImm b n i) = bind (write_word m (bad_address b) (displaced (reg t b) n) (sign_extend i)) _
    (write m (bad_address b) (displaced (reg t b) n) (sign_extend i) (bad b)) (λ ws. tt)
effect_raises m t (GsLoad d n) = bind (read_word m (gp 0) (displaced t.gs n)) _ (read m (gp 0) (displaced t.gs n) (is_exception 13 0 0)) (λ v. tt)
effect_raises m t (GsStore n s) =
    bind (write_word m (gp 0) (displaced t.gs n) (reg t s)) _ (write m (gp 0) (displaced t.gs n) (reg t s) (is_exception 13 0 0)) (λ ws. tt)
effect_raises m t (GsPush n) = bind (read_word m (gp 0) (displaced t.gs n)) _ (read m (gp 0) (displaced t.gs n) (is_exception 13 0 0)) (λ v. push m t v)
effect_raises m t (Alu op d s) = tt
effect_raises m t (AluImm op d i) = tt
effect_raises m t (Shl d n) = tt
effect_raises m t (Shr d n) = tt
effect_raises m t (Xchg b n s) = bind (write_word m (bad_address b) (displaced (reg t b) n) (reg t s)) _
    (write m (bad_address b) (displaced (reg t b) n) (reg t s) (bad b)) (λ ws. tt)
effect_raises m t (Xadd b n s) = bind (write_word m (bad_address b) (displaced (reg t b) n) _) _ (write m (bad_address b) (displaced (reg t b) n) _ (bad b))
    (λ ws. tt)
effect_raises m t (CmpXchg b n s) =
    bind (write_word m (bad_address b) (displaced (reg t b) n) _) _ (write m (bad_address b) (displaced (reg t b) n) _ (bad b)) (λ ws. tt)
effect_raises m t (Jmp n) = bind (jumped t (displaced t.rip n)) _ (jump t (displaced t.rip n)) (λ t'. tt)
effect_raises m t (Jcc c n) = bind (if holds c t.flags.status then jumped t (displaced t.rip n) else Ok t) _
    (choice Raises (holds c t.flags.status) (jumped t (displaced t.rip n)) (Ok t) (jump t (displaced t.rip n)) tt) (λ t'. tt)
effect_raises m t (JmpReg s) = bind (jumped t (reg t s)) _ (jump t (reg t s)) (λ t'. tt)
effect_raises m t (Push s) = push m t (reg t s)
effect_raises m t (PushImm i) = push m t (sign_extend i)
effect_raises m t (Pop d) = bind (read_word m (ss 0) (reg t 4)) _ (read m (ss 0) (reg t 4) (is_exception 12 0 0)) (λ v. tt)
effect_raises m t _ = tt

changed_raises : (c : Processor) (r : Result Changed Event) → Raises r → RaisesWhere (changed c r)
changed_raises c (Ok x) p = tt
changed_raises c (Err e) p = p

gs_raises : (c : Processor) (words : NatMap ℕ) (s next : ℕ) (b : Option ℕ) → RaisesWhere (by_outcome next (with_gs c words s b))
gs_raises c words s next None = is_exception 13 s 0
gs_raises c words s next (Some base) = tt

pub exec_raises : (c : Processor) (m : Memory) (i : Ins) (next : ℕ) → RaisesWhere (exec c m i next)
unfolding exec mov_gs
exec_raises c m (IntN n) next = tt
exec_raises c m Int3 next = tt
exec_raises c m Int1 next = tt
exec_raises c m Syscall next = tt
exec_raises c m Ud2 next = tt
exec_raises c m Sysretq next = tt
exec_raises c m Iretq next = tt
exec_raises c m Eretu next = tt
exec_raises c m Erets next = tt
exec_raises c m Rdmsr next = tt
exec_raises c m Wrmsr next = tt
exec_raises c m Swapgs next = tt
exec_raises c m (Lkgs s) next = tt
exec_raises c m Sti next = choice RaisesWhere (is_user c) (Raise (gp 0)) (Done _ m.words) (is_exception 13 0 0) tt
exec_raises c m Cli next = choice RaisesWhere (is_user c) (Raise (gp 0)) (Done _ m.words) (is_exception 13 0 0) tt
exec_raises c m (MovGs s) next = gs_raises c m.words (selector (register c s)) next (base_of c.gdt (selector (register c s)))
exec_raises c m (ReadCr2 d) next = tt
exec_raises c m (WriteCr2 s) next = tt
exec_raises c m i next = changed_raises c (effect (view m (is_user c)) (record (task_of c) { rip = next }) i)
    (effect_raises (view m (is_user c)) (record (task_of c) { rip = next }) i)
