-- The parts of a step by their cases.
use Rattle.std.proofs.Common.{◌≡◌, ◌+◌, ◌*◌, ◌^◌, ℕ, Bool, true, false, not, ◌&&◌, ◌==◌, if◌then◌else◌, Option, Some, None, Ok, Err, eqb-true, refl, sym, ap, ◌∙◌}
use Rattle.ev_isa.specs.declared.instruction.Ins.{Ins}
use Rattle.ev_isa.specs.declared.instruction.Ins.TheVariants.{IntN, Int3, Int1, Syscall, Sysretq, Iretq, Eretu, Erets, Rdmsr, Wrmsr, Swapgs, Lkgs}
use Rattle.ev_isa.specs.Instruction.{user_may}
use Rattle.ev_event.specs.declared.event.EventType.{EventType}
use Rattle.ev_event.specs.declared.event.EventType.TheVariants.{SoftInt, Other}
use Rattle.ev_event.specs.declared.event.Event.{Event}
use Rattle.ev_event.specs.Event.{ud, gp, software}
use Rattle.ev_state.specs.Msr.{Msrs, msr}
use Rattle.ev_state.specs.Processor.{Processor, is_user, register, selector}
use Rattle.ev_mem.specs.Memory.{Memory}
use Rattle.ev_apic.specs.declared.apic.Apic.{Apic}
use Rattle.ev_exec.specs.Exec.{at_next}
use Rattle.ev_idt.specs.IdtDelivery.{iretq, syscall_idt, sysretq, swapgs}
use Rattle.ev_fred.specs.FredDelivery.{eretu, erets, lkgs}
use Rattle.ev_event.specs.declared.boundary.Next.{Next}
use Rattle.ev_apic.specs.Send.{or_gp as sent_or_gp}
use Rattle.ev_apic.specs.declared.send.Send.{Send}
use Rattle.ev_isa.specs.declared.fault.Gp.{Gp}
use Rattle.ev_state.specs.Msr.{or_gp}
use Rattle.ev_proc.specs.declared.stepped.Stepped.{Stepped}
use Rattle.ev_proc.specs.ProcessorStep.{After, has_fred, delivering, fault, ran, after_return, after_outcome, after_read, after_send, special, system_call, low32, write_msr, executed, next_of, step, step_by}

pub then_is : {A : Type 0} (b : Bool) (x y : A) → true ≡ b → x ≡ (if b then x else y)
then_is true x y h = refl
then_is false x y h = cc

pub else_is : {A : Type 0} (b : Bool) (x y : A) → false ≡ b → y ≡ (if b then x else y)
else_is true x y h = cc
else_is false x y h = refl

pub by_event : (r : After) (c : Processor) (a : Apic) (m : Memory) (nmi : Bool) (e f : Event) → r ≡ fault c a m nmi e → e ≡ f → r ≡ fault c a m nmi f
by_event r c a m nmi e f h he = h ∙ ap (λ (x : Event). fault c a m nmi x) he

pub call_event : (c : Processor) (a : Apic) (m : Memory) (nmi : Bool) (next : ℕ) → true ≡ has_fred c
    → delivering c a m nmi (software Other 1 2) next ≡ system_call c a m nmi next
call_event c a m nmi next h = then_is (has_fred c) (delivering c a m nmi (software Other 1 2) next)
    (record { cpu = syscall_idt (record c { rip = next }); apic = a; words = m.words; nmi = nmi; step = Stepped.Delivered (software Other 1 2) None }) h

pub no_sysretq : (c : Processor) (a : Apic) (m : Memory) (nmi : Bool) (next : ℕ) → true ≡ has_fred c → fault c a m nmi ud ≡ special c a m nmi next Sysretq
unfolding special
no_sysretq c a m nmi next h = then_is (has_fred c) (fault c a m nmi ud) (after_return a m nmi (sysretq c m.words)) h

pub is_sysretq : (c : Processor) (a : Apic) (m : Memory) (nmi : Bool) (next : ℕ) → false ≡ has_fred c
    → after_return a m nmi (sysretq c m.words) ≡ special c a m nmi next Sysretq
unfolding special
is_sysretq c a m nmi next h = else_is (has_fred c) (fault c a m nmi ud) (after_return a m nmi (sysretq c m.words)) h

pub no_swapgs : (c : Processor) (a : Apic) (m : Memory) (nmi : Bool) (next : ℕ) → true ≡ has_fred c → fault c a m nmi ud ≡ special c a m nmi next Swapgs
unfolding special
no_swapgs c a m nmi next h = then_is (has_fred c) (fault c a m nmi ud) (ran (at_next (swapgs c) next) a m.words nmi) h

pub is_swapgs : (c : Processor) (a : Apic) (m : Memory) (nmi : Bool) (next : ℕ) → false ≡ has_fred c
    → ran (at_next (swapgs c) next) a m.words nmi ≡ special c a m nmi next Swapgs
unfolding special
is_swapgs c a m nmi next h = else_is (has_fred c) (fault c a m nmi ud) (ran (at_next (swapgs c) next) a m.words nmi) h

pub is_iretq : (c : Processor) (a : Apic) (m : Memory) (nmi : Bool) (next : ℕ) → after_return a m nmi (iretq c m) ≡ special c a m nmi next Iretq
unfolding special
is_iretq c a m nmi next = refl

pub no_eretu : (c : Processor) (a : Apic) (m : Memory) (nmi : Bool) (next : ℕ) → false ≡ has_fred c → fault c a m nmi ud ≡ special c a m nmi next Eretu
unfolding special
no_eretu c a m nmi next h = else_is (has_fred c) (after_return a m nmi (eretu c m)) (fault c a m nmi ud) h

pub is_eretu : (c : Processor) (a : Apic) (m : Memory) (nmi : Bool) (next : ℕ) → true ≡ has_fred c
    → after_return a m nmi (eretu c m) ≡ special c a m nmi next Eretu
unfolding special
is_eretu c a m nmi next h = then_is (has_fred c) (after_return a m nmi (eretu c m)) (fault c a m nmi ud) h

pub no_erets : (c : Processor) (a : Apic) (m : Memory) (nmi : Bool) (next : ℕ) → false ≡ has_fred c → fault c a m nmi ud ≡ special c a m nmi next Erets
unfolding special
no_erets c a m nmi next h = else_is (has_fred c) (after_return a m nmi (erets c m)) (fault c a m nmi ud) h

pub is_erets : (c : Processor) (a : Apic) (m : Memory) (nmi : Bool) (next : ℕ) → true ≡ has_fred c
    → after_return a m nmi (erets c m) ≡ special c a m nmi next Erets
unfolding special
is_erets c a m nmi next h = then_is (has_fred c) (after_return a m nmi (erets c m)) (fault c a m nmi ud) h

pub is_lkgs : (c : Processor) (a : Apic) (m : Memory) (nmi : Bool) (next s : ℕ) → after_outcome a m nmi next (lkgs c m.words (selector (register c s)))
    ≡ special c a m nmi next (Lkgs s)
unfolding special
is_lkgs c a m nmi next s = refl

pub is_rdmsr : (c : Processor) (a : Apic) (m : Memory) (nmi : Bool) (next : ℕ)
    → after_read c a m nmi next (msr c.msrs (low32 (register c 1))) ≡ special c a m nmi next Rdmsr
unfolding special
is_rdmsr c a m nmi next = refl

pub is_wrmsr : (c : Processor) (a : Apic) (m : Memory) (nmi : Bool) (next : ℕ)
    → write_msr c a m nmi next (low32 (register c 1)) (low32 (register c 0) + 2 ^ 32 * low32 (register c 2)) ≡ special c a m nmi next Wrmsr
unfolding special
is_wrmsr c a m nmi next = refl

pub is_int1 : (c : Processor) (a : Apic) (m : Memory) (nmi : Bool) (next : ℕ)
    → delivering c a m nmi (software EventType.Int1 1 1) next ≡ special c a m nmi next Int1
unfolding special
is_int1 c a m nmi next = refl

pub is_int3 : (c : Processor) (a : Apic) (m : Memory) (nmi : Bool) (next : ℕ)
    → delivering c a m nmi (software EventType.Int3 3 1) next ≡ special c a m nmi next Int3
unfolding special
is_int3 c a m nmi next = refl

pub is_int_n : (c : Processor) (a : Apic) (m : Memory) (nmi : Bool) (next n : ℕ) → delivering c a m nmi (software SoftInt n 2) next ≡ special c a m nmi next
    (IntN n)
unfolding special
is_int_n c a m nmi next n = refl

pub rest : (c : Processor) (a : Apic) (m : Memory) (nmi : Bool) (next : ℕ) (i : Ins) → ((n : ℕ) → i ≡ IntN n → ⊥) → ((s : ℕ) → i ≡ Lkgs s → ⊥)
    → (i ≡ Int3 → ⊥) → (i ≡ Int1 → ⊥) → (i ≡ Syscall → ⊥) → (i ≡ Sysretq → ⊥) → (i ≡ Iretq → ⊥) → (i ≡ Swapgs → ⊥) → (i ≡ Eretu → ⊥) → (i ≡ Erets → ⊥)
    → (i ≡ Rdmsr → ⊥) → (i ≡ Wrmsr → ⊥) → fault c a m nmi ud ≡ special c a m nmi next i
unfolding special
rest c a m nmi next (IntN n) h1 h2 h3 h4 h5 h6 h7 h8 h9 h10 h11 h12 = absurd (h1 n refl)
rest c a m nmi next (Lkgs s) h1 h2 h3 h4 h5 h6 h7 h8 h9 h10 h11 h12 = absurd (h2 s refl)
rest c a m nmi next Int3 h1 h2 h3 h4 h5 h6 h7 h8 h9 h10 h11 h12 = absurd (h3 refl)
rest c a m nmi next Int1 h1 h2 h3 h4 h5 h6 h7 h8 h9 h10 h11 h12 = absurd (h4 refl)
rest c a m nmi next Syscall h1 h2 h3 h4 h5 h6 h7 h8 h9 h10 h11 h12 = absurd (h5 refl)
rest c a m nmi next Sysretq h1 h2 h3 h4 h5 h6 h7 h8 h9 h10 h11 h12 = absurd (h6 refl)
rest c a m nmi next Iretq h1 h2 h3 h4 h5 h6 h7 h8 h9 h10 h11 h12 = absurd (h7 refl)
rest c a m nmi next Swapgs h1 h2 h3 h4 h5 h6 h7 h8 h9 h10 h11 h12 = absurd (h8 refl)
rest c a m nmi next Eretu h1 h2 h3 h4 h5 h6 h7 h8 h9 h10 h11 h12 = absurd (h9 refl)
rest c a m nmi next Erets h1 h2 h3 h4 h5 h6 h7 h8 h9 h10 h11 h12 = absurd (h10 refl)
rest c a m nmi next Rdmsr h1 h2 h3 h4 h5 h6 h7 h8 h9 h10 h11 h12 = absurd (h11 refl)
rest c a m nmi next Wrmsr h1 h2 h3 h4 h5 h6 h7 h8 h9 h10 h11 h12 = absurd (h12 refl)
rest c a m nmi next _ h1 h2 h3 h4 h5 h6 h7 h8 h9 h10 h11 h12 = refl

-- reads and writes of MSRs
pub read_none : (c : Processor) (a : Apic) (m : Memory) (nmi : Bool) (next : ℕ) (o : Option ℕ) (e : Gp) → Err e ≡ or_gp o
    → fault c a m nmi (gp 0) ≡ after_read c a m nmi next o
read_none c a m nmi next None e h = refl
read_none c a m nmi next (Some v) e h = cc

pub read_some : (c : Processor) (a : Apic) (m : Memory) (nmi : Bool) (next : ℕ) (o : Option ℕ) (v : ℕ) → Ok v ≡ or_gp o
    → after_read c a m nmi next (Some v) ≡ after_read c a m nmi next o
read_some c a m nmi next None v h = cc
read_some c a m nmi next (Some w) v h = let same : v ≡ w = cc in ap (λ (x : ℕ). after_read c a m nmi next (Some x)) same

pub send_none : (c : Processor) (a : Apic) (m : Memory) (nmi : Bool) (next : ℕ) (o : Option Send) (e : Gp) → Err e ≡ sent_or_gp o
    → fault c a m nmi (gp 0) ≡ after_send c a m nmi next o
send_none c a m nmi next None e h = refl
send_none c a m nmi next (Some s) e h = cc

pub not_zero : (v : ℕ) (x : Bool) → (v == 0) ≡ x → (v ≡ 0 → ⊥) → false ≡ (v == 0)
not_zero v true h n = absurd (n (eqb-true v 0 h))
not_zero v false h n = sym h

-- what user code can't hold
pub not_user : (c : Processor) (a : Apic) (m : Memory) (nmi : Bool) (i : Ins) (o : Option Ins) (u v : Bool) → u ≡ is_user c → v ≡ user_may i → u ≡ true
    → v ≡ false → o ≡ Some i → fault c a m nmi ud ≡ executed c a m nmi o
not_user c a m nmi i o u v hu hv tu fv ho =
    let user : is_user c ≡ true = sym hu ∙ tu in
    let may : user_may i ≡ false = sym hv ∙ fv in
    let both : true ≡ (is_user c && not (user_may i)) = sym (ap (λ (b : Bool). b && not (user_may i)) user ∙ ap (λ (b : Bool). true && not b) may) in
    then_is (is_user c && not (user_may i)) (fault c a m nmi ud) _ both ∙ ap (λ (x : Option Ins). executed c a m nmi x) (sym ho)

-- the boundary
pub by_next : (c : Processor) (a : Apic) (m : Memory) (nmi : Bool) (x : Next) → x ≡ next_of c a nmi → step_by c a m nmi x ≡ step c a m nmi
unfolding step
by_next c a m nmi x h = ap (λ (y : Next). step_by c a m nmi y) h

abbrev pub with_msrs : Processor → Msrs → Processor
with_msrs c x = record c { msrs = x }
