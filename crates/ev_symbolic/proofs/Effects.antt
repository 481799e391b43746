-- What effects of instructions come to, by the answer of memory or of a test; and what values, descriptors and MSRs that are found say.
use Rattle.std.proofs.Common.{◌≡◌, ℕ, ◌+◌, ◌*◌, ◌/◌, ◌%◌, ◌^◌, ◌<◌, Bool, true, false, not, ◌&&◌, List, [], ◌∷◌, set, drop, length, Option, Some, None, Ok, Err, refl, sym, ap, ◌∙◌, arith}
use Rattle.std.specs.Prelude.{if◌then◌else◌}
use Rattle.std.proofs.Math.Nat.{mod-lt}
use Rattle.std.proofs.lemmas.Bool.{eqb-true, ltb-true}
use Rattle.ev_isa.specs.Word.{NatMap, put_at, is_canonical}
use Rattle.ev_isa.specs.Flags.{Flags, Status}
use Rattle.ev_isa.specs.Instruction.{user_may}
use Rattle.ev_isa.specs.Spelling.{spelling}
use Rattle.ev_isa.specs.declared.instruction.Ins.{Ins}
use Rattle.ev_event.specs.declared.event.Event.{Event}
use Rattle.ev_event.specs.Event.{gp, ud}
use Rattle.ev_effect.specs.Task.{Task}
use Rattle.ev_effect.specs.Effect.{◌>>=◌, unless}
use Rattle.ev_state.specs.Descriptors.{base_of}
use Rattle.ev_state.specs.Msr.{is_level_rsp}
use Rattle.ev_state.specs.Processor.{Processor, is_user, task_of, selector}
use Rattle.ev_mem.specs.Memory.{Memory}
use Rattle.ev_exec.specs.Exec.{Executed, changed, exec}
use Rattle.ev_apic.specs.declared.apic.Apic.{Apic}
use Rattle.ev_proc.specs.ProcessorStep.{executed, fault, after_exec}
use Rattle.ev_symbolic.specs.Value.{M, V, K, P, X, B, F, v_eq}
use Rattle.ev_symbolic.specs.State.{Loc, Word, SS, Descriptor, is_listed, descriptor_of}
use Rattle.ev_symbolic.specs.Run.{moved, is_msr, is_word}
use Rattle.ev_symbolic.specs.Agrees.{Env, eval, Described, AreTops}
use Rattle.ev_symbolic.proofs.Values.{v_same}

-- what an instruction's effect begins with
abbrev pub task : Processor → ℕ → Task
task c next = record (task_of c) { rip = next }

-- the symbolic state after a plain instruction
abbrev pub after : SS → List V → Loc → F → List Word → SS
after s regs l f ws = record (moved s regs l) { flags = f; words = ws }

-- What effects come to, by the answer of memory or of a test.
abbrev pub loaded : Processor → ℕ → NatMap ℕ → List ℕ → ℕ → ℕ → Option Event → Executed
loaded c next words regs d a o = changed c ((unless o (words a)) >>= (λ v. Ok (record (task c next) { regs = set regs d v }, words)))

abbrev pub stored : Processor → ℕ → NatMap ℕ → List ℕ → ℕ → ℕ → Option Event → Executed
stored c next words regs a x o = changed c ((unless o (put_at words a x)) >>= (λ ws. Ok (record (task c next) { regs = regs }, ws)))

abbrev pub jumped_if : Processor → ℕ → NatMap ℕ → ℕ → Bool → Executed
jumped_if c next words a b = changed c ((if b then Ok (record (task c next) { rip = a }) else Err (gp 0)) >>= (λ t. Ok (t, words)))

abbrev pub branched : Processor → ℕ → NatMap ℕ → ℕ → Bool → Executed
branched c next words a b =
    changed c ((if b then (if is_canonical a then Ok (record (task c next) { rip = a }) else Err (gp 0)) else Ok (task c next)) >>= (λ t. Ok (t, words)))

-- an instruction of the kernel, by what `exec` says of it
pub executes : (c : Processor) (m : Memory) (i : Ins) (next : ℕ) (x : Executed) → is_user c ≡ false → c.rip + length (spelling i) ≡ next
    → exec c m i next ≡ x → (a : Apic) (nmi : Bool) → executed c a m nmi (Some i) ≡ after_exec c a m nmi next i x
executes c m i next x u hn hx a nmi =
    ap (λ b. if b && not (user_may i) then fault c a m nmi ud else
    after_exec c a m nmi (c.rip + length (spelling i)) i (exec c m i (c.rip + length (spelling i)))) u
    ∙ ap (λ n. after_exec c a m nmi n i (exec c m i n)) hn ∙ ap (after_exec c a m nmi next i) hx

pub drop_set : (xs : List ℕ) (x : ℕ) → drop 1 (set xs 0 x) ≡ drop 1 xs
drop_set [] x = refl
drop_set (y ∷ ys) x = refl

abbrev pub with_status : Status → Flags → Flags
with_status st f = record f { status = st }

abbrev pub other_levels : Processor → List ℕ → Processor
other_levels c rsp = record c { msrs = record c.msrs { rsp = rsp } }

-- a number from its halves
pub halves : (n : ℕ) → n < M → n % 2 ^ 32 + 2 ^ 32 * (n / 2 ^ 32 % 2 ^ 32) ≡ n
halves n h = omega arith

pub listed_ok : (e : Env) (v : V) (vs : List V) → AreTops e vs → is_listed v vs ≡ true → is_level_rsp (eval e v) ≡ true
listed_ok e v [] h q = absurd (cc)
listed_ok e v (w ∷ ws) h q = pick (v_eq w v) refl q (listed_ok e v ws h.1)
  where
    pick : (b : Bool) → v_eq w v ≡ b → (if b then true else is_listed v ws) ≡ true → (is_listed v ws ≡ true → is_level_rsp (eval e v) ≡ true)
        → is_level_rsp (eval e v) ≡ true
    pick true q r k = ap (λ x. is_level_rsp (eval e x)) (sym (v_same w v q)) ∙ h.0
    pick false q r k = k r

-- what a descriptor that is found says
abbrev pub Selects : Env → V → Option Descriptor → Type 0
Selects e v None = Unit {0}
Selects e v (Some d) = (selector (eval e v) ≡ eval e d.selector) × (base_of e.rest.gdt (eval e d.selector) ≡ Some (eval e d.base))

pub selected_ok : (e : Env) (v : V) (ds : List Descriptor) → Described e ds → Selects e v (descriptor_of v ds)
selected_ok e v [] h = tt
selected_ok e v (d ∷ ds) h = pick (v_eq d.value v) refl (selected_ok e v ds h.2)
  where
    pick : (b : Bool) → v_eq d.value v ≡ b → Selects e v (descriptor_of v ds) → Selects e v (if b then Some d else descriptor_of v ds)
    pick true q r = (ap (λ x. selector (eval e x)) (sym (v_same d.value v q)) ∙ h.0, h.1)
    pick false q r = r

pub word_lt : (e : Env) (v : V) → is_word v ≡ true → eval e v < M
unfolding eval
word_lt e (K n) h = ltb-true n M h
word_lt e (P t o) h = mod-lt (e.base t + o) (let z : 0 < M = omega arith in z)
word_lt e (X i) h = absurd (cc)
word_lt e (B o a b) h = absurd (cc)

pub msr_is : (e : Env) (n : ℕ) (v : V) → is_msr n v ≡ true → eval e v % 2 ^ 32 ≡ n
unfolding eval
msr_is e n (K k) h = eqb-true (k % 2 ^ 32) n h
msr_is e n (P t o) h = absurd (cc)
msr_is e n (X i) h = absurd (cc)
msr_is e n (B o a b) h = absurd (cc)
