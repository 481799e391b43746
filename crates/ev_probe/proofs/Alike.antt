-- One try to deliver an event, in memories that are alike.
use Rattle.std.proofs.Common.{◌≡◌, ℕ, zero, suc, ◌+◌, ◌-◌, ◌*◌, ◌/◌, ◌%◌, ◌^◌, ◌<◌, ◌≤◌, ◌⊎◌, ⊎_elim, Bool, true, false, not, ◌&&◌, ◌||◌, ◌==◌, List, [], ◌∷◌, ◌++◌, length, reverse, map, get_or, Option, Some, None, refl, sym, ap, ◌∙◌, subst, arith}
use Rattle.std.specs.Prelude.{if◌then◌else◌, nat_lt, max}
use Rattle.ev_isa.specs.Word.{NatMap, is_aligned, is_canonical, wrap}
use Rattle.ev_event.specs.declared.event.Event.{Event}
use Rattle.ev_event.specs.declared.event.EventType.{EventType}
use Rattle.ev_event.specs.declared.event.EventType.TheVariants.{External}
use Rattle.ev_event.specs.Event.{ac, gp, has_error_code, is_hardware, ss}
use Rattle.ev_effect.specs.Effect.{access_event, page_event}
use Rattle.ev_isa.specs.Pages.{View}
use Rattle.ev_frame.specs.Config.{level_of}
use Rattle.ev_effect.specs.Frame.{addresses, first_event, or_else, placed}
use Rattle.ev_gate.specs.declared.gate.Gate.{Gate}
use Rattle.ev_gate.specs.Gate.{gate_at, gate_in}
use Rattle.ev_gate.specs.Tss.{ist_at, rsp0_at}
use Rattle.ev_state.specs.Processor.{Processor, is_user, rsp}
use Rattle.ev_state.specs.Outcome.{Outcome, Went, Met, below, frame_written, with_cr2}
use Rattle.ev_mem.specs.Memory.{Memory, view}
use Rattle.ev_idt.specs.IdtDelivery.{idt_delivery, idt_frame, in_handler, is_gated, new_rsp, through_gate}
use Rattle.ev_fred.specs.FredDelivery.{decrement, event_level, fred_delivery, fred_frame, frame_top, in_fred_handler, new_level}
use Rattle.ev_proc.specs.ProcessorStep.{has_fred, try}
use Rattle.ev_concrete.specs.ConcreteRun.{frame_size}
use Rattle.ev_concrete.specs.Opening.{gate, idt_word}
use Rattle.ev_listing.specs.AddressMap.{idt_base, pcpu, stack_top}
use Rattle.ev_tables.proofs.Gates.{gate_is}
use Rattle.ev_probe.specs.BareMemory.{AreAlike, HoldsGates, HoldsStacks}
use Rattle.ev_probe.proofs.Places.{AllIn, HaveSameFaults, HaveSameWords, first_same, in_addresses, in_reverse, map_same, placed_same}

-- a processor of a probe, at any of its tries
pub record IsBare (c : Processor) : Type 0 where
  pub idt : c.idt ≡ idt_base
  pub tss : c.tss ≡ pcpu 0 + 0x404
  pub rsps : c.msrs.rsp ≡ stack_top 0 0 ∷ stack_top 0 6 ∷ stack_top 0 4 ∷ stack_top 0 5 ∷ []
  pub config : c.msrs.config ≡ 0xffffffff81000040
  pub level : c.level < 4
  pub stack : (is_user c ≡ true) ⊎ ((stack_top 0 0 - 0x2000 ≤ rsp c) × (rsp c ≤ stack_top 0 6))

-- what a fault leaves is such a processor
noted_by : (t : Bool) (c : Processor) (a : ℕ) → IsBare c → IsBare (if t then record c { cr2 = a } else c)
noted_by true c a b = record { idt = b.idt; tss = b.tss; rsps = b.rsps; config = b.config; level = b.level; stack = b.stack }
noted_by false c a b = b

pub noted_bare : (c : Processor) (e : Event) → IsBare c → IsBare (with_cr2 c e)
noted_bare c e b = noted_by (is_hardware e.kind && (e.vector == 14)) c e.info b

-- ---- outcomes

-- Two outcomes are the same but for memory elsewhere than in the frame, which has so many words; what is met is an event of a vector below 256.
abbrev pub AreSameOutcomes : ℕ → Outcome → Outcome → Type 0
AreSameOutcomes k (Went c v a) (Went d w b) = (c ≡ d) × (a ≡ b) × (map v (addresses a k) ≡ map w (addresses b k))
AreSameOutcomes k (Met c e) (Met d f) = (c ≡ d) × (e ≡ f) × IsBare c × (e.vector < 256)
AreSameOutcomes k _ _ = ⊥

-- an event of a vector below 256, if there is one
abbrev IsSmall : Option Event → Type 0
IsSmall None = Unit {0}
IsSmall (Some e) = e.vector < 256

small_page : (o : Option ℕ) (a : ℕ) → IsSmall (page_event o a)
small_page None a = tt
small_page (Some code) a = omega arith

small_choice : (t : Bool) (x y : Option Event) → IsSmall x → IsSmall y → IsSmall (if t then x else y)
small_choice true x y p q = p
small_choice false x y p q = q

small_access : (m : View) (write : Bool) (a : ℕ) → IsSmall (access_event m write (ss 0) a)
unfolding access_event
small_access m write a =
    small_choice (not (is_canonical a)) (Some (ss 0)) (if not (is_aligned a) then Some ac else page_event (m.fault write a) a) (omega arith)
    (small_choice (not (is_aligned a)) (Some ac) (page_event (m.fault write a) a) (omega arith) (small_page (m.fault write a) a))

small_either : (x y : Option Event) → IsSmall x → IsSmall y → IsSmall (or_else x y)
small_either None y p q = q
small_either (Some e) y p q = p

first_small : (m : View) (write : Bool) (as' : List ℕ) → IsSmall (first_event m write as')
first_small m write [] = tt
first_small m write (a ∷ as') =
    small_either (access_event m write (ss 0) a) (first_event m write as') (small_access m write a) (first_small m write as')

written_same : (k : ℕ) (c c' : Processor) (v w : NatMap ℕ) (a : ℕ) (frame : List ℕ) (o : Option Event) → IsBare c → HaveSameWords v w → AllIn (addresses a k)
    → IsSmall o → AreSameOutcomes k (frame_written c c' v a frame o) (frame_written c c' w a frame o)
written_same k c c' v w a frame None b h p s = (refl, refl, map_same (placed v a frame) (placed w a frame) (addresses a k) (placed_same v w a frame h) p)
written_same k c c' v w a frame (Some e) b h p s = (refl, refl, noted_bare c e b, s)

-- along equations
carried : (k : ℕ) (o o' p p' : Outcome) → o ≡ o' → p ≡ p' → AreSameOutcomes k o' p' → AreSameOutcomes k o p
carried k o o' p p' g h s =
    let P : Outcome → Type 0 = λ x. AreSameOutcomes k x p in
    let Q : Outcome → Type 0 = λ x. AreSameOutcomes k o' x in
    subst P (sym g) (subst Q (sym h) s)

-- a frame that ends among the stacks, and the accesses to it
abbrev pub EndsWell : ℕ → Type 0
EndsWell r = (stack_top 0 0 - 0x2100 ≤ r) × (r ≤ stack_top 0 6)

frame_in : (r n : ℕ) → n ≤ 8 → EndsWell r → AllIn (addresses (below r n) n)
frame_in r n few h =
    let lo = h.0 in let hi = h.1 in
    let a : below r n ≡ r - 8 * n = omega arith in
    in_addresses n (below r n) (omega arith) (omega arith)

frame_same : (m n : Memory) (a k : ℕ) → HaveSameFaults m n → AllIn (addresses a k)
    → first_event (view m false) true (reverse (addresses a k)) ≡ first_event (view n false) true (reverse (addresses a k))
frame_same m n a k h p = first_same m n true (reverse (addresses a k)) h (in_reverse (addresses a k) p)

-- ---- through the IDT

gate_of : (words : NatMap ℕ) (v : ℕ) → HoldsGates 512 words → v < 256 → gate_at words idt_base v ≡ gate v
gate_of words v h l =
    let low_place : idt_base + 8 * (2 * v) ≡ idt_base + 16 * v = omega arith in
    let high_place : idt_base + 8 * (2 * v + 1) ≡ idt_base + 16 * v + 8 = omega arith in
    let low : words (idt_base + 16 * v) ≡ idt_word (2 * v) = ap words (sym low_place) ∙ h (2 * v) (omega arith) in
    let high : words (idt_base + 16 * v + 8) ≡ idt_word (2 * v + 1) = ap words (sym high_place) ∙ h (2 * v + 1) (omega arith) in
    ap (λ (x : ℕ). gate_in x (words (idt_base + 16 * v + 8))) low ∙ ap (gate_in (idt_word (2 * v))) high ∙ gate_is v l

-- the stack that a gate leads to, whether it is that of NMIs or of double faults
abbrev pub stack_by : Processor → Bool → Bool → ℕ
stack_by c true double = stack_top 0 4
stack_by c false true = stack_top 0 5
stack_by c false false = if is_user c then stack_top 0 0 else rsp c

abbrev stack_at : Processor → NatMap ℕ → ℕ → ℕ
stack_at c words ist = if not (ist == 0) then ist_at words c.tss ist else (if is_user c then rsp0_at words c.tss else rsp c)

stack_is : (c : Processor) (words : NatMap ℕ) (nmi double : Bool) → IsBare c → HoldsStacks words
    → stack_at c words (if nmi then 1 else (if double then 2 else 0)) ≡ stack_by c nmi double
stack_is c words true double b h = let tss = b.tss in ap words (let e : c.tss + 28 + 8 * 1 ≡ pcpu 0 + 0x428 = omega arith in e) ∙ h.ist1
stack_is c words false true b h = let tss = b.tss in ap words (let e : c.tss + 28 + 8 * 2 ≡ pcpu 0 + 0x430 = omega arith in e) ∙ h.ist2
stack_is c words false false b h =
    let tss = b.tss in
    ap (λ (x : ℕ). if is_user c then x else rsp c) (ap words (let e : c.tss + 4 ≡ pcpu 0 + 0x408 = omega arith in e) ∙ h.rsp0)

abbrev pub aligned : ℕ → ℕ
aligned a = a - a % 16

abbrev pub end_by : Processor → ℕ → ℕ
end_by c v = aligned (stack_by c (v == 2) (v == 8))

pub end_is : (c : Processor) (words : NatMap ℕ) (v : ℕ) → IsBare c → HoldsStacks words → new_rsp c words (gate v) ≡ end_by c v
end_is c words v b h = ap aligned (stack_is c words (v == 2) (v == 8) b h)

user_or : (t : Bool) (x y : ℕ) → (t ≡ true) ⊎ ((stack_top 0 0 - 0x2000 ≤ y) × (y ≤ stack_top 0 6)) → x ≡ stack_top 0 0
    → (stack_top 0 0 - 0x2000 ≤ (if t then x else y)) × ((if t then x else y) ≤ stack_top 0 6)
user_or true x y h e = (omega arith, omega arith)
user_or false x y h e = ⊎_elim (λ k. absurd cc) (λ k. k) h

stack_in : (c : Processor) (nmi double : Bool) → IsBare c → (stack_top 0 0 - 0x2000 ≤ stack_by c nmi double) × (stack_by c nmi double ≤ stack_top 0 6)
stack_in c true double b = (omega arith, omega arith)
stack_in c false true b = (omega arith, omega arith)
stack_in c false false b = user_or (is_user c) (stack_top 0 0) (rsp c) b.stack refl

pub end_in : (c : Processor) (v : ℕ) → IsBare c → EndsWell (end_by c v)
end_in c v b = let s = stack_in c (v == 2) (v == 8) b in let lo = s.0 in let hi = s.1 in (omega arith, omega arith)

abbrev pub idt_size : Event → ℕ
idt_size e = if is_hardware e.kind && has_error_code e.vector then 6 else 5

size_by : (t : Bool) (x : ℕ) (xs : List ℕ) → length xs ≡ 5 → length ((if t then x ∷ [] else []) ++ xs) ≡ (if t then 6 else 5)
size_by true x xs h = omega (arith, h)
size_by false x xs h = h

pub size_small : (t : Bool) → (if t then 6 else 5) ≤ 8
size_small true = omega arith
size_small false = omega arith

idt_length : (c : Processor) (e : Event) → length (idt_frame c e) ≡ idt_size e
idt_length c e = size_by (is_hardware e.kind && has_error_code e.vector) e.error (c.rip ∷ c.cs ∷ c.flags ∷ rsp c ∷ c.ss ∷ []) refl

-- a delivery through a gate whose frame has so many words from this address on
abbrev pub pushed : Processor → Memory → Event → Gate → ℕ → ℕ → Outcome
pushed c m e g a k = frame_written c (in_handler c g e.kind a) m.words a (idt_frame c e) (first_event (view m false) true (reverse (addresses a k)))

pub gate_is_pushed : (c : Processor) (m : Memory) (e : Event) (g : Gate) (r : ℕ) → new_rsp c m.words g ≡ r
    → through_gate c m e g ≡ pushed c m e g (below r (idt_size e)) (idt_size e)
gate_is_pushed c m e g r h =
    ap (λ (k : ℕ). pushed c m e g (below (new_rsp c m.words g) k) k) (idt_length c e) ∙ ap (λ (x : ℕ). pushed c m e g (below x (idt_size e)) (idt_size e)) h

gate_same : (m n : Memory) (c : Processor) (e : Event) → AreAlike m n → IsBare c
    → AreSameOutcomes (idt_size e) (through_gate c m e (gate e.vector)) (through_gate c n e (gate e.vector))
gate_same m n c e h b =
    let r : ℕ = end_by c e.vector in
    let k : ℕ = idt_size e in
    let a : ℕ = below r k in
    let p : AllIn (addresses a k) = frame_in r k (size_small (is_hardware e.kind && has_error_code e.vector)) (end_in c e.vector b) in
    let d : Processor = in_handler c (gate e.vector) e.kind a in
    carried k (through_gate c m e (gate e.vector)) (pushed c m e (gate e.vector) a k) (through_gate c n e (gate e.vector))
    (frame_written c d n.words a (idt_frame c e) (first_event (view m false) true (reverse (addresses a k))))
    (gate_is_pushed c m e (gate e.vector) r (end_is c m.words e.vector b h.stacks))
    (gate_is_pushed c n e (gate e.vector) r (end_is c n.words e.vector b h.same_stacks)
    ∙ ap (frame_written c d n.words a (idt_frame c e)) (sym (frame_same m n a k h.faults p)))
    (written_same k c d m.words n.words a (idt_frame c e) (first_event (view m false) true (reverse (addresses a k))) b h.words p
    (first_small (view m false) true (reverse (addresses a k))))

abbrev pub by_gate : Processor → Memory → Event → Gate → Outcome
by_gate c m e g = if is_gated e.kind && is_user c && nat_lt g.dpl 3 then Met c (gp (8 * e.vector + 2)) else through_gate (with_cr2 c e) m e g

same_choice : (k : ℕ) (t : Bool) (o p q : Outcome) → AreSameOutcomes k o o → AreSameOutcomes k p q → AreSameOutcomes k (if t then o else p)
    (if t then o else q)
same_choice k true o p q x y = x
same_choice k false o p q x y = y

pub idt_is : (c : Processor) (m : Memory) (e : Event) → IsBare c → HoldsGates 512 m.words → e.vector < 256 → idt_delivery c m e ≡ by_gate c m e
    (gate e.vector)
unfolding idt_delivery
idt_is c m e b h l =
    ap (by_gate c m e) (ap (λ (x : ℕ). gate_at m.words x e.vector) b.idt ∙ gate_of m.words e.vector h l)

idt_same : (m n : Memory) (c : Processor) (e : Event) → AreAlike m n → IsBare c → e.vector < 256
    → AreSameOutcomes (idt_size e) (idt_delivery c m e) (idt_delivery c n e)
idt_same m n c e h b l =
    carried (idt_size e) (idt_delivery c m e) (by_gate c m e (gate e.vector)) (idt_delivery c n e) (by_gate c n e (gate e.vector))
    (idt_is c m e b h.gates l) (idt_is c n e b h.same_gates l)
    (same_choice (idt_size e) (is_gated e.kind && is_user c && nat_lt (gate e.vector).dpl 3) (Met c (gp (8 * e.vector + 2)))
    (through_gate (with_cr2 c e) m e (gate e.vector)) (through_gate (with_cr2 c e) n e (gate e.vector))
    (refl, refl, b, omega arith) (gate_same m n (with_cr2 c e) e h (noted_bare c e b)))

-- ---- by FRED

level_small : (stklvls vector : ℕ) → level_of stklvls vector < 4
level_small stklvls vector = by (nat_lt vector 32)
  where
    by : (t : Bool) → (if t then stklvls / 4 ^ vector % 4 else 0) < 4
    by true = omega arith
    by false = omega arith

event_level_small : (c : Processor) (kind : EventType) (vector : ℕ) → event_level c.msrs kind vector < 4
event_level_small c External vector = omega arith
event_level_small c _ vector = level_small c.msrs.stklvls vector

pub new_level_small : (c : Processor) (e : Event) (nested : Bool) → c.level < 4 → new_level c e nested < 4
new_level_small c e nested l =
    by (is_user c && not nested && not (is_hardware e.kind && (e.vector == 8))) (event_level c.msrs e.kind e.vector) (event_level_small c e.kind e.vector)
  where
    by : (t : Bool) (x : ℕ) → x < 4 → (if t then 0 else max c.level x) < 4
    by true x h = omega arith
    by false x h = omega arith

rsp_in : (level : ℕ) → level < 4
    → EndsWell (get_or (stack_top 0 0 ∷ stack_top 0 6 ∷ stack_top 0 4 ∷ stack_top 0 5 ∷ []) level 0)
rsp_in zero l = (omega arith, omega arith)
rsp_in (suc zero) l = (omega arith, omega arith)
rsp_in (suc (suc zero)) l = (omega arith, omega arith)
rsp_in (suc (suc (suc zero))) l = (omega arith, omega arith)
rsp_in (suc (suc (suc (suc n)))) l = absurd (omega (arith, l))

pub top_in : (c : Processor) (level : ℕ) → IsBare c → level < 4 → EndsWell (frame_top c level)
top_in c level b l =
    by (is_user c) (nat_lt c.level level) b.stack (get_or c.msrs.rsp level 0)
    (let P : List ℕ → Type 0 = λ x. EndsWell (get_or x level 0) in subst P (sym b.rsps) (rsp_in level l)) (decrement c.msrs.config)
    (ap decrement b.config)
  where
    by : (t u : Bool) → (t ≡ true) ⊎ ((stack_top 0 0 - 0x2000 ≤ rsp c) × (rsp c ≤ stack_top 0 6)) → (x : ℕ) → EndsWell x → (d : ℕ) → d ≡ 64
        → EndsWell (if t || u then x else (let a : ℕ = wrap (rsp c + 2 ^ 64 - d) in a - a % 64))
    by true u s x p d e = p
    by false true s x p d e = p
    by false false s x p d e = ⊎_elim (λ k. absurd cc) (λ k.
        let lo = k.0 in let hi = k.1 in
        let a : wrap (rsp c + 2 ^ 64 - d) ≡ rsp c - 64 = omega arith in
        (omega arith, omega arith)) s

fred_same : (m n : Memory) (c : Processor) (e : Event) (nested : Bool) → AreAlike m n → IsBare c
    → AreSameOutcomes 8 (fred_delivery c m e nested) (fred_delivery c n e nested)
unfolding fred_delivery
fred_same m n c e nested h b =
    let d : Processor = with_cr2 c e in
    let bd : IsBare d = noted_bare c e b in
    let level : ℕ = new_level d e nested in
    let r : ℕ = frame_top d level in
    let a : ℕ = below r 8 in
    let p : AllIn (addresses a 8) = frame_in r 8 (omega arith) (top_in d level bd (new_level_small d e nested bd.level)) in
    let o : Option Event = first_event (view m false) true (reverse (addresses a 8)) in
    carried 8 (frame_written d (in_fred_handler d e level a) m.words a (fred_frame d e nested) o)
    (frame_written d (in_fred_handler d e level a) m.words a (fred_frame d e nested) o)
    (frame_written d (in_fred_handler d e level a) n.words a (fred_frame d e nested) (first_event (view n false) true (reverse (addresses a 8))))
    (frame_written d (in_fred_handler d e level a) n.words a (fred_frame d e nested) o) refl
    (ap (frame_written d (in_fred_handler d e level a) n.words a (fred_frame d e nested)) (sym (frame_same m n a 8 h.faults p)))
    (written_same 8 d (in_fred_handler d e level a) m.words n.words a (fred_frame d e nested) o bd h.words p
    (first_small (view m false) true (reverse (addresses a 8))))

-- ---- one try

pub try_same : (m n : Memory) (c : Processor) (e : Event) (nested : Bool) → AreAlike m n → IsBare c → e.vector < 256
    → AreSameOutcomes (frame_size c e) (try c m e nested) (try c n e nested)
try_same m n c e nested h b l = by (has_fred c)
  where
    by : (t : Bool) → AreSameOutcomes (if t then 8 else idt_size e) (if t then fred_delivery c m e nested else idt_delivery c m e)
        (if t then fred_delivery c n e nested else idt_delivery c n e)
    by true = fred_same m n c e nested h b
    by false = idt_same m n c e h b l
