-- Where a delivery's frame ends.
use Rattle.std.proofs.Common.{◌≡◌, ◌≢◌, ℕ, ◌+◌, ◌-◌, ◌%◌, ◌^◌, Bool, true, false, not, ◌&&◌, ◌==◌, get_or, refl, ap, ◌∙◌, arith}
use Rattle.std.specs.Prelude.{◌||◌, nat_lt, if◌then◌else◌, max}
use Rattle.std.proofs.lemmas.Bool.{eqb-true}
use Rattle.ev_isa.specs.Word.{NatMap, wrap}
use Rattle.ev_event.specs.declared.event.Event.{Event}
use Rattle.ev_event.specs.Event.{is_hardware}
use Rattle.ev_state.specs.Processor.{Processor, is_user, rsp}
use Rattle.ev_fred.specs.FredDelivery.{decrement, event_level, new_level, frame_top}
use Rattle.ev_gate.specs.Tss.{rsp0_at, ist_at}
use Rattle.ev_concrete.specs.Opening.{gate}
use Rattle.ev_deliver.specs.Tops.{FredFromTask, FredFromBody, FredToLevel, IdtFromTask, IdtFromBody, IdtFromNmiBody, IdtOfNmi}

-- ---- FRED

-- the top, by whether the stack is left
top_by : Bool → Processor → ℕ → ℕ
top_by b c level = if b then get_or c.msrs.rsp level 0 else (let a : ℕ = wrap (rsp c + 2 ^ 64 - decrement c.msrs.config) in a - a % 64)

-- the level, by whether the event interrupts a task, and whether it is a double fault
level_by : Bool → Bool → Processor → Event → ℕ
level_by user double c e = if user && not false && not double then 0 else max c.level (event_level c.msrs e.kind e.vector)

pub fred_from_task : FredFromTask
unfolding top_by level_by
fred_from_task c e u n =
    ap (λ l. frame_top c l) (ap (λ b. level_by b (is_hardware e.kind && (e.vector == 8)) c e) u ∙ ap (λ b. level_by true b c e) n)
    ∙ ap (λ b. top_by (b || nat_lt c.level 0) c 0) u

pub fred_from_body : FredFromBody
unfolding top_by
fred_from_body c e t u l config at m low high =
    ap (λ b. top_by (b || nat_lt c.level (new_level c e false)) c (new_level c e false)) u
    ∙ ap (λ b. top_by b c (new_level c e false)) l
    ∙ ap (λ k. let a : ℕ = wrap (rsp c + 2 ^ 64 - decrement k) in a - a % 64) config
    ∙ ap (λ r. let a : ℕ = wrap (r + 2 ^ 64 - 64) in a - a % 64) at
    ∙ (let q : (t - 0xc0 + 2 ^ 64 - 64) % 2 ^ 64 ≡ t - 0x100 = omega arith in ap (λ a. a - a % 64) q)
    ∙ (let q : (t - 0x100) - (t - 0x100) % 64 ≡ t - 0x100 = omega arith in q)

pub fred_to_level : FredToLevel
unfolding top_by
fred_to_level c e u l =
    ap (λ b. top_by (b || nat_lt c.level (new_level c e false)) c (new_level c e false)) u ∙ ap (λ b. top_by b c (new_level c e false)) l

-- ---- IDT

unequal : (v n : ℕ) → v ≢ n → (v == n) ≡ false
unequal v n h = pick (v == n) refl
  where
    pick : (b : Bool) → (v == n) ≡ b → b ≡ false
    pick true q = absurd (h (eqb-true v n q))
    pick false q = refl

no_stack : (v : ℕ) → v ≢ 2 → v ≢ 8 → (gate v).ist ≡ 0
no_stack v h k = ap (λ b. if b then 1 else (if v == 8 then 2 else 0)) (unequal v 2 h) ∙ ap (λ b. if b then 2 else 0) (unequal v 8 k)

stack_by : ℕ → Bool → Processor → NatMap ℕ → ℕ
stack_by ist user c words =
    let a : ℕ = (if not (ist == 0) then ist_at words c.tss ist else (if user then rsp0_at words c.tss else rsp c)) in a - a % 16

multiple : (t : ℕ) → t % 16 ≡ 0 → t - t % 16 ≡ t
multiple t h = omega arith

pub idt_from_task : IdtFromTask
unfolding stack_by
idt_from_task c words v t u h k at m =
    ap (λ i. stack_by i (is_user c) c words) (no_stack v h k) ∙ ap (λ b. stack_by 0 b c words) u ∙ ap (λ a. a - a % 16) at ∙ multiple t m

pub idt_from_body : IdtFromBody
unfolding stack_by
idt_from_body c words v t u h k at m low =
    ap (λ i. stack_by i (is_user c) c words) (no_stack v h k) ∙ ap (λ b. stack_by 0 b c words) u ∙ ap (λ a. a - a % 16) at
    ∙ (let q : (t - 0xb0) - (t - 0xb0) % 16 ≡ t - 0xb0 = omega arith in q)

pub idt_from_nmi_body : IdtFromNmiBody
unfolding stack_by
idt_from_nmi_body c words v t u h k at m low =
    ap (λ i. stack_by i (is_user c) c words) (no_stack v h k) ∙ ap (λ b. stack_by 0 b c words) u ∙ ap (λ a. a - a % 16) at
    ∙ (let q : (t - 0x118) - (t - 0x118) % 16 ≡ t - 0x120 = omega arith in q)

pub idt_of_nmi : IdtOfNmi
idt_of_nmi c words t at m = ap (λ a. a - a % 16) at ∙ multiple t m
