-- The tables lie below 2 ^ 64.
use Rattle.std.proofs.Common.{◌≡◌, ◌<◌, ◌≤◌, ℕ, ◌+◌, ◌*◌, ◌/◌, ◌%◌, ◌^◌, Bool, true, false, ◌||◌, ◌==◌, if◌then◌else◌, arith, refl, ap, ◌∙◌, eqb-true}
use Rattle.ev_isa.specs.Word.{is_canonical}
use Rattle.ev_event.specs.declared.event.Event.{Event}
use Rattle.ev_event.specs.Event.{is_hardware}
use Rattle.std.specs.Prelude.{◌&&◌}
use Rattle.ev_state.specs.Processor.{Processor}
use Rattle.ev_state.specs.Outcome.{with_cr2}
use Rattle.ev_mem.specs.Memory.{Memory}
use Rattle.ev_idt.specs.Tables.{HasTables}

by_half : (q : ℕ) (x y : Bool) → (q == 0) ≡ x → (q == 131071) ≡ y → (x || y) ≡ true → q < 131072
by_half q true y hx hy h = let e : q ≡ 0 = eqb-true q 0 hx in omega arith
by_half q false true hx hy h = let e : q ≡ 131071 = eqb-true q 131071 hy in omega arith
by_half q false false hx hy h = cc

below_end : (a : ℕ) → is_canonical a ≡ true → a < 2 ^ 64
below_end a h = let q : a / 140737488355328 < 131072 =
    by_half (a / 140737488355328) (a / 140737488355328 == 0) (a / 140737488355328 == 131071) refl refl h in omega arith

pub idt_fits : (c : Processor) (m : Memory) → HasTables c m → c.idt + 4096 ≤ 2 ^ 64
idt_fits c m t =
    let last : 511 < 512 = omega arith in
    let below : c.idt + 8 * 511 < 2 ^ 64 = below_end (c.idt + 8 * 511) (t.idt_mapped 511 last).canonical in
    let aligned : c.idt % 16 ≡ 0 = t.idt_aligned in
    omega arith

pub tss_fits : (c : Processor) (m : Memory) → HasTables c m → c.tss + 84 < 2 ^ 64
tss_fits c m t =
    let last : 10 < 11 = omega arith in
    let below : c.tss + 4 + 8 * 10 < 2 ^ 64 = below_end (c.tss + 4 + 8 * 10) (t.tss_mapped 10 last).canonical in
    omega arith

same : (b : Bool) (c : Processor) (a : ℕ) → (if b then (let d : Processor = record c { cr2 = a } in d) else c).tss ≡ c.tss
same true c a = refl
same false c a = refl

pub tss_stays : (c d : Processor) (e : Event) → d ≡ with_cr2 c e → d.tss ≡ c.tss
tss_stays c d e h = ap (λ (p : Processor). p.tss) h ∙ same (is_hardware e.kind && (e.vector == 14)) c e.info
