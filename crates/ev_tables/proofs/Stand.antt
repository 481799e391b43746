-- The tables of a delivery stand in the memory of an image.
use Rattle.std.proofs.Common.{◌≡◌, ℕ, ◌+◌, ◌-◌, ◌*◌, ◌/◌, ◌%◌, ◌<◌, ◌≤◌, true, ap, sym, ◌∙◌, subst, arith}
use Rattle.std.proofs.lemmas.Bool.{eq-eqb}
use Rattle.ev_isa.specs.Word.{NatMap, is_aligned}
use Rattle.ev_isa.specs.declared.mode.Mode.{Mode}
use Rattle.ev_isa.specs.declared.mode.Mode.TheVariants.{Idt}
use Rattle.ev_body.specs.declared.image.Image.{Image}
use Rattle.ev_gate.specs.Gate.{gate_in}
use Rattle.ev_idt.specs.Tables.{IsHandler, IsReadable}
use Rattle.ev_listing.specs.AddressMap.{pcpu, idt_base}
use Rattle.ev_concrete.specs.Opening.{code_of, listings, idt_word}
use Rattle.ev_tables.specs.Claims.{HoldsIdt, GatesStand, TablesStand}
use Rattle.ev_tables.proofs.Gates.{gate_is, handler}
use Rattle.ev_tables.proofs.Opened.{opened_idt}
use Rattle.ev_tables.proofs.Mapped.{idt_readable, tss_readable}

held_word : (mode : Mode) (image : Image) (words : NatMap ℕ) (n : ℕ) → image.processors ≤ 8 → HoldsIdt mode image words → n < 512
    → words (idt_base + 8 * n) ≡ idt_word n
held_word mode image words n few holds h =
    let al : is_aligned (idt_base + 8 * n) ≡ true = eq-eqb ((idt_base + 8 * n) % 8) 0 (omega arith) in
    let place : (idt_base + 8 * n - idt_base) / 8 ≡ n = omega arith in
    holds (idt_base + 8 * n) al (omega arith) (omega arith) ∙ opened_idt (code_of (listings mode image)) mode image (idt_base + 8 * n) few al (omega arith)
    (omega arith) ∙ ap idt_word place

held_handler : (mode : Mode) (image : Image) (words : NatMap ℕ) (v : ℕ) → image.processors ≤ 8 → HoldsIdt mode image words → v < 256
    → IsHandler (words (idt_base + 16 * v)) (words (idt_base + 16 * v + 8))
held_handler mode image words v few holds h =
    let low_place : idt_base + 8 * (2 * v) ≡ idt_base + 16 * v = omega arith in
    let high_place : idt_base + 8 * (2 * v + 1) ≡ idt_base + 16 * v + 8 = omega arith in
    let low : idt_word (2 * v) ≡ words (idt_base + 16 * v) = sym (held_word mode image words (2 * v) few holds (omega arith)) ∙ ap words low_place in
    let high : idt_word (2 * v + 1) ≡ words (idt_base + 16 * v + 8) = sym (held_word mode image words (2 * v + 1) few holds (omega arith))
    ∙ ap words high_place in
    subst (λ (y : ℕ). IsHandler (words (idt_base + 16 * v)) y) high (subst (λ (x : ℕ). IsHandler x (idt_word (2 * v + 1))) low (handler v h))

pub gates_stand : GatesStand
gates_stand mode image words is holds v h =
    let few : image.processors ≤ 8 = is.count.1 in
    let low_place : idt_base + 8 * (2 * v) ≡ idt_base + 16 * v = omega arith in
    let high_place : idt_base + 8 * (2 * v + 1) ≡ idt_base + 16 * v + 8 = omega arith in
    let low : words (idt_base + 16 * v) ≡ idt_word (2 * v) = ap words (sym low_place) ∙ held_word mode image words (2 * v) few holds (omega arith) in
    let high : words (idt_base + 16 * v + 8) ≡ idt_word (2 * v + 1) =
    ap words (sym high_place) ∙ held_word mode image words (2 * v + 1) few holds (omega arith) in
    ap (λ (x : ℕ). gate_in x (words (idt_base + 16 * v + 8))) low ∙ ap (gate_in (idt_word (2 * v))) high ∙ gate_is v h

pub stand : TablesStand
stand image m c p is hp same holds idt tss =
    let few : image.processors ≤ 8 = is.count.1 in
    record {
      idt_aligned = ap (λ (a : ℕ). a % 16) idt;
      tss_aligned = let e : c.tss ≡ 0xffff888000000404 + 0x10000 * p = omega (arith, tss) in omega (arith, e);
      idt_mapped = λ k h. subst (λ (a : ℕ). IsReadable m (a + 8 * k)) (sym idt) (idt_readable image m k same h);
      tss_mapped = λ k h.
          let place : pcpu p + 0x408 + 8 * k ≡ c.tss + 4 + 8 * k = omega (arith, tss) in
          subst (λ (a : ℕ). IsReadable m a) place (tss_readable image m p k same hp (omega arith) h);
      handlers = λ v h. subst (λ (a : ℕ). IsHandler (m.words (a + 16 * v)) (m.words (a + 16 * v + 8))) (sym idt) (held_handler Idt image m.words v few holds h);
    }
