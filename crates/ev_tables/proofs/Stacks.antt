-- The words of a processor's area at the opening, and the stacks that its TSS names.
use Rattle.std.proofs.Common.{◌≡◌, ℕ, ◌+◌, ◌-◌, ◌*◌, ◌/◌, ◌%◌, ◌^◌, ◌<◌, ◌≤◌, Bool, true, false, refl, sym, ap, ◌∙◌, arith}
use Rattle.std.specs.Prelude.{nat_lt, nat_le}
use Rattle.std.proofs.lemmas.Bool.{eq-eqb, lt-leb, le-ltb}
use Rattle.ev_isa.specs.Word.{is_aligned}
use Rattle.ev_isa.specs.declared.mode.Mode.{Mode}
use Rattle.ev_body.specs.declared.image.Image.{Image}
use Rattle.ev_listing.specs.AddressMap.{pcpu, stack_top, fred_page}
use Rattle.ev_concrete.specs.Opening.{Placed, pcpu_word, within, word_there, opening_word, code_of, listings}
use Rattle.ev_tables.specs.Claims.{StacksStand}
use Rattle.ev_tables.proofs.Opened.{above, inside}

area_there : (es : Placed) (mode : Mode) (image : Image) (p o : ℕ) → image.processors ≤ 8 → p < image.processors → o < 0x10000
    → word_there es mode image (pcpu p + o) ≡ pcpu_word p o
unfolding word_there
area_there es mode image p o few hp ho =
    let upper : nat_lt (pcpu p + o) (2 ^ 63) ≡ false = le-ltb (pcpu p + o) (2 ^ 63) (omega arith) in
    let code : nat_le fred_page (pcpu p + o) ≡ false = lt-leb fred_page (pcpu p + o) (omega arith) in
    let stacks : within (stack_top 0 0 - 0x4000) (0x100000 * image.processors) (pcpu p + o) ≡ false =
    above (stack_top 0 0 - 0x4000) (0x100000 * image.processors) (pcpu p + o) (omega arith) in
    let areas : within (pcpu 0) (0x10000 * image.processors) (pcpu p + o) ≡ true =
    inside (pcpu 0) (0x10000 * image.processors) (pcpu p + o) (omega arith) (omega arith) in
    let which : (pcpu p + o - pcpu 0) / 0x10000 ≡ p = omega arith in
    let offset : (pcpu p + o) % 0x10000 ≡ o = omega arith in
    rw (upper, code, stacks, areas, which, offset) refl

opened_area : (es : Placed) (mode : Mode) (image : Image) (p o : ℕ) → image.processors ≤ 8 → p < image.processors → o < 0x10000 → o % 8 ≡ 0
    → opening_word es mode image (pcpu p + o) ≡ pcpu_word p o
unfolding opening_word
opened_area es mode image p o few hp ho h =
    let al : is_aligned (pcpu p + o) ≡ true = eq-eqb ((pcpu p + o) % 8) 0 (omega arith) in rw al (area_there es mode image p o few hp ho)

nmi_stack : (p : ℕ) → pcpu_word p 0x428 ≡ stack_top p 4
unfolding pcpu_word
nmi_stack p = refl

double_fault_stack : (p : ℕ) → pcpu_word p 0x430 ≡ stack_top p 5
unfolding pcpu_word
double_fault_stack p = refl

pub stacks_stand : StacksStand
stacks_stand mode image words p is hp nmi double =
    let few : image.processors ≤ 8 = is.count.1 in
    let first : (pcpu p + 0x404) + 28 + 8 * 1 ≡ pcpu p + 0x428 = omega arith in
    let second : (pcpu p + 0x404) + 28 + 8 * 2 ≡ pcpu p + 0x430 = omega arith in (
      ap words first ∙ nmi ∙ opened_area (code_of (listings mode image)) mode image p 0x428 few hp (omega arith) refl ∙ nmi_stack p,
      ap words second ∙ double ∙ opened_area (code_of (listings mode image)) mode image p 0x430 few hp (omega arith) refl ∙ double_fault_stack p,
    )
