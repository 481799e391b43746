-- The words of the opening from the IDT's base on are those of the IDT.
use Rattle.std.proofs.Common.{◌≡◌, ℕ, ◌+◌, ◌-◌, ◌*◌, ◌/◌, ◌^◌, ◌<◌, ◌≤◌, Bool, true, false, ◌&&◌, refl, arith}
use Rattle.std.specs.Prelude.{nat_lt, nat_le}
use Rattle.std.proofs.lemmas.Bool.{le-leb, lt-ltb, lt-leb, le-ltb}
use Rattle.ev_isa.specs.Word.{is_aligned}
use Rattle.ev_isa.specs.declared.mode.Mode.{Mode}
use Rattle.ev_body.specs.declared.image.Image.{Image}
use Rattle.ev_listing.specs.AddressMap.{pcpu, user_table, kernel_table, idt_base, task_words, stack_top, fred_page}
use Rattle.ev_concrete.specs.Opening.{Placed, idt_word, within, word_there, opening_word}

neither : (x y : Bool) → y ≡ false → (x && y) ≡ false
neither true y h = h
neither false y h = refl

-- in none of the areas that lie above, and of those that lie below
pub above : (base bytes a : ℕ) → a < base → within base bytes a ≡ false
above base bytes a h = let t : nat_le base a ≡ false = lt-leb base a h in rw t refl

below : (base bytes a : ℕ) → base + bytes ≤ a → within base bytes a ≡ false
below base bytes a h = neither (nat_le base a) (nat_lt a (base + bytes)) (le-ltb a (base + bytes) h)

pub inside : (base bytes a : ℕ) → base ≤ a → a < base + bytes → within base bytes a ≡ true
inside base bytes a h k =
    let t : nat_le base a ≡ true = le-leb base a h in
    let u : nat_lt a (base + bytes) ≡ true = lt-ltb a (base + bytes) k in
    rw (t, u) refl

pub idt_there : (es : Placed) (mode : Mode) (image : Image) (a : ℕ) → image.processors ≤ 8 → idt_base ≤ a → a < idt_base + 0x1000
    → word_there es mode image a ≡ idt_word ((a - idt_base) / 8)
unfolding word_there
idt_there es mode image a few h k =
    let upper : nat_lt a (2 ^ 63) ≡ false = le-ltb a (2 ^ 63) (omega arith) in
    let code : nat_le fred_page a ≡ false = lt-leb fred_page a (omega arith) in
    let stacks : within (stack_top 0 0 - 0x4000) (0x100000 * image.processors) a ≡ false =
    above (stack_top 0 0 - 0x4000) (0x100000 * image.processors) a (omega arith) in
    let areas : within (pcpu 0) (0x10000 * image.processors) a ≡ false = below (pcpu 0) (0x10000 * image.processors) a (omega arith) in
    let tasks : within (task_words 0 0) (0x100 * image.processors) a ≡ false = above (task_words 0 0) (0x100 * image.processors) a (omega arith) in
    let users : within user_table (8 * 257) a ≡ false = below user_table (8 * 257) a (omega arith) in
    let kernels : within kernel_table (8 * 257) a ≡ false = below kernel_table (8 * 257) a (omega arith) in
    let idt : within idt_base (16 * 256) a ≡ true = inside idt_base (16 * 256) a h (omega arith) in
    rw (upper, code, stacks, areas, tasks, users, kernels, idt) refl

pub opened_idt : (es : Placed) (mode : Mode) (image : Image) (a : ℕ) → image.processors ≤ 8 → is_aligned a ≡ true → idt_base ≤ a → a < idt_base + 0x1000
    → opening_word es mode image a ≡ idt_word ((a - idt_base) / 8)
unfolding opening_word
opened_idt es mode image a few al h k = rw al (idt_there es mode image a few h k)
