-- The tables of bodies: the word of a key is the address of the body that the key has on that side.
use Rattle.std.proofs.Common.{◌≡◌, ℕ, ◌+◌, ◌*◌, ◌-◌, ◌/◌, ◌%◌, ◌^◌, ◌<◌, ◌≤◌, true, false, Some, ap, ◌∙◌, subst, sym, arith, pos}
use Rattle.std.specs.Prelude.{nat_lt, nat_le}
use Rattle.std.proofs.lemmas.Bool.{eq-eqb, le-leb, lt-leb, lt-ltb, le-ltb}
use Rattle.ev_isa.specs.Word.{is_aligned, displaced}
use Rattle.ev_isa.specs.Pages.{KernelWord}
use Rattle.ev_isa.specs.declared.mode.Mode.{Mode}
use Rattle.ev_body.specs.declared.key.Side.TheVariants.{Kernel}
use Rattle.ev_body.specs.declared.image.Image.{Image}
use Rattle.ev_body.specs.Bodies.{first_body}
use Rattle.ev_body.specs.WellFormed.{IsImage}
use Rattle.ev_mem.specs.Memory.{Memory, place_in}
use Rattle.ev_listing.specs.AddressMap.{pcpu, user_table, kernel_table, body_code, fred_page, stack_top, task_words}
use Rattle.ev_concrete.specs.Opening.{regions, opening_word, word_there, body_address}
use Rattle.ev_symbolic.specs.Agrees.{IsOpen}
use Rattle.ev_blocks.specs.Shapes.{Origin, UserCode, KernelCode}
use Rattle.ev_blocks.specs.Idt.{table_of}
use Rattle.ev_distances.proofs.Regions.{user_table_covered, kernel_table_covered}
use Rattle.ev_tables.proofs.Gates.{upper_canonical}
use Rattle.ev_relation.specs.Active.{side_by}
use Rattle.ev_relation.specs.Relation.{first_word, InTables}
use Rattle.ev_relation.proofs.Facts.{HasFixed}
use Rattle.ev_relation.proofs.UserBody.{user_word_is}

-- the word of the table of events of bodies for a key, whether or not it has a body
pub kernel_word_is : (mode : Mode) (image : Image) → image.processors ≤ 8 → (key : ℕ) → key ≤ 0x100
    → first_word mode image (kernel_table + 8 * key) ≡ body_address (first_body 0 image.bodies key Kernel)
unfolding opening_word word_there
kernel_word_is mode image few key small =
    let a : ℕ = kernel_table + 8 * key in
    let aligned : is_aligned a ≡ true = eq-eqb (a % 8) 0 (omega arith) in
    let upper : nat_lt a (2 ^ 63) ≡ false = le-ltb a (2 ^ 63) (omega arith) in
    let code : nat_le fred_page a ≡ false = lt-leb fred_page a (omega arith) in
    let stacks : nat_le (stack_top 0 0 - 0x4000) a ≡ false = lt-leb (stack_top 0 0 - 0x4000) a (omega arith) in
    let areas : nat_lt a (pcpu 0 + 0x10000 * image.processors) ≡ false = le-ltb a (pcpu 0 + 0x10000 * image.processors) (omega arith) in
    let above : nat_le (pcpu 0) a ≡ true = le-leb (pcpu 0) a (omega arith) in
    let tasks : nat_le (task_words 0 0) a ≡ false = lt-leb (task_words 0 0) a (omega arith) in
    let over : nat_le user_table a ≡ true = le-leb user_table a (omega arith) in
    let beyond : nat_lt a (user_table + 8 * 257) ≡ false = le-ltb a (user_table + 8 * 257) (omega arith) in
    let from : nat_le kernel_table a ≡ true = le-leb kernel_table a (omega arith) in
    let to : nat_lt a (kernel_table + 8 * 257) ≡ true = lt-ltb a (kernel_table + 8 * 257) (omega arith) in
    let number : (a - kernel_table) / 8 ≡ key = omega arith in
    rw (aligned, upper, code, stacks, areas, above, tasks, over, beyond, from, to)
    (ap (λ k. body_address (first_body 0 image.bodies k Kernel)) number)

-- a displacement of 0 is none
pub table_place : (o : Origin) (key : ℕ) → key ≤ 0x100 → displaced (table_of o + 8 * key) (pos 0) ≡ table_of o + 8 * key
table_place UserCode key h = let q : (user_table + 8 * key + 0) % 2 ^ 64 ≡ user_table + 8 * key = omega arith in q
table_place KernelCode key h = let q : (kernel_table + 8 * key + 0) % 2 ^ 64 ≡ kernel_table + 8 * key = omega arith in q

module _ (mode : Mode) (image : Image) (good : IsImage image) where
  opened : (m : Memory) → m.regions ≡ regions image → (a : ℕ) → place_in (regions image) a ≡ KernelWord → 0xffff888000800000 ≤ a → a < 0xffff888000802000
      → a % 8 ≡ 0 → IsOpen m.regions a
  opened m hr a at lo hi even = record {
    kernel = subst (λ rs. place_in rs a ≡ KernelWord) (sym hr) at;
    canonical = upper_canonical a (omega arith) (omega arith);
    aligned = eq-eqb (a % 8) 0 even;
  }

  -- the kernel reads there where the body's code is
  pub table_reads : (o : Origin) (key : ℕ) → key ≤ 0x100 → (n : ℕ) → first_body 0 image.bodies key (side_by mode image o) ≡ Some n → (m : Memory)
      → m.regions ≡ regions image → HasFixed mode image m
      → IsOpen m.regions (table_of o + 8 * key) × (m.words (table_of o + 8 * key) ≡ body_code n)
  table_reads UserCode key small n h m hr fixed = (
    opened m hr (user_table + 8 * key)
        (user_table_covered image 0 0x808 (omega arith) (user_table + 8 * key) (record { from = omega arith; to = omega arith })) (omega arith) (omega arith)
        (omega arith),
    fixed (user_table + 8 * key) (InTables (omega arith) (omega arith)) ∙ user_word_is mode image good.count.1 key small ∙ ap body_address h,
  )
  table_reads KernelCode key small n h m hr fixed = (
    opened m hr (kernel_table + 8 * key)
        (kernel_table_covered image 0x1000 0x808 (omega arith) (omega arith) (kernel_table + 8 * key) (record { from = omega arith; to = omega arith }))
        (omega arith) (omega arith) (omega arith),
    fixed (kernel_table + 8 * key) (InTables (omega arith) (omega arith)) ∙ kernel_word_is mode image good.count.1 key small ∙ ap body_address h,
  )
