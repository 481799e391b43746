-- The word at an address of the kernel, by the area or table that holds it.
use Rattle.std.proofs.Common.{◌≡◌, ℕ, ◌-◌, ◌*◌, ◌/◌, ◌%◌, ◌^◌, ◌<◌, ◌≤◌, Bool, true, false, length, refl, arith}
use Rattle.std.specs.Prelude.{nat_lt, nat_le}
use Rattle.std.proofs.lemmas.Bool.Decides.{nat_tests}
use Rattle.ev_isa.specs.declared.mode.Mode.{Mode}
use Rattle.ev_body.specs.declared.image.Image.{Image}
use Rattle.ev_listing.specs.AddressMap.{pcpu, task_words, stack_top, fred_page}
use Rattle.ev_concrete.specs.Opening.{Placed, within, code_word, stack_word, pcpu_word, tasks_of, task_word, word_there}
use Rattle.ev_layout.specs.There.{table_there}

pub not_lower : (a : ℕ) → 2 ^ 63 ≤ a → nat_lt a (2 ^ 63) ≡ false
not_lower a h = grind (arith, nat_tests)

pub in_code : (a : ℕ) → fred_page ≤ a → nat_le fred_page a ≡ true
in_code a h = grind (arith, nat_tests)

pub before_code : (a : ℕ) → a < fred_page → nat_le fred_page a ≡ false
before_code a h = grind (arith, nat_tests)

pub there_code : (es : Placed) (mode : Mode) (image : Image) (a : ℕ) → 2 ^ 63 ≤ a → fred_page ≤ a → word_there es mode image a ≡ code_word es a
unfolding word_there
there_code es mode image a u k = let h = not_lower a u in let g = in_code a k in rw (h, g) refl

-- the tests before that of the stacks
pub record IsBelow (a : ℕ) : Type 0 where
  pub upper : nat_lt a (2 ^ 63) ≡ false
  pub code : nat_le fred_page a ≡ false

pub is_below : (a : ℕ) → 2 ^ 63 ≤ a → a < fred_page → IsBelow a
is_below a u k = record { upper = not_lower a u; code = before_code a k }

abbrev pub in_stacks : Image → ℕ → Bool
in_stacks image a = within (stack_top 0 0 - 0x4000) (0x100000 * image.processors) a

abbrev pub in_areas : Image → ℕ → Bool
in_areas image a = within (pcpu 0) (0x10000 * image.processors) a

abbrev pub in_tasks : Image → ℕ → Bool
in_tasks image a = within (task_words 0 0) (0x100 * image.processors) a

pub there_stack : (es : Placed) (mode : Mode) (image : Image) (a : ℕ) → IsBelow a → in_stacks image a ≡ true → word_there es mode image a
    ≡ stack_word mode image ((a - (stack_top 0 0 - 0x4000)) / 0x100000) ((a - (stack_top 0 0 - 0x4000)) % 0x100000 / 0x4000) (0x4000 - a % 0x4000)
unfolding word_there
there_stack es mode image a b r = let p = b.upper in let q = b.code in rw (p, q, r) refl

pub there_area : (es : Placed) (mode : Mode) (image : Image) (a : ℕ) → IsBelow a → in_stacks image a ≡ false → in_areas image a ≡ true
    → word_there es mode image a ≡ pcpu_word ((a - pcpu 0) / 0x10000) (a % 0x10000)
unfolding word_there
there_area es mode image a b r h = let p = b.upper in let q = b.code in rw (p, q, r, h) refl

pub there_task : (es : Placed) (mode : Mode) (image : Image) (a : ℕ) → IsBelow a → in_stacks image a ≡ false → in_areas image a ≡ false
    → in_tasks image a ≡ true
    → word_there es mode image a ≡ (let i : ℕ = (a - task_words 0 0) / 0x40 in task_word (length (tasks_of image (i / 4))) (i / 4) (i % 4) (a % 0x40))
unfolding word_there
there_task es mode image a b r h g = let p = b.upper in let q = b.code in rw (p, q, r, h, g) refl

pub there_table : (es : Placed) (mode : Mode) (image : Image) (a : ℕ) → IsBelow a → in_stacks image a ≡ false → in_areas image a ≡ false
    → in_tasks image a ≡ false → word_there es mode image a ≡ table_there image a
unfolding word_there table_there
there_table es mode image a b r h g = let p = b.upper in let q = b.code in rw (p, q, r, h, g) refl
