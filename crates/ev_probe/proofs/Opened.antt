-- The words of the opening that a bare memory has too.
use Rattle.std.proofs.Common.{◌≡◌, ℕ, zero, suc, ◌+◌, ◌-◌, ◌*◌, ◌/◌, ◌%◌, ◌^◌, ◌<◌, ◌≤◌, Bool, true, false, ◌&&◌, List, [], length, refl, ap, ◌∙◌, arith}
use Rattle.std.specs.Prelude.{if◌then◌else◌, nat_le, nat_lt}
use Rattle.std.proofs.lemmas.Bool.{eq-eqb, le-ltb, lt-leb}
use Rattle.ev_isa.specs.Word.{NatMap, is_aligned}
use Rattle.ev_isa.specs.declared.mode.Mode.{Mode}
use Rattle.ev_effect.specs.Frame.{placed}
use Rattle.ev_listing.specs.AddressMap.{fred_page, idt_base, pcpu, stack_top}
use Rattle.ev_concrete.specs.Opening.{idt_word, opening_word, pcpu_word, stack_word, within, word_there}
use Rattle.ev_tables.proofs.Opened.{inside, opened_idt}
use Rattle.ev_probe.specs.Probe.{bare}
use Rattle.ev_probe.specs.BareMemory.{HoldsGates, HoldsStacks, IsInStacks}
use Rattle.ev_probe.proofs.Places.{placed_other}

neither : (x y : Bool) → y ≡ false → (x && y) ≡ false
neither true y h = h
neither false y h = refl

no_waiting : (n : ℕ) → (nat_lt 0 n && nat_lt n 1) ≡ false
no_waiting zero = refl
no_waiting (suc n) = neither (nat_lt 0 (suc n)) (nat_lt (suc n) 1) (le-ltb (suc n) 1 (omega arith))

empty_stack : (mode : Mode) (p n o : ℕ) → p ≡ 0 → stack_word mode bare p n o ≡ 0
empty_stack mode p n o h = ap (λ (x : ℕ). stack_word mode bare x n o) h ∙ by (no_waiting n)
  where
    by : (nat_lt 0 n && nat_lt n 1) ≡ false → stack_word mode bare 0 n o ≡ 0
    by e = rw e refl

stack_there : (mode : Mode) (a : ℕ) → IsInStacks a → word_there [] mode bare a ≡ 0
unfolding word_there
stack_there mode a h =
    let lo = h.0 in let hi = h.1 in
    let upper : nat_lt a (2 ^ 63) ≡ false = le-ltb a (2 ^ 63) (omega arith) in
    let code : nat_le fred_page a ≡ false = lt-leb fred_page a (omega arith) in
    let stacks : within (stack_top 0 0 - 0x4000) (0x100000 * 1) a ≡ true = inside (stack_top 0 0 - 0x4000) (0x100000 * 1) a lo (omega arith) in
    rw (upper, code, stacks) (empty_stack mode ((a - (stack_top 0 0 - 0x4000)) / 0x100000) ((a - (stack_top 0 0 - 0x4000)) % 0x100000 / 0x4000)
    (0x4000 - a % 0x4000) (omega arith))

if_zero : (t : Bool) (x : ℕ) → x ≡ 0 → (if t then x else 0) ≡ 0
if_zero true x h = h
if_zero false x h = refl

pub opened_stacks : (mode : Mode) (a : ℕ) → IsInStacks a → opening_word [] mode bare a ≡ 0
unfolding opening_word
opened_stacks mode a h = if_zero (is_aligned a) (word_there [] mode bare a) (stack_there mode a h)

pub opened_gates : (mode : Mode) → HoldsGates 512 (opening_word [] mode bare)
opened_gates mode k h =
    let place : (idt_base + 8 * k - idt_base) / 8 ≡ k = omega arith in
    opened_idt [] mode bare (idt_base + 8 * k) (omega arith) (eq-eqb ((idt_base + 8 * k) % 8) 0 (omega arith)) (omega arith) (omega arith) ∙ ap idt_word place

pub opened_tss : (mode : Mode) → HoldsStacks (opening_word [] mode bare)
unfolding opening_word word_there pcpu_word
opened_tss mode = record { rsp0 = refl; ist1 = refl; ist2 = refl }

-- ---- with words at an address among the stacks

pub placed_gates : (words : NatMap ℕ) (a : ℕ) (ws : List ℕ) → stack_top 0 0 - 0x4000 ≤ a → a + 8 * length ws < 2 ^ 64 → HoldsGates 512 words
    → HoldsGates 512 (placed words a ws)
placed_gates words a ws lo hi h k l = placed_other words a ws (idt_base + 8 * k) (omega arith) hi ∙ h k l

pub placed_tss : (words : NatMap ℕ) (a : ℕ) (ws : List ℕ) → stack_top 0 0 - 0x4000 ≤ a → a + 8 * length ws < 2 ^ 64 → HoldsStacks words
    → HoldsStacks (placed words a ws)
placed_tss words a ws lo hi h = record {
  rsp0 = placed_other words a ws (pcpu 0 + 0x408) (omega arith) hi ∙ h.rsp0;
  ist1 = placed_other words a ws (pcpu 0 + 0x428) (omega arith) hi ∙ h.ist1;
  ist2 = placed_other words a ws (pcpu 0 + 0x430) (omega arith) hi ∙ h.ist2;
}
