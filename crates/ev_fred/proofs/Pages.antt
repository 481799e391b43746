-- Pages of canonical addresses, and stack levels as bits.
use Rattle.std.proofs.Common.{◌≡◌, ◌<◌, ℕ, ◌+◌, ◌-◌, ◌*◌, ◌/◌, ◌%◌, ◌^◌, true, ◌||◌, ◌==◌, arith, sym, ap, ◌∙◌}
use Rattle.ev_isa.specs.Word.{is_canonical}
use Rattle.ev_frame.specs.Config.{level_of}
use Rattle.std.proofs.lemmas.Nat.{pow-add, mul-pow}
use Rattle.std.proofs.lemmas.Bool.{lt-ltb}

same_top : (a k : ℕ) → k < 4096 → (a - a % 4096 + k) / 140737488355328 ≡ a / 140737488355328
same_top a k h = omega arith

pub page_canonical : (a k : ℕ) → k < 4096 → is_canonical a ≡ true → is_canonical (a - a % 4096 + k) ≡ true
page_canonical a k h c = ap (λ (n : ℕ). (n == 0) || (n == 131071)) (same_top a k h) ∙ c

twice : (v : ℕ) → 2 ^ (2 * v) ≡ 4 ^ v
twice v = let e : 2 * v ≡ v + v = omega arith in ap (λ (n : ℕ). 2 ^ n) e ∙ pow-add 2 v v ∙ sym (mul-pow 2 2 v)

pub level_bits : (n v : ℕ) → v < 32 → n / 2 ^ (2 * v) % 4 ≡ level_of n v
level_bits n v h = rw (lt-ltb v 32 h) (ap (λ (p : ℕ). n / p % 4) (twice v))
