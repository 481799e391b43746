-- What can be fetched ends at a canonical address.
use Rattle.std.proofs.Common.{◌≡◌, ℕ, ◌+◌, ◌-◌, ◌/◌, ◌^◌, ◌<◌, ◌≤◌, Bool, true, false, ◌||◌, length, refl, sym, ap, ◌∙◌, arith, ⊎_elim}
use Rattle.std.specs.Prelude.{◌==◌}
use Rattle.std.proofs.lemmas.Bool.{eq-eqb}
use Rattle.ev_isa.specs.Word.{is_canonical}
use Rattle.ev_isa.specs.Pages.{fault_at}
use Rattle.ev_isa.specs.Spelling.{spelling}
use Rattle.ev_code.proofs.Spelled.{spelling_length}
use Rattle.ev_state.specs.Processor.{is_user}
use Rattle.ev_mem.specs.Memory.{place_in, present_in}
use Rattle.ev_fetch.specs.Claims.{StaysInCode}
use Rattle.ev_fetch.proofs.Regions.{IsFar, fetches_far}

either_right : (x y : Bool) → y ≡ true → (x || y) ≡ true
either_right true y h = refl
either_right false y h = h

low : (a : ℕ) → a < 2 ^ 47 → is_canonical a ≡ true
low a h = ap (λ b. b || (a / 2 ^ 47 == 2 ^ 17 - 1)) (eq-eqb (a / 2 ^ 47) 0 (omega arith))

high : (a : ℕ) → 0xffff800000000000 ≤ a → a < 2 ^ 64 → is_canonical a ≡ true
high a h k = either_right (a / 2 ^ 47 == 0) (a / 2 ^ 47 == 2 ^ 17 - 1) (eq-eqb (a / 2 ^ 47) (2 ^ 17 - 1) (omega arith))

ends_well : (a n : ℕ) → n ≤ 15 → IsFar a → is_canonical (a + n) ≡ true
ends_well a n h f = ⊎_elim (λ l. low (a + n) (omega arith)) (λ k. high (a + n) (let l = k.0 in omega arith) (let l = k.1 in omega arith)) f

pub stays_in_code : StaysInCode
stays_in_code image m c is e = record {
  ends = λ i fetch read.
      let at = ap (λ rs. fault_at (present_in m) (record { user = is_user c; write = false; fetch = true }) (place_in rs c.rip)) e in
      ends_well c.rip (length (spelling i)) (spelling_length i)
      (fetches_far image (present_in m) (record { user = is_user c; write = false; fetch = true }) c.rip is (sym at ∙ fetch));
}
