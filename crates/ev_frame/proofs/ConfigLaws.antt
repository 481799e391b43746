-- The laws of the CONFIG word.
use Rattle.std.proofs.Common.{◌≡◌, ◌<◌, ℕ, ◌+◌, ◌-◌, ◌*◌, ◌/◌, ◌%◌, ◌^◌, Bool, true, false, not, ◌==◌, Ok, Err, refl, arith, sym, if◌then◌else◌}
use Rattle.std.proofs.lemmas.Bool.{eqb-true, eqb-false, or_parts, not-false}
use Rattle.ev_isa.specs.Word.{bit}
use Rattle.ev_frame.specs.declared.config.FredConfig.{FredConfig}
use Rattle.ev_frame.specs.declared.config.Reserved.{Reserved}
use Rattle.ev_frame.specs.Config.{config_word, is_reserved, read_config, ConfigIsRead, ConfigIsWritten}

-- the parts of the word
record Parts (w p i d l : ℕ) : Type 0 where
  page : w - w % 2 ^ 12 ≡ p
  int_level : w / 2 ^ 9 % 4 ≡ i
  decrement : w / 2 ^ 6 % 8 ≡ d
  level : w % 4 ≡ l
  eleven : w / 2 ^ 11 % 2 ≡ 0
  middle : w / 4 % 16 ≡ 0

parts : (w p i d l : ℕ) → p % 2 ^ 12 ≡ 0 → i < 4 → d < 8 → l < 4 → w ≡ p + 2 ^ 9 * i + 2 ^ 6 * d + l → Parts w p i d l
parts w p i d l hp hi hd hl e = record {
  page = omega arith;
  int_level = omega arith;
  decrement = omega arith;
  level = omega arith;
  eleven =
      omega arith;
  middle = omega arith;
}

pub is_read : ConfigIsRead
unfolding read_config
is_read c h =
    let p = parts (config_word c) c.page c.int_level c.decrement c.level h.1 h.2 h.3 h.4 refl in
    rw (p.eleven, p.middle, p.page, p.int_level, p.decrement, p.level) refl

tests : (a : Bool) (r : Reserved) (x c : FredConfig) → (if a then Err r else Ok x) ≡ Ok c → (a ≡ false) × (x ≡ c)
tests true r x c e = cc
tests false r x c e = (refl, cc)

pub is_written : ConfigIsWritten
unfolding read_config
is_written w c hw e =
    let x : FredConfig = record { page = w - w % 2 ^ 12; int_level = w / 2 ^ 9 % 4; decrement = w / 2 ^ 6 % 8; level = w % 4 } in
    let said = tests (is_reserved w) (record {}) x c e in
    let clear = or_parts (bit 11 w) (not (w / 4 % 16 == 0)) said.0 in
    let eleven = eqb-false (w / 2 ^ 11 % 2) 1 clear.0 in
    let middle = eqb-true (w / 4 % 16) 0 (not-false (w / 4 % 16 == 0) clear.1) in
    rw (sym said.1) ((omega arith, omega arith, omega arith, omega arith, omega arith), omega (arith, eleven, middle))
