-- The modelled bits of RFLAGS, and what arithmetic makes of them (SDM volume 1, 3.4.3; volume 2, the pages of the instructions).
-- PF and AF are always 0 (own).
use Rattle.std.specs.Prelude.{ℕ, ◌+◌, ◌-◌, ◌*◌, ◌/◌, ◌^◌, Bool, true, false, not, ◌&&◌, ◌==◌, nat_lt, nat_le, bit_and, bit_or, bit_xor}
use Rattle.std.specs.Bool.{beq}
use Rattle.ev_isa.specs.Word.{wrap, bit, bit_if}
use Rattle.ev_isa.specs.declared.instruction.AluOp.{AluOp}
use Rattle.ev_isa.specs.declared.instruction.Cond.{Cond}
use Rattle.ev_isa.specs.declared.instruction.AluOp.TheVariants.{Add, Or, And, Sub, Xor, Cmp}
use Rattle.ev_isa.specs.declared.instruction.Cond.TheVariants.{Z, Nz, C, Nc, S, Ns}

-- the status flags CF, ZF, SF and OF
pub record Status : Type 0 where
  pub carry : Bool
  pub zero : Bool
  pub sign : Bool
  pub overflow : Bool

-- with IF and AC
pub record Flags : Type 0 where
  pub status : Status
  pub interrupts : Bool
  pub alignment : Bool

-- all status flags clear
abbrev pub no_status : Status
no_status = record { carry = false; zero = false; sign = false; overflow = false }

-- RFLAGS: bit 1 is always 1
unfoldable pub flags_word : Flags → ℕ
flags_word f = 2 + bit_if 0 f.status.carry + bit_if 6 f.status.zero + bit_if 7 f.status.sign + bit_if 9 f.interrupts + bit_if 11 f.status.overflow + bit_if
    18 f.alignment

-- what a load of RFLAGS takes of a word
unfoldable pub flags_of : ℕ → Flags
flags_of w = record { status = record { carry = bit 0 w; zero = bit 6 w; sign = bit 7 w; overflow = bit 11 w }; interrupts = bit 9 w; alignment = bit 18 w }

-- a word's modelled bits, with bit 1
abbrev pub modelled : ℕ → ℕ
modelled w = flags_word (flags_of w)

-- RFLAGS of a task at its start: 40202H
abbrev pub start_flags : Flags
start_flags = record { status = no_status; interrupts = true; alignment = true }

-- bit 63 is set
abbrev pub is_negative : ℕ → Bool
is_negative a = nat_le (2 ^ 63) a

-- a result, and the status flags that it leaves with this carry and this overflow
abbrev pub computed : ℕ → Bool → Bool → ℕ × Status
computed r c o = (r, record { carry = c; zero = r == 0; sign = is_negative r; overflow = o })

-- the sum modulo 2^64, with carry out of bit 63 and signed overflow
unfoldable pub sum : ℕ → ℕ → ℕ × Status
sum a b = let r : ℕ = wrap (a + b) in
    computed r (nat_le (2 ^ 64) (a + b)) (beq (is_negative a) (is_negative b) && not (beq (is_negative a) (is_negative r)))

-- the difference modulo 2^64, with borrow and signed overflow
unfoldable pub difference : ℕ → ℕ → ℕ × Status
difference a b = let r : ℕ = wrap (a + 2 ^ 64 - b) in
    computed r (nat_lt a b) (not (beq (is_negative a) (is_negative b)) && not (beq (is_negative a) (is_negative r)))

-- what an arithmetic instruction makes of its destination and its source. `cmp` keeps its destination
unfoldable pub alu : AluOp → ℕ → ℕ → ℕ × Status
alu Add a b = sum a b
alu Or a b = computed (bit_or a b) false false
alu And a b = computed (bit_and a b) false false
alu Sub a b = difference a b
alu Xor a b = computed (bit_xor a b) false false
alu Cmp a b = (a, (difference a b).1)

-- shifts by 1 to 63
unfoldable pub shift_left : ℕ → ℕ → ℕ × Status
shift_left a n = let r : ℕ = wrap (a * 2 ^ n) in
    computed r (bit (64 - n) a) ((n == 1) && not (beq (is_negative r) (bit (64 - n) a)))

-- A shift right by 1 to 63: the last bit that leaves is carry, and a shift by one overflows where the sign was set.
unfoldable pub shift_right : ℕ → ℕ → ℕ × Status
shift_right a n = computed (a / 2 ^ n) (bit (n - 1) a) ((n == 1) && is_negative a)

-- whether a condition holds of status flags
unfoldable pub holds : Cond → Status → Bool
holds Z f = f.zero
holds Nz f = not f.zero
holds C f = f.carry
holds Nc f = not f.carry
holds S f = f.sign
holds Ns f = not f.sign
