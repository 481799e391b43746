-- Results and status flags of each arithmetic form.
use Rattle.std.specs.Prelude.{◌≡◌, refl, ℕ, pos, [], ◌∷◌, ◌+◌, ◌-◌, ◌^◌, nat_eq, Option, Some, None, Result, Ok, Err}
use Rattle.ev_isa.specs.Flags.{Status, alu, difference, flags_of, flags_word, shift_left, shift_right, sum}
use Rattle.ev_isa.specs.declared.instruction.AluOp.{AluOp}
use Rattle.ev_isa.specs.declared.instruction.Ins.{Ins}
use Rattle.ev_isa.specs.declared.instruction.Ins.TheVariants.{CmpXchg, Xadd}
use Rattle.ev_event.specs.declared.event.Event.{Event}
use Rattle.ev_effect.specs.Effect.{Changed, access_event, effect}
use Rattle.ev_effect.specs.Task.{reg}
use Rattle.ev_listing.specs.Statements.{rax, rbx}

-- CF, ZF, SF and OF, as 0 or 1
unfoldable pub status : ℕ → ℕ → ℕ → ℕ → Status
status c z s o = record { carry = nat_eq c 1; zero = nat_eq z 1; sign = nat_eq s 1; overflow = nat_eq o 1 }

add_overflows : alu AluOp.Add (2 ^ 63 - 1) 1 ≡ (2 ^ 63, status 0 0 1 1)
unfolding sum difference alu status
add_overflows = refl

add_carries : alu AluOp.Add (2 ^ 64 - 1) 1 ≡ (0, status 1 1 0 0)
unfolding sum difference alu status
add_carries = refl

sub_borrows : alu AluOp.Sub 0 1 ≡ (2 ^ 64 - 1, status 1 0 1 0)
unfolding sum difference alu status
sub_borrows = refl

sub_overflows : alu AluOp.Sub (2 ^ 63) 1 ≡ (2 ^ 63 - 1, status 0 0 0 1)
unfolding sum difference alu status
sub_overflows = refl

cmp_keeps : alu AluOp.Cmp 5 5 ≡ (5, status 0 1 0 0)
unfolding sum difference alu status
cmp_keeps = refl

cmp_below : alu AluOp.Cmp 5 6 ≡ (5, status 1 0 1 0)
unfolding sum difference alu status
cmp_below = refl

and_clears : alu AluOp.And 0xc 0x3 ≡ (0, status 0 1 0 0)
unfolding sum difference alu status
and_clears = refl

or_signs : alu AluOp.Or (2 ^ 63) 1 ≡ (2 ^ 63 + 1, status 0 0 1 0)
unfolding sum difference alu status
or_signs = refl

xor_clears : alu AluOp.Xor 0xff 0xff ≡ (0, status 0 1 0 0)
unfolding sum difference alu status
xor_clears = refl

shl_out : shift_left (2 ^ 63) 1 ≡ (0, status 1 1 0 1)
unfolding shift_left shift_right status
shl_out = refl

shl_sign : shift_left (2 ^ 62) 1 ≡ (2 ^ 63, status 0 0 1 1)
unfolding shift_left shift_right status
shl_sign = refl

shl_many : shift_left (2 ^ 62) 2 ≡ (0, status 1 1 0 0)
unfolding shift_left shift_right status
shl_many = refl

shr_out : shift_right 3 1 ≡ (1, status 1 0 0 0)
unfolding shift_left shift_right status
shr_out = refl

shr_sign : shift_right (2 ^ 63) 1 ≡ (2 ^ 62, status 0 0 0 1)
unfolding shift_left shift_right status
shr_sign = refl

shr_many : shift_right (2 ^ 63) 63 ≡ (1, status 0 0 0 0)
unfolding shift_left shift_right status
shr_many = refl

-- a number as what the locked forms do: rax, rbx, the word at 1000H, and RFLAGS after the instruction
unfoldable pub locked : Ins → ℕ → ℕ → ℕ → Option (ℕ × ℕ × ℕ × ℕ)
locked i rax rbx word = shown
    (effect (record { fault = λ write a. None; words = λ a. word }) (record { regs = rax ∷ 0 ∷ 0x1000 ∷ rbx ∷ []; rip = 0; flags = flags_of 2; gs = 0 }) i)
  where
    shown : Result Changed Event → Option (ℕ × ℕ × ℕ × ℕ)
    shown (Ok r) = Some (reg r.0 0, reg r.0 3, r.1 0x1000, flags_word r.0.flags)
    shown (Err e) = None

-- the sum goes into the word, and its old value into the register: here with CF and ZF
xadd_carries : locked (Xadd 2 (pos 0) 3) 7 1 (2 ^ 64 - 1) ≡ Some (7, 2 ^ 64 - 1, 0, 0x43)
unfolding locked effect access_event sum flags_of flags_word
xadd_carries = refl

-- rax is the word, which becomes rbx: ZF
cmpxchg_equal : locked (CmpXchg 2 (pos 0) 3) 7 9 7 ≡ Some (7, 9, 9, 0x42)
unfolding locked effect access_event difference flags_of flags_word
cmpxchg_equal = refl

-- rax isn't the word, and becomes it: CF and SF of rax - word
cmpxchg_other : locked (CmpXchg 2 (pos 0) 3) 7 9 8 ≡ Some (8, 9, 8, 0x83)
unfolding locked effect access_event difference flags_of flags_word
cmpxchg_other = refl
