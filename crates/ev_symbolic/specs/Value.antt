-- Symbolic values and what is known of them: closed data, so that whatever is computed here is computed by the checker.
-- Everything that a run of a block computes is an abbreviation down to the last function, since one that is shut stops the run.
use Rattle.std.specs.Prelude.{ℕ, ◌+◌, ◌-◌, ◌*◌, ◌/◌, ◌%◌, ◌^◌, Bool, true, false, not, ◌&&◌, ◌==◌, nat_lt, nat_le, if◌then◌else◌, List, [], ◌∷◌, Option, Some, None, bit_and, bit_or, bit_xor}
use Rattle.ev_isa.specs.declared.instruction.AluOp.{AluOp}
use Rattle.ev_isa.specs.declared.instruction.Cond.{Cond}
use Rattle.ev_isa.specs.declared.instruction.AluOp.TheVariants.{Add, Or, And, Sub, Xor, Cmp}
use Rattle.ev_isa.specs.declared.instruction.Cond.TheVariants.{Z, Nz, C, Nc, S, Ns}

-- 2 ^ 64
abbrev pub M : ℕ
M = 18446744073709551616

-- An operation on two words. The last two are 1 where the first operand is less than, or the same as, the second, and else 0:
-- no instruction has them, but facts on conditions are told by them.
pub data Op : Type 0 where
  OAdd OSub OAnd OOr OXor OShl OShr OLess OSame : Op

-- a value: a number, a base with a number added modulo 2^64, a variable, or an operation
pub data V : Type 0 where
  K : (n : ℕ) → V
  P : (t o : ℕ) → V
  X : (i : ℕ) → V
  B : (o : Op) (a b : V) → V

-- the flags: those of the block's opening, or what an operation leaves
pub data F : Type 0 where
  FVar : F
  FOp : (o : Op) (a b : V) → F

-- a fact about the opening: this value is that number
pub record Fact : Type 0 where
  pub val : V
  pub is : ℕ

-- an operation on numbers
abbrev pub number : Op → ℕ → ℕ → ℕ
number OAdd a b = (a + b) % M
number OSub a b = (a + M - b) % M
number OAnd a b = bit_and a b
number OOr a b = bit_or a b
number OXor a b = bit_xor a b
number OShl a b = a * 2 ^ b % M
number OShr a b = a / 2 ^ b
number OLess a b = if nat_lt a b then 1 else 0
number OSame a b = if a == b then 1 else 0

abbrev pub op_eq : Op → Op → Bool
op_eq OAdd OAdd = true
op_eq OSub OSub = true
op_eq OAnd OAnd = true
op_eq OOr OOr = true
op_eq OXor OXor = true
op_eq OShl OShl = true
op_eq OShr OShr = true
op_eq OLess OLess = true
op_eq OSame OSame = true
op_eq a b = false

abbrev pub v_eq : V → V → Bool
v_eq (K m) (K n) = m == n
v_eq (P t o) (P u q) = (t == u) && (o == q)
v_eq (X i) (X j) = i == j
v_eq (B o a b) (B q c d) = op_eq o q && (v_eq a c && v_eq b d)
v_eq a b = false

-- a value that a fact names becomes its number
abbrev pub norm : List Fact → V → V
norm [] v = v
norm (f ∷ fs) v = if v_eq f.val v then K f.is else norm fs v

abbrev pub sadd : V → V → V
sadd (P t o) (K n) = P t ((o + n) % M)
sadd (K m) (K n) = K ((m + n) % M)
sadd a b = B OAdd a b

abbrev pub ssub : V → V → V
ssub (P t o) (K n) = if nat_le n M then P t ((o + (M - n)) % M) else B OSub (P t o) (K n)
ssub (K m) (K n) = K ((m + M - n) % M)
ssub a b = if v_eq a b then K 0 else B OSub a b

-- an operation on values: numbers compute, and so does a base with a number
abbrev pub sop : Op → V → V → V
sop OAdd a b = sadd a b
sop OSub a b = ssub a b
sop o (K m) (K n) = K (number o m n)
sop o a b = B o a b

-- the operation of an arithmetic instruction, and what it leaves in its destination
abbrev pub op_of : AluOp → Op
op_of Add = OAdd
op_of Or = OOr
op_of And = OAnd
op_of Sub = OSub
op_of Xor = OXor
op_of Cmp = OSub

abbrev pub left_by : List Fact → AluOp → V → V → V
left_by fs Cmp a b = a
left_by fs op a b = norm fs (sop (op_of op) a b)

-- ---- conditions, where they are known

abbrev pub not_if : Option Bool → Option Bool
not_if None = None
not_if (Some b) = Some (not b)

-- whether a value is not 0
abbrev pub is_some_bit : V → Option Bool
is_some_bit (K n) = Some (not (n == 0))
is_some_bit v = None

abbrev pub szero : List Fact → V → Option Bool
szero fs r = is_some_bit (norm fs (sop OSame r (K 0)))

abbrev pub sign_if : V → Option Bool
sign_if (K n) = Some (nat_le (2 ^ 63) n)
sign_if v = None

abbrev pub sum_carry : V → V → Option Bool
sum_carry (K m) (K n) = Some (nat_le M (m + n))
sum_carry a b = None

abbrev pub scarry : List Fact → Op → V → V → Option Bool
scarry fs OAdd a b = sum_carry a b
scarry fs OSub a b = is_some_bit (norm fs (sop OLess a b))
scarry fs OAnd a b = Some false
scarry fs OOr a b = Some false
scarry fs OXor a b = Some false
scarry fs o a b = None

abbrev pub sholds : List Fact → Cond → F → Option Bool
sholds fs c FVar = None
sholds fs Z (FOp o a b) = szero fs (norm fs (sop o a b))
sholds fs Nz (FOp o a b) = not_if (szero fs (norm fs (sop o a b)))
sholds fs C (FOp o a b) = scarry fs o a b
sholds fs Nc (FOp o a b) = not_if (scarry fs o a b)
sholds fs S (FOp o a b) = sign_if (norm fs (sop o a b))
sholds fs Ns (FOp o a b) = not_if (sign_if (norm fs (sop o a b)))
