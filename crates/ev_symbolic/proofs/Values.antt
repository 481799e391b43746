-- What symbolic operations and conditions say of numbers.
use Rattle.std.proofs.Common.{◌≡◌, ℕ, ◌+◌, ◌-◌, ◌%◌, ◌^◌, ◌≤◌, Bool, true, false, not, ◌&&◌, List, [], ◌∷◌, Option, Some, None, refl, sym, ap, ◌∙◌, subst, arith}
use Rattle.std.specs.Prelude.{◌==◌, nat_lt, nat_le, if◌then◌else◌}
use Rattle.std.proofs.Math.Nat.{mod-add-mod, add-mod-mod}
use Rattle.std.proofs.lemmas.Bool.{eqb-true, leb-true}
use Rattle.ev_isa.specs.Flags.{alu, sum, difference, shift_left, shift_right, holds}
use Rattle.ev_isa.specs.declared.instruction.AluOp.{AluOp}
use Rattle.ev_isa.specs.declared.instruction.AluOp.TheVariants.{Add, Or, And, Sub, Xor, Cmp}
use Rattle.ev_isa.specs.declared.instruction.Cond.{Cond}
use Rattle.ev_isa.specs.declared.instruction.Cond.TheVariants.{Z, Nz, C, Nc, S, Ns}
use Rattle.ev_symbolic.specs.Value.{M, Op, OAdd, OSub, OAnd, OOr, OXor, OShl, OShr, OLess, OSame, V, K, P, X, B, F, FVar, FOp, Fact, number, op_eq, v_eq, norm, sadd, ssub, sop, op_of, left_by, not_if, is_some_bit, szero, sign_if, sum_carry, scarry, sholds}
use Rattle.ev_symbolic.specs.Agrees.{Env, eval, status, eval_flags, FactsHold}

pub and_left : (a b : Bool) → (a && b) ≡ true → a ≡ true
and_left true b h = refl
and_left false b h = h

pub and_right : (a b : Bool) → (a && b) ≡ true → b ≡ true
and_right true b h = h
and_right false b h = absurd (cc)

-- ---- equal values

op_same : (a b : Op) → op_eq a b ≡ true → a ≡ b
op_same OAdd OAdd h = refl
op_same OSub OSub h = refl
op_same OAnd OAnd h = refl
op_same OOr OOr h = refl
op_same OXor OXor h = refl
op_same OShl OShl h = refl
op_same OShr OShr h = refl
op_same OLess OLess h = refl
op_same OSame OSame h = refl
op_same _ _ h = absurd (cc)

pub v_same : (a b : V) → v_eq a b ≡ true → a ≡ b
v_same (K m) (K n) h = ap K (eqb-true m n h)
v_same (P t o) (P u q) h = ap (λ x. P x o) (eqb-true t u (and_left _ _ h)) ∙ ap (P u) (eqb-true o q (and_right (t == u) _ h))
v_same (X i) (X j) h = ap X (eqb-true i j h)
v_same (B o a b) (B q c d) h =
    let r = and_right (op_eq o q) _ h in
    ap (λ x. B x a b) (op_same o q (and_left _ _ h)) ∙ ap (λ x. B q x b) (v_same a c (and_left _ _ r)) ∙ ap (B q c) (v_same b d (and_right (v_eq a c) _ r))
v_same _ _ h = absurd (cc)

-- ---- operations

pub add_shift : (x o n : ℕ) → (x + (o + n) % M) % M ≡ ((x + o) % M + n) % M
add_shift x o n = add-mod-mod x (o + n) M ∙ ap (λ y. y % M) (let e : x + (o + n) ≡ (x + o) + n = omega arith in e) ∙ sym (mod-add-mod (x + o) M n)

less_shift : (x n : ℕ) → n ≤ M → x + (M - n) ≡ x + M - n
less_shift x n h = omega arith

sub_shift : (x o n : ℕ) → n ≤ M → (x + (o + (M - n)) % M) % M ≡ ((x + o) % M + M - n) % M
sub_shift x o n h = add_shift x o (M - n) ∙ ap (λ y. y % M) (less_shift ((x + o) % M) n h)

cancels : (x : ℕ) → 0 ≡ (x + M - x) % M
cancels x = omega arith

sadd_ok : (e : Env) (a b : V) → eval e (sadd a b) ≡ number OAdd (eval e a) (eval e b)
unfolding eval
sadd_ok e (P t o) (K n) = add_shift (e.base t) o n
sadd_ok e (K m) (K n) = refl
sadd_ok e a b = refl

unless_same : (e : Env) (a b : V) → eval e (if v_eq a b then K 0 else B OSub a b) ≡ number OSub (eval e a) (eval e b)
unfolding eval
unless_same e a b = pick (v_eq a b) refl
  where
    pick : (t : Bool) → v_eq a b ≡ t → eval e (if t then K 0 else B OSub a b) ≡ number OSub (eval e a) (eval e b)
    pick true q = cancels (eval e a) ∙ ap (λ y. (eval e a + M - y) % M) (ap (eval e) (v_same a b q))
    pick false q = refl

ssub_ok : (e : Env) (a b : V) → eval e (ssub a b) ≡ number OSub (eval e a) (eval e b)
unfolding eval
ssub_ok e (P t o) (K n) = pick (nat_le n M) refl
  where
    pick : (b : Bool) → nat_le n M ≡ b → eval e (if b then P t ((o + (M - n)) % M) else B OSub (P t o) (K n)) ≡ number OSub (eval e (P t o)) n
    pick true q = sub_shift (e.base t) o n (leb-true n M q)
    pick false q = refl
ssub_ok e (K m) (K n) = refl
ssub_ok e a b = unless_same e a b

pub sop_ok : (e : Env) (o : Op) (a b : V) → eval e (sop o a b) ≡ number o (eval e a) (eval e b)
unfolding eval
sop_ok e OAdd a b = sadd_ok e a b
sop_ok e OSub a b = ssub_ok e a b
sop_ok e o (K m) (K n) = refl
sop_ok e o a b = refl

pub norm_ok : (e : Env) (fs : List Fact) → FactsHold e fs → (v : V) → eval e (norm fs v) ≡ eval e v
unfolding eval
norm_ok e [] h v = refl
norm_ok e (f ∷ fs) h v = pick (v_eq f.val v) refl (norm_ok e fs h.1 v)
  where
    pick : (b : Bool) → v_eq f.val v ≡ b → eval e (norm fs v) ≡ eval e v → eval e (if b then K f.is else norm fs v) ≡ eval e v
    pick true q r = sym h.0 ∙ ap (eval e) (v_same f.val v q)
    pick false q r = r

-- a normal operation
pub nop_ok : (e : Env) (fs : List Fact) → FactsHold e fs → (o : Op) (a b : V) → eval e (norm fs (sop o a b)) ≡ number o (eval e a) (eval e b)
nop_ok e fs h o a b = norm_ok e fs h (sop o a b) ∙ sop_ok e o a b

-- ---- arithmetic instructions

pub left_ok : (e : Env) (fs : List Fact) → FactsHold e fs → (op : AluOp) (a b : V) → (alu op (eval e a) (eval e b)).0 ≡ eval e (left_by fs op a b)
unfolding alu sum difference
left_ok e fs h Add a b = sym (nop_ok e fs h OAdd a b)
left_ok e fs h Or a b = sym (nop_ok e fs h OOr a b)
left_ok e fs h And a b = sym (nop_ok e fs h OAnd a b)
left_ok e fs h Sub a b = sym (nop_ok e fs h OSub a b)
left_ok e fs h Xor a b = sym (nop_ok e fs h OXor a b)
left_ok e fs h Cmp a b = refl

pub status_ok : (op : AluOp) (x y : ℕ) → (alu op x y).1 ≡ status (op_of op) x y
unfolding alu sum difference status
status_ok Add x y = refl
status_ok Or x y = refl
status_ok And x y = refl
status_ok Sub x y = refl
status_ok Xor x y = refl
status_ok Cmp x y = refl

pub left_shift_value : (a n : ℕ) → (shift_left a n).0 ≡ number OShl a n
unfolding shift_left
left_shift_value a n = refl

pub left_shift_status : (a n : ℕ) → (shift_left a n).1 ≡ status OShl a n
unfolding status
left_shift_status a n = refl

pub right_shift_value : (a n : ℕ) → (shift_right a n).0 ≡ number OShr a n
unfolding shift_right
right_shift_value a n = refl

pub right_shift_status : (a n : ℕ) → (shift_right a n).1 ≡ status OShr a n
unfolding status
right_shift_status a n = refl

-- ---- conditions

-- what is known of a Bool
abbrev pub TellsBool : Bool → Option Bool → Type 0
TellsBool x None = Unit {0}
TellsBool x (Some b) = x ≡ b

tells_not : (x : Bool) (o : Option Bool) → TellsBool x o → TellsBool (not x) (not_if o)
tells_not x None h = tt
tells_not x (Some b) h = ap not h

zero_is : (o : Op) (x y : ℕ) → (status o x y).zero ≡ (number o x y == 0)
unfolding status sum difference shift_left shift_right
zero_is OAdd x y = refl
zero_is OSub x y = refl
zero_is OAnd x y = refl
zero_is OOr x y = refl
zero_is OXor x y = refl
zero_is OShl x y = refl
zero_is OShr x y = refl
zero_is OLess x y = refl
zero_is OSame x y = refl

sign_is : (o : Op) (x y : ℕ) → (status o x y).sign ≡ nat_le (2 ^ 63) (number o x y)
unfolding status sum difference shift_left shift_right
sign_is OAdd x y = refl
sign_is OSub x y = refl
sign_is OAnd x y = refl
sign_is OOr x y = refl
sign_is OXor x y = refl
sign_is OShl x y = refl
sign_is OShr x y = refl
sign_is OLess x y = refl
sign_is OSame x y = refl

bit_tells : (e : Env) (v : V) → TellsBool (not (eval e v == 0)) (is_some_bit v)
unfolding eval
bit_tells e (K n) = refl
bit_tells e (P t o) = tt
bit_tells e (X i) = tt
bit_tells e (B o a b) = tt

one_if : (b : Bool) → not ((if b then 1 else 0) == 0) ≡ b
one_if true = refl
one_if false = refl

-- a Bool that a value is 1 for
test_tells : (e : Env) (v : V) (b : Bool) → eval e v ≡ (if b then 1 else 0) → TellsBool b (is_some_bit v)
test_tells e v b h = subst (λ x. TellsBool x (is_some_bit v)) (ap (λ n. not (n == 0)) h ∙ one_if b) (bit_tells e v)

zero_tells : (e : Env) (fs : List Fact) → FactsHold e fs → (r : V) (n : ℕ) → eval e r ≡ n → TellsBool (n == 0) (szero fs r)
unfolding eval
zero_tells e fs h r n q = test_tells e (norm fs (sop OSame r (K 0))) (n == 0) (nop_ok e fs h OSame r (K 0) ∙ ap (λ x. if x == 0 then 1 else 0) q)

sign_tells : (e : Env) (r : V) (n : ℕ) → eval e r ≡ n → TellsBool (nat_le (2 ^ 63) n) (sign_if r)
unfolding eval
sign_tells e (K k) n q = ap (nat_le (2 ^ 63)) (sym q)
sign_tells e (P t o) n q = tt
sign_tells e (X i) n q = tt
sign_tells e (B o a b) n q = tt

sum_tells : (e : Env) (a b : V) → TellsBool (status OAdd (eval e a) (eval e b)).carry (sum_carry a b)
unfolding eval status sum
sum_tells e (K m) (K n) = refl
sum_tells e a b = tt

carry_tells : (e : Env) (fs : List Fact) → FactsHold e fs → (o : Op) (a b : V) → TellsBool (status o (eval e a) (eval e b)).carry (scarry fs o a b)
unfolding status difference
carry_tells e fs h OAdd a b = sum_tells e a b
carry_tells e fs h OSub a b = test_tells e (norm fs (sop OLess a b)) (nat_lt (eval e a) (eval e b)) (nop_ok e fs h OLess a b)
carry_tells e fs h OAnd a b = refl
carry_tells e fs h OOr a b = refl
carry_tells e fs h OXor a b = refl
carry_tells e fs h OShl a b = tt
carry_tells e fs h OShr a b = tt
carry_tells e fs h OLess a b = tt
carry_tells e fs h OSame a b = tt

zero_flag : (e : Env) (fs : List Fact) → FactsHold e fs → (o : Op) (a b : V) → TellsBool (status o (eval e a) (eval e b)).zero (szero fs (norm fs (sop o a b)))
zero_flag e fs h o a b = subst (λ z. TellsBool z (szero fs (norm fs (sop o a b)))) (sym (zero_is o (eval e a) (eval e b)))
    (zero_tells e fs h (norm fs (sop o a b)) (number o (eval e a) (eval e b)) (nop_ok e fs h o a b))

sign_flag : (e : Env) (fs : List Fact) → FactsHold e fs → (o : Op) (a b : V) → TellsBool (status o (eval e a) (eval e b)).sign (sign_if (norm fs (sop o a b)))
sign_flag e fs h o a b = subst (λ z. TellsBool z (sign_if (norm fs (sop o a b)))) (sym (sign_is o (eval e a) (eval e b)))
    (sign_tells e (norm fs (sop o a b)) (number o (eval e a) (eval e b)) (nop_ok e fs h o a b))

pub holds_ok : (e : Env) (fs : List Fact) → FactsHold e fs → (c : Cond) (x : F) → TellsBool (holds c (eval_flags e x).status) (sholds fs c x)
unfolding holds eval_flags
holds_ok e fs h c FVar = tt
holds_ok e fs h Z (FOp o a b) = zero_flag e fs h o a b
holds_ok e fs h Nz (FOp o a b) = tells_not _ _ (zero_flag e fs h o a b)
holds_ok e fs h C (FOp o a b) = carry_tells e fs h o a b
holds_ok e fs h Nc (FOp o a b) = tells_not _ _ (carry_tells e fs h o a b)
holds_ok e fs h S (FOp o a b) = sign_flag e fs h o a b
holds_ok e fs h Ns (FOp o a b) = tells_not _ _ (sign_flag e fs h o a b)
