-- How often a call stands in a list, and how many entries of a trace pass a test.
use Rattle.std.specs.Prelude.{◌≡◌, refl, ℕ, suc, ◌+◌, ◌≤◌, ◌<◌, Bool, true, false, ◌&&◌, ◌||◌, nat_lt, nat_le, ◌==◌, List, [], ◌∷◌, ◌++◌, count_by}
use Rattle.std.specs.List.{list_any}
use Rattle.std.proofs.Common.{arith, ap, sym, ◌∙◌, subst}
use Rattle.std.proofs.lemmas.Bool.{and_parts, and_from, eqb-true, eq-eqb, leb-true, ltb-true, le-leb, lt-leb, lt-ltb, le-ltb, eqb-false}
use Rattle.std.proofs.lemmas.List.Sums.{sum_by-cons, sum_by-append}
use Rattle.ev_abstract.specs.Context.{CallId}
use Rattle.ev_law.proofs.Places.{both_ways}
use Rattle.ev_call_law.specs.Calls.{is_id, one_if, times}

-- ---- lists

pub count_cons : {A : Type 0} (test : A → Bool) (x : A) (xs : List A) → count_by test (x ∷ xs) ≡ one_if (test x) + count_by test xs
count_cons test x xs = sum_by-cons (λ y. one_if (test y)) x xs

pub count_append : {A : Type 0} (test : A → Bool) (xs ys : List A) → count_by test (xs ++ ys) ≡ count_by test xs + count_by test ys
count_append test xs ys = sum_by-append (λ y. one_if (test y)) xs ys

-- one more, which passes or doesn't
pub count_push : {A : Type 0} (test : A → Bool) (xs : List A) (x : A) → count_by test (xs ++ x ∷ []) ≡ count_by test xs + one_if (test x)
count_push test xs x = count_append test xs (x ∷ []) ∙ ap (λ n. count_by test xs + n) (count_cons test x [] ∙ omega arith)

pub any_counted : {A : Type 0} (test : A → Bool) (xs : List A) → 0 < count_by test xs → list_any test xs ≡ true
any_counted test [] h = absurd (omega (arith, h))
any_counted test (x ∷ xs) h = pick (test x) refl (any_counted test xs)
  where
    pick : (t : Bool) → test x ≡ t → (0 < count_by test xs → list_any test xs ≡ true) → (t || list_any test xs) ≡ true
    pick true q next = refl
    pick false q next =
        let e : count_by test (x ∷ xs) ≡ 0 + count_by test xs = count_cons test x xs ∙ ap (λ (t : Bool). one_if t + count_by test xs) q in
        next (omega (arith, h, e))

pub counted_any : {A : Type 0} (test : A → Bool) (xs : List A) → list_any test xs ≡ true → 0 < count_by test xs
counted_any test [] h = absurd (cc)
counted_any test (x ∷ xs) h = pick (test x) refl h (counted_any test xs)
  where
    pick : (t : Bool) → test x ≡ t → (t || list_any test xs) ≡ true → (list_any test xs ≡ true → 0 < count_by test xs) → 0 < count_by test (x ∷ xs)
    pick true q r next =
        let e : count_by test (x ∷ xs) ≡ 1 + count_by test xs = count_cons test x xs ∙ ap (λ (t : Bool). one_if t + count_by test xs) q in
        omega (arith, e)
    pick false q r next =
        let e : count_by test (x ∷ xs) ≡ 0 + count_by test xs = count_cons test x xs ∙ ap (λ (t : Bool). one_if t + count_by test xs) q in
        let l : 0 < count_by test xs = next r in omega (arith, e, l)

-- ---- calls

id_of : ℕ → ℕ → CallId
id_of from site = record { from = from; site = site }

pub same_call : (j k : CallId) → is_id j k ≡ true → j ≡ k
unfolding id_of
same_call j k h =
    let p = and_parts (j.from == k.from) (j.site == k.site) h in
    ap (λ from. id_of from j.site) (eqb-true j.from k.from p.0) ∙ ap (id_of k.from) (eqb-true j.site k.site p.1)

pub id_self : (k : CallId) → is_id k k ≡ true
id_self k = and_from (k.from == k.from) (k.site == k.site) (eq-eqb k.from k.from refl) (eq-eqb k.site k.site refl)

pub times_same : (k : CallId) (ks : List CallId) → times k (k ∷ ks) ≡ suc (times k ks)
times_same k ks = count_cons (is_id k) k ks ∙ ap (λ (t : Bool). one_if t + times k ks) (id_self k) ∙ omega arith

pub times_other : (j k : CallId) (ks : List CallId) → is_id j k ≡ false → times j (k ∷ ks) ≡ times j ks
times_other j k ks q = count_cons (is_id j) k ks ∙ ap (λ (t : Bool). one_if t + times j ks) q ∙ omega arith

pub times_append : (k : CallId) (xs ys : List CallId) → times k (xs ++ ys) ≡ times k xs + times k ys
times_append k xs ys = count_append (is_id k) xs ys

-- ---- one or none

pub is_one : (t : Bool) → 0 < one_if t → t ≡ true
is_one true h = refl
is_one false h = absurd (omega (arith, h))

-- ---- numbers of calls

pub equal_sym : (a b : ℕ) → (a == b) ≡ (b == a)
equal_sym a b = both_ways (a == b) (b == a) (λ h. eq-eqb b a (sym (eqb-true a b h))) (λ h. eq-eqb a b (sym (eqb-true b a h)))

pub id_sym : (j k : CallId) → is_id j k ≡ is_id k j
id_sym j k = both_ways (is_id j k) (is_id k j) (λ h. subst (λ i. is_id i j ≡ true) (same_call j k h) (id_self j))
    (λ h. subst (λ i. is_id i k ≡ true) (same_call k j h) (id_self k))

-- the call of the next number is queued
pub queued_more : (N n : ℕ) → one_if (nat_le 1 n && nat_le n N) + one_if (suc N == n) ≡ one_if (nat_le 1 n && nat_le n (suc N))
queued_more N n = tests (nat_le 1 n) (nat_le n N) (suc N == n) (nat_le n (suc N))
    (λ h. (let e : suc N ≡ n = eqb-true (suc N) n h in
    (le-leb 1 n (omega (arith, e)), lt-leb n N (omega (arith, e)), le-leb n (suc N) (omega (arith, e)))))
    (λ h. both_ways (nat_le n N) (nat_le n (suc N)) (λ a. (let l : n ≤ N = leb-true n N a in le-leb n (suc N) (omega (arith, l))))
    (λ a. (let l : n ≤ suc N = leb-true n (suc N) a in let ne : suc N ≡ n → ⊥ = eqb-false (suc N) n h in le-leb n N (omega (arith, l, ne)))))
  where
    tests : (t u w x : Bool) → (w ≡ true → (t ≡ true) × (u ≡ false) × (x ≡ true)) → (w ≡ false → u ≡ x)
        → one_if (t && u) + one_if w ≡ one_if (t && x)
    tests true false true true f g = refl
    tests true true true x f g = absurd (let k = f refl in let z : true ≡ false = k.1 in cc)
    tests true false true false f g = absurd (let k = f refl in let z : false ≡ true = k.2 in cc)
    tests false u true x f g = absurd (let k = f refl in let z : false ≡ true = k.0 in cc)
    tests true true false true f g = refl
    tests true true false false f g = absurd (let z : true ≡ false = g refl in cc)
    tests true false false true f g = absurd (let z : false ≡ true = g refl in cc)
    tests true false false false f g = refl
    tests false u false x f g = refl

-- it has not run, and those before have, as they had
pub queued_runs : (N n : ℕ) → one_if ((nat_le 1 n && nat_le n (suc N)) && (nat_lt n (suc N) || false))
    ≡ one_if ((nat_le 1 n && nat_le n N) && (nat_lt n N || true))
queued_runs N n = ap (λ t. one_if ((nat_le 1 n && nat_le n (suc N)) && (t || false))) (sym same)
    ∙ tests (nat_le 1 n) (nat_le n N) (nat_le n (suc N)) (nat_lt n N) (λ h. (let l : n ≤ N = leb-true n N h in le-leb n (suc N) (omega (arith, l))))
  where
    same : nat_le n N ≡ nat_lt n (suc N)
    same = both_ways (nat_le n N) (nat_lt n (suc N)) (λ h. (let l : n ≤ N = leb-true n N h in lt-ltb n (suc N) (omega (arith, l))))
        (λ h. (let l : n < suc N = ltb-true n (suc N) h in le-leb n N (omega (arith, l))))

    tests : (t u x v : Bool) → (u ≡ true → x ≡ true) → one_if ((t && x) && (u || false)) ≡ one_if ((t && u) && (v || true))
    tests true true true true f = refl
    tests true true true false f = refl
    tests true true false v f = absurd (let z : false ≡ true = f refl in cc)
    tests true false true v f = refl
    tests true false false v f = refl
    tests false u x v f = refl

-- the last one runs
pub runs_more : (N n : ℕ) → 0 < N → one_if ((nat_le 1 n && nat_le n N) && (nat_lt n N || false)) + one_if (N == n)
    ≡ one_if ((nat_le 1 n && nat_le n N) && (nat_lt n N || true))
runs_more N n pos = tests (nat_le 1 n) (nat_le n N) (nat_lt n N) (N == n)
    (λ h. (let e : N ≡ n = eqb-true N n h in (le-leb 1 n (omega (arith, e, pos)), le-leb n N (omega (arith, e)), le-ltb n N (omega (arith, e)))))
    (λ h. both_ways (nat_le n N) (nat_lt n N)
    (λ a. (let l : n ≤ N = leb-true n N a in let ne : N ≡ n → ⊥ = eqb-false N n h in lt-ltb n N (omega (arith, l, ne))))
    (λ a. (let l : n < N = ltb-true n N a in le-leb n N (omega (arith, l)))))
  where
    tests : (t u v w : Bool) → (w ≡ true → (t ≡ true) × (u ≡ true) × (v ≡ false)) → (w ≡ false → u ≡ v)
        → one_if ((t && u) && (v || false)) + one_if w ≡ one_if ((t && u) && (v || true))
    tests true true false true f g = refl
    tests true true true true f g = absurd (let k = f refl in let z : true ≡ false = k.2 in cc)
    tests true false v true f g = absurd (let k = f refl in let z : false ≡ true = k.1 in cc)
    tests false u v true f g = absurd (let k = f refl in let z : false ≡ true = k.0 in cc)
    tests true true true false f g = refl
    tests true true false false f g = absurd (let z : true ≡ false = g refl in cc)
    tests true false true false f g = absurd (let z : false ≡ true = g refl in cc)
    tests true false false false f g = refl
    tests false u v false f g = refl
