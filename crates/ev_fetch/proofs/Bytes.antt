-- The bytes of consecutive addresses: words made of them give them back.
use Rattle.std.proofs.Common.{◌≡◌, ℕ, zero, suc, ◌+◌, ◌-◌, ◌%◌, ◌<◌, ◌≤◌, true, List, [], ◌∷◌, ◌++◌, map, length, take, drop, get_or, refl, sym, ap, ◌∙◌, arith}
use Rattle.std.proofs.lemmas.Bool.{eq-eqb}
use Rattle.std.specs.Int.{w64, to_le_bytes, from_le_bytes}
use Rattle.std.proofs.lemmas.Nat.{le_bytes_8}
use Rattle.ev_isa.specs.Word.{NatMap, numbers_from, is_aligned}
use Rattle.ev_mem.specs.Memory.{code_bytes}

-- what a function of addresses gives from an address on
abbrev pub bytes_from : (ℕ → ℕ) → ℕ → ℕ → List ℕ
bytes_from f a n = map f (numbers_from a n)

pub bytes_length : (f : ℕ → ℕ) (a n : ℕ) → length (bytes_from f a n) ≡ n
bytes_length f a zero = refl
bytes_length f a (suc n) = ap suc (bytes_length f (suc a) n)

joined : (f : ℕ → ℕ) (k n m a b : ℕ) → b ≡ a + k → m ≡ k + n → bytes_from f a k ++ bytes_from f b n ≡ bytes_from f a m
joined f zero n m a b p q =
    let e : b ≡ a = omega arith in
    let g : n ≡ m = omega arith in
    ap (λ x. bytes_from f x n) e ∙ ap (bytes_from f a) g
joined f (suc k) n m a b p q =
    let g : suc (k + n) ≡ m = omega arith in
    ap (λ x. f a ∷ x) (joined f k n (k + n) (suc a) b (omega arith) refl) ∙ ap (bytes_from f a) g

dropped : (f : ℕ → ℕ) (r n m a b : ℕ) → b ≡ a + r → m ≡ r + n → drop r (bytes_from f a m) ≡ bytes_from f b n
dropped f zero n m a b p q =
    let e : a ≡ b = omega arith in
    let g : m ≡ n = omega arith in
    ap (λ x. bytes_from f x m) e ∙ ap (bytes_from f b) g
dropped f (suc r) n zero a b p q = absurd (omega arith)
dropped f (suc r) n (suc m) a b p q = dropped f r n m (suc a) b (omega arith) (omega arith)

taken : (f : ℕ → ℕ) (n m a : ℕ) → n ≤ m → take n (bytes_from f a m) ≡ bytes_from f a n
taken f zero m a h = refl
taken f (suc n) zero a h = absurd (omega arith)
taken f (suc n) (suc m) a h = ap (λ x. f a ∷ x) (taken f n m (suc a) (omega arith))

pub small_at : (f : ℕ → ℕ) → ((a : ℕ) → f a < 256) → (a n i : ℕ) → get_or (bytes_from f a n) i 0 < 256
small_at f h a zero i = omega arith
small_at f h a (suc n) zero = h a
small_at f h a (suc n) (suc i) = small_at f h (suc a) n i

-- a word made of eight bytes gives them back
word_back : (f : ℕ → ℕ) → ((a : ℕ) → f a < 256) → (a w : ℕ) → w ≡ from_le_bytes w64 (bytes_from f a 8) → to_le_bytes w64 w ≡ bytes_from f a 8
word_back f h a w e = le_bytes_8 (bytes_from f a 8) w refl (small_at f h a 8) e

appended : (x y z u v w : List ℕ) → x ≡ u → y ≡ v → z ≡ w → x ++ (y ++ (z ++ [])) ≡ u ++ (v ++ (w ++ []))
appended x y z u v w p q r = λ i. p i ++ (q i ++ (r i ++ []))

three_words : (f : ℕ → ℕ) (b : ℕ) → bytes_from f b 8 ++ (bytes_from f (b + 8) 8 ++ (bytes_from f (b + 8 + 8) 8 ++ [])) ≡ bytes_from f b 24
three_words f b =
    ap (λ x. bytes_from f b 8 ++ (bytes_from f (b + 8) 8 ++ x)) (joined f 8 0 8 (b + 8 + 8) (b + 8 + 8 + 8) refl refl)
    ∙ ap (λ x. bytes_from f b 8 ++ x) (joined f 8 8 16 (b + 8) (b + 8 + 8) refl refl) ∙ joined f 8 16 24 b (b + 8) refl refl

aligned : (b : ℕ) → b % 8 ≡ 0 → is_aligned b ≡ true
aligned b h = eq-eqb (b % 8) 0 h

-- so do the words that a fetch reads
pub code_back : (f : ℕ → ℕ) → ((a : ℕ) → f a < 256) → (words : NatMap ℕ) (a : ℕ)
    → ((b : ℕ) → is_aligned b ≡ true → a < b + 8 → b ≤ a + 16 → words b ≡ from_le_bytes w64 (bytes_from f b 8)) → code_bytes words a ≡ bytes_from f a 15
unfolding code_bytes
code_back f h words a e =
    let b = a - a % 8 in
    let one = word_back f h b (words b) (e b (aligned b (omega arith)) (omega arith) (omega arith)) in
    let two = word_back f h (b + 8) (words (b + 8)) (e (b + 8) (aligned (b + 8) (omega arith)) (omega arith) (omega arith)) in
    let three = word_back f h (b + 8 + 8) (words (b + 8 + 8)) (e (b + 8 + 8) (aligned (b + 8 + 8) (omega arith)) (omega arith) (omega arith)) in
    ap (λ x. take 15 (drop (a % 8) x)) (appended _ _ _ _ _ _ one two three ∙ three_words f b)
    ∙ ap (take 15) (dropped f (a % 8) (24 - a % 8) 24 b a (omega arith) (omega arith)) ∙ taken f 15 (24 - a % 8) a (omega arith)

-- the byte at a place
pub at_place : (f : ℕ → ℕ) (n a i : ℕ) → i < n → get_or (bytes_from f a n) i 0 ≡ f (a + i)
at_place f zero a i h = absurd (omega arith)
at_place f (suc n) a zero h = ap f (omega arith)
at_place f (suc n) a (suc i) h = at_place f n (suc a) i (omega arith) ∙ ap f (omega arith)

-- bytes that stand at their places
pub same_bytes : (f : ℕ → ℕ) (xs : List ℕ) (a : ℕ) → ((j : ℕ) → j < length xs → f (a + j) ≡ get_or xs j 0) → bytes_from f a (length xs) ≡ xs
same_bytes f [] a h = refl
same_bytes f (x ∷ xs) a h =
    let first : f a ≡ x = ap f (omega arith) ∙ h 0 (omega arith) in
    let rest : bytes_from f (suc a) (length xs) ≡ xs = same_bytes f xs (suc a) (λ j l. ap f (omega arith) ∙ h (suc j) (omega arith)) in
    λ i. first i ∷ rest i

-- and what follows them
pub begins_with : (f : ℕ → ℕ) (xs : List ℕ) (a n : ℕ) → length xs ≤ n → ((j : ℕ) → j < length xs → f (a + j) ≡ get_or xs j 0)
    → bytes_from f a n ≡ xs ++ bytes_from f (a + length xs) (n - length xs)
begins_with f xs a n l h =
    sym (joined f (length xs) (n - length xs) n a (a + length xs) refl (omega arith)) ∙ ap (λ x. x ++ bytes_from f (a + length xs) (n - length xs))
    (same_bytes f xs a h)

-- a word depends on eight bytes alone
pub same_word : (xs ys : List ℕ) → ((i : ℕ) → i < 8 → get_or xs i 0 ≡ get_or ys i 0) → from_le_bytes w64 xs ≡ from_le_bytes w64 ys
same_word xs ys h =
    let h0 = h 0 (omega arith) in
    let h1 = h 1 (omega arith) in
    let h2 = h 2 (omega arith) in
    let h3 = h 3 (omega arith) in
    let h4 = h 4 (omega arith) in
    let h5 = h 5 (omega arith) in
    let h6 = h 6 (omega arith) in
    let h7 = h 7 (omega arith) in
    omega arith
