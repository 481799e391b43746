-- The bytes of a gate as the code lists them.
use Rattle.std.proofs.Common.{◌≡◌, ℕ, ◌/◌, ◌%◌, ◌^◌, [], ◌∷◌, ◌++◌, get_or, arith}
use Rattle.std.specs.Int.{w16, w32, w64, to_le_bytes}

pub bytes_are : (n s i k l : ℕ) → k ≡ l
    → get_or (to_le_bytes w64 n) 0 0 ∷ get_or (to_le_bytes w64 n) 1 0 ∷ get_or (to_le_bytes w16 s) 0 0 ∷ get_or (to_le_bytes w16 s) 1 0 ∷ i ∷ k
    ∷ get_or (to_le_bytes w64 n) 2 0 ∷ get_or (to_le_bytes w64 n) 3 0 ∷ get_or (to_le_bytes w64 n) 4 0 ∷ get_or (to_le_bytes w64 n) 5 0
    ∷ get_or (to_le_bytes w64 n) 6 0 ∷ get_or (to_le_bytes w64 n) 7 0 ∷ 0 ∷ 0 ∷ 0 ∷ 0 ∷ []
    ≡ to_le_bytes w16 (n % 2 ^ 16) ++ to_le_bytes w16 s ++ i ∷ l ∷ to_le_bytes w16 (n / 2 ^ 16 % 2 ^ 16) ++ to_le_bytes w32 (n / 2 ^ 32) ++ 0 ∷ 0 ∷ 0 ∷ 0 ∷ []
bytes_are n s i k l e = grind arith
