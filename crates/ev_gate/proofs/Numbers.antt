-- byteorder's numbers and std's are one.
use Rattle.std.proofs.Common.{◌≡◌, ℕ, List, arith}
use Rattle.std.specs.Int.{w32, w64, from_le_bytes}
use Rattle.byteorder.specs.Endian.{little_number}

pub half_is : (xs : List ℕ) → little_number 4 xs ≡ from_le_bytes w32 xs
half_is xs = omega arith

pub word_is : (xs : List ℕ) → little_number 8 xs ≡ from_le_bytes w64 xs
word_is xs = omega arith
