-- What holds of each local, which are registers 6 to 13, and of each number of a register.
use Rattle.std.proofs.Common.{ℕ, zero, suc, ◌<◌, ◌≤◌, arith}

pub from_six : (P : ℕ → Type 0) → P 6 → P 7 → P 8 → P 9 → P 10 → P 11 → P 12 → P 13 → (s : ℕ) → 6 ≤ s → s < 14 → P s
from_six P a b c d e f g i zero h k = absurd (omega arith)
from_six P a b c d e f g i (suc zero) h k = absurd (omega arith)
from_six P a b c d e f g i (suc (suc zero)) h k = absurd (omega arith)
from_six P a b c d e f g i (suc (suc (suc zero))) h k = absurd (omega arith)
from_six P a b c d e f g i (suc (suc (suc (suc zero)))) h k = absurd (omega arith)
from_six P a b c d e f g i (suc (suc (suc (suc (suc zero))))) h k = absurd (omega arith)
from_six P a b c d e f g i (suc (suc (suc (suc (suc (suc zero)))))) h k = a
from_six P a b c d e f g i (suc (suc (suc (suc (suc (suc (suc zero))))))) h k = b
from_six P a b c d e f g i (suc (suc (suc (suc (suc (suc (suc (suc zero)))))))) h k = c
from_six P a b c d e f g i (suc (suc (suc (suc (suc (suc (suc (suc (suc zero))))))))) h k = d
from_six P a b c d e f g i (suc (suc (suc (suc (suc (suc (suc (suc (suc (suc zero)))))))))) h k = e
from_six P a b c d e f g i (suc (suc (suc (suc (suc (suc (suc (suc (suc (suc (suc zero))))))))))) h k = f
from_six P a b c d e f g i (suc (suc (suc (suc (suc (suc (suc (suc (suc (suc (suc (suc zero)))))))))))) h k = g
from_six P a b c d e f g i (suc (suc (suc (suc (suc (suc (suc (suc (suc (suc (suc (suc (suc zero))))))))))))) h k = i
from_six P a b c d e f g i (suc (suc (suc (suc (suc (suc (suc (suc (suc (suc (suc (suc (suc (suc n)))))))))))))) h k = absurd (omega arith)

-- any number: that of a register, or a greater one
pub from_zero : (P : ℕ → Type 0) → P 0 → P 1 → P 2 → P 3 → P 4 → P 5 → P 6 → P 7
    → P 8 → P 9 → P 10 → P 11 → P 12 → P 13 → P 14 → P 15
    → ((n : ℕ) → P (suc (suc (suc (suc (suc (suc (suc (suc (suc (suc (suc (suc (suc (suc (suc (suc n)))))))))))))))))
    → (s : ℕ) → P s
from_zero P a b c d e f g h i j k l m n o q r zero = a
from_zero P a b c d e f g h i j k l m n o q r (suc zero) = b
from_zero P a b c d e f g h i j k l m n o q r (suc (suc zero)) = c
from_zero P a b c d e f g h i j k l m n o q r (suc (suc (suc zero))) = d
from_zero P a b c d e f g h i j k l m n o q r (suc (suc (suc (suc zero)))) = e
from_zero P a b c d e f g h i j k l m n o q r (suc (suc (suc (suc (suc zero))))) = f
from_zero P a b c d e f g h i j k l m n o q r (suc (suc (suc (suc (suc (suc zero)))))) = g
from_zero P a b c d e f g h i j k l m n o q r (suc (suc (suc (suc (suc (suc (suc zero))))))) = h
from_zero P a b c d e f g h i j k l m n o q r (suc (suc (suc (suc (suc (suc (suc (suc zero)))))))) = i
from_zero P a b c d e f g h i j k l m n o q r (suc (suc (suc (suc (suc (suc (suc (suc (suc zero))))))))) = j
from_zero P a b c d e f g h i j k l m n o q r (suc (suc (suc (suc (suc (suc (suc (suc (suc (suc zero)))))))))) = k
from_zero P a b c d e f g h i j k l m n o q r (suc (suc (suc (suc (suc (suc (suc (suc (suc (suc (suc zero))))))))))) = l
from_zero P a b c d e f g h i j k l m n o q r (suc (suc (suc (suc (suc (suc (suc (suc (suc (suc (suc (suc zero)))))))))))) = m
from_zero P a b c d e f g h i j k l m n o q r (suc (suc (suc (suc (suc (suc (suc (suc (suc (suc (suc (suc (suc zero))))))))))))) = n
from_zero P a b c d e f g h i j k l m n o q r (suc (suc (suc (suc (suc (suc (suc (suc (suc (suc (suc (suc (suc (suc zero)))))))))))))) = o
from_zero P a b c d e f g h i j k l m n o q r (suc (suc (suc (suc (suc (suc (suc (suc (suc (suc (suc (suc (suc (suc (suc zero))))))))))))))) = q
from_zero P a b c d e f g h i j k l m n o q r (suc (suc (suc (suc (suc (suc (suc (suc (suc (suc (suc (suc (suc (suc (suc (suc y)))))))))))))))) = r y
