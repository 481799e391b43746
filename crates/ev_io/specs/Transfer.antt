-- What reads and writes do to bytes that may be told, and to a count of faults. Own.
-- Each equation on bytes also says that they stay told or stay untold.
use Rattle.std.specs.Prelude.{◌≡◌, ℕ, ◌+◌, ◌-◌, ◌^◌, ◌≤◌, List, length, take, min, Option, Result, MatchResult}
use Rattle.std.specs.Io.KnownBytes.{prepend_known, append_known}

-- a count of faults rose, or stands at its last value
abbrev pub Rose : ℕ → ℕ → Type 0
Rose before now = min (before + 1) (2 ^ 64 - 1) ≤ now

-- a call that failed counts a fault, and one that did not counts none
abbrev pub Counts : {T E : Type 0} → ℕ → ℕ → Result T E → Type 0
Counts before now r = MatchResult r (λ _. now ≡ before) (λ _. Rose before now)

-- at Ok(n) the first n bytes left stand at the buffer's start and are no longer left; at Err none is gone
abbrev pub Reads : {E : Type 0} → Option (List ℕ) → Option (List ℕ) → List ℕ → Result ℕ E → Type 0
Reads old new buf r = MatchResult r (λ n. old ≡ prepend_known (take n buf) new) (λ _. new ≡ old)

-- at Ok(n) the bytes taken grow by the first n of the piece; at Err by none
abbrev pub Writes : {E : Type 0} → Option (List ℕ) → Option (List ℕ) → List ℕ → Result ℕ E → Type 0
Writes old new piece r = MatchResult r (λ n. new ≡ append_known old (take n piece)) (λ _. new ≡ old)

-- the bytes taken grew by a prefix of the piece
abbrev pub TookPrefix : Option (List ℕ) → Option (List ℕ) → List ℕ → Type 0
TookPrefix old new piece = (n : ℕ) × (n ≤ length piece) × (new ≡ append_known old (take n piece))

-- bytes were drawn from those left, and a count of drawn bytes grew by their number
abbrev pub Draws : ℕ → ℕ → Option (List ℕ) → Option (List ℕ) → Type 0
Draws before now old new = (bytes : List ℕ) × (now ≡ before + length bytes) × (old ≡ prepend_known bytes new)

-- behind so many bytes none was read past byte 8,388,609
abbrev pub DrawsWithin : ℕ → Option (List ℕ) → Option (List ℕ) → Type 0
DrawsWithin before old new = (bytes : List ℕ) × (before + length bytes ≤ 8388609) × (old ≡ prepend_known bytes new)
