-- The task-state segment (SDM volume 3, 7.7).
use Rattle.std.specs.Prelude.{ℕ, ◌≡◌, ◌<◌, ◌+◌, ◌*◌, ◌^◌, ◌++◌, List, get_or, take, drop, flat_map, replicate, map, length, nat_lt, if◌then◌else◌, [], ◌∷◌, Result, Ok, Err}
use Rattle.std.specs.Int.{w16, w64, to_le_bytes, from_le_bytes}
use Rattle.ev_isa.specs.Word.{NatMap}
use Rattle.ev_gate.specs.declared.tss.Tss.{Tss}
use Rattle.ev_gate.specs.declared.tss.Short.{Short}

-- RSP0 at 4, IST1 to IST7 from 36 on, the limit of the I/O map in the last two bytes (SDM volume 3, figure 7-11)
abbrev pub tss_bytes : Tss → List ℕ
tss_bytes t = replicate 4 0 ++ to_le_bytes w64 t.rsp0 ++ replicate 24 0 ++ flat_map (to_le_bytes w64) t.ist ++ replicate 10 0 ++ to_le_bytes w16 104

-- the word of eight bytes from a place on
abbrev pub word_from : List ℕ → ℕ → ℕ
word_from bytes n = from_le_bytes w64 (drop n bytes)

-- the stacks that 104 bytes or more name
unfoldable pub read_tss : List ℕ → Result Tss Short
read_tss bytes =
    if nat_lt (length bytes) 104 then Err (record {})
    else Ok (record { rsp0 = word_from bytes 4; ist = map (λ k. word_from bytes (36 + 8 * k)) (0 ∷ 1 ∷ 2 ∷ 3 ∷ 4 ∷ 5 ∷ 6 ∷ []) })

-- the fields within their widths
abbrev pub IsTss : Tss → Type 0
IsTss t = (t.rsp0 < 2 ^ 64) × (length t.ist ≡ 7) × ((i : ℕ) → get_or t.ist i 0 < 2 ^ 64)

-- The laws of both directions: reading what was written gives the stacks,
abbrev pub TssIsRead : Type 0
TssIsRead = (t : Tss) → IsTss t → read_tss (tss_bytes t) ≡ Ok t

-- and writing what was read gives the bytes of the stacks.
abbrev pub TssIsWritten : Type 0
TssIsWritten =
    (bytes : List ℕ) (t : Tss) → ((i : ℕ) → get_or bytes i 0 < 256) → read_tss bytes ≡ Ok t
    → (take 8 (drop 4 (tss_bytes t)) ≡ take 8 (drop 4 bytes)) × (take 56 (drop 36 (tss_bytes t)) ≡ take 56 (drop 36 bytes))

-- what a delivery reads of the TSS that stands in memory at this address
abbrev pub rsp0_at : NatMap ℕ → ℕ → ℕ
rsp0_at words tss = words (tss + 4)

-- IST n of the TSS at an address, of 1 to 7
abbrev pub ist_at : NatMap ℕ → ℕ → ℕ → ℕ
ist_at words tss n = words (tss + 28 + 8 * n)
