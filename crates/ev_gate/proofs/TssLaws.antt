-- The laws of a TSS and its bytes.
use Rattle.std.proofs.Common.{◌≡◌, ◌<◌, ◌≤◌, ℕ, ◌+◌, ◌*◌, ◌^◌, Bool, true, false, nat_lt, List, [], ◌∷◌, length, map, take, drop, get_or, Ok, Err, refl, arith, ap, subst, ◌∙◌, sym, if◌then◌else◌}
use Rattle.std.proofs.lemmas.Bool.{ltb-false, le-ltb}
use Rattle.std.proofs.lemmas.List.{get_or-drop, get_or-take}
use Rattle.std.proofs.lemmas.List.FromFn.{fill_by_all}
use Rattle.std.proofs.lemmas.Nat.{from_le_bytes-to_le_bytes_8}
use Rattle.std.specs.List.{range_with_len}
use Rattle.byteorder.specs.Endian.{little_number, IsRead}
use Rattle.ev_isa.proofs.Words.{word_back, words_back}
use Rattle.ev_gate.specs.declared.tss.Tss.{Tss}
use Rattle.ev_gate.specs.declared.tss.Short.{Short}
use Rattle.ev_gate.specs.Tss.{tss_bytes, read_tss, word_from, TssIsRead, TssIsWritten}

-- the stacks that the bytes name
abbrev pub tss_in : List ℕ → Tss
tss_in bytes = record { rsp0 = word_from bytes 4; ist = map (λ k. word_from bytes (36 + 8 * k)) (range_with_len 0 7) }

pub passes : (bytes : List ℕ) → 104 ≤ length bytes → read_tss bytes ≡ Ok (tss_in bytes)
unfolding read_tss
passes bytes h = let t : nat_lt (length bytes) 104 ≡ false = le-ltb (length bytes) 104 h in rw t refl

-- a byte of the part that is read
part : (bytes : List ℕ) (k i : ℕ) → k < 7 → i < 8 → get_or (drop (8 * k) (take 56 (drop 36 bytes))) i 0 ≡ get_or (drop (36 + 8 * k) bytes) i 0
part bytes k i hk hi =
    get_or-drop (8 * k) (take 56 (drop 36 bytes)) i 0
    ∙ get_or-take 56 (drop 36 bytes) (8 * k + i) 0 (omega arith)
    ∙ get_or-drop 36 bytes (8 * k + i) 0
    ∙ ap (λ (j : ℕ). get_or bytes j 0) {x = 36 + (8 * k + i)} {y = 36 + 8 * k + i} (omega arith)
    ∙ sym (get_or-drop (36 + 8 * k) bytes i 0)

pub stacks_are : (bytes xs : List ℕ) → length xs ≡ 7 → IsRead little_number 8 (take 56 (drop 36 bytes)) xs
    → xs ≡ map (λ k. word_from bytes (36 + 8 * k)) (range_with_len 0 7)
stacks_are bytes xs len each = fill_by_all (λ k. word_from bytes (36 + 8 * k)) xs 7 0 len (λ k h.
    let byte : (i : ℕ) → i < 8 → get_or (drop (8 * k) (take 56 (drop 36 bytes))) i 0 ≡ get_or (drop (36 + 8 * k) bytes) i 0 =
    λ i small. part bytes k i h small in
    omega (
      arith,
      each k (rw len h),
      byte 0 (omega arith),
      byte 1 (omega arith),
      byte 2 (omega arith),
      byte 3 (omega arith),
      byte 4 (omega arith),
      byte 5
          (omega arith),
      byte 6 (omega arith),
      byte 7 (omega arith),
    ))

seven : (r a b c d e f g : ℕ) → r < 2 ^ 64 → a < 2 ^ 64 → b < 2 ^ 64 → c < 2 ^ 64 → d < 2 ^ 64 → e < 2 ^ 64 → f < 2 ^ 64 → g < 2 ^ 64
    → tss_in (tss_bytes (record { rsp0 = r; ist = a ∷ b ∷ c ∷ d ∷ e ∷ f ∷ g ∷ [] })) ≡ record { rsp0 = r; ist = a ∷ b ∷ c ∷ d ∷ e ∷ f ∷ g ∷ [] }
seven r a b c d e f g hr ha hb hc hd he hf hg =
    rw (
      from_le_bytes-to_le_bytes_8 r hr,
      from_le_bytes-to_le_bytes_8 a ha,
      from_le_bytes-to_le_bytes_8 b hb,
      from_le_bytes-to_le_bytes_8 c hc,
      from_le_bytes-to_le_bytes_8 d hd,
      from_le_bytes-to_le_bytes_8 e he,
      from_le_bytes-to_le_bytes_8 f hf,
      from_le_bytes-to_le_bytes_8 g hg,
    ) refl

pub is_read : TssIsRead
is_read t h =
    let stacks : t.ist ≡ map (λ k. get_or t.ist k 0) (range_with_len 0 7) = fill_by_all (λ k. get_or t.ist k 0) t.ist 7 0 h.1 (λ k below. refl) in
    let whole : t ≡ record { rsp0 = t.rsp0; ist = map (λ k. get_or t.ist k 0) (range_with_len 0 7) } =
    ap (λ (xs : List ℕ). let u : Tss = record { rsp0 = t.rsp0; ist = xs } in u) stacks in
    subst (λ (u : Tss). read_tss (tss_bytes u) ≡ Ok u) (sym whole)
    (passes (tss_bytes (record { rsp0 = t.rsp0; ist = map (λ k. get_or t.ist k 0) (range_with_len 0 7) })) (omega arith)
    ∙ ap (λ (u : Tss). Ok u) (seven t.rsp0 _ _ _ _ _ _ _ h.0 (h.2 0) (h.2 1) (h.2 2) (h.2 3) (h.2 4) (h.2 5) (h.2 6)))

tests : (a : Bool) (short : Short) (x t : Tss) → (if a then Err short else Ok x) ≡ Ok t → (a ≡ false) × (x ≡ t)
tests true short x t e = cc
tests false short x t e = (refl, cc)

accepted : (bytes : List ℕ) (t : Tss) → read_tss bytes ≡ Ok t → (104 ≤ length bytes) × (tss_in bytes ≡ t)
unfolding read_tss
accepted bytes t e =
    let said = tests (nat_lt (length bytes) 104) (record {}) (tss_in bytes) t e in
    (ltb-false (length bytes) 104 said.0, said.1)

written : (bytes : List ℕ) → ((i : ℕ) → get_or bytes i 0 < 256) → 104 ≤ length bytes → take 56 (drop 36 (tss_bytes (tss_in bytes))) ≡ take 56 (drop 36 bytes)
written bytes small h =
    sym (rw (
      words_back 36 48 bytes small (omega arith),
      words_back 44 40 bytes small (omega arith),
      words_back 52 32 bytes small (omega arith),
      words_back 60 24 bytes small (omega arith),
      words_back 68 16 bytes small (omega arith),
      words_back 76 8 bytes small (omega arith),
      ← word_back 84 bytes small (omega arith),
    ) refl)

pub is_written : TssIsWritten
is_written bytes t small e =
    let a = accepted bytes t e in
    rw (sym a.1) (word_back 4 bytes small (omega (arith, a.0)), written bytes small a.0)
