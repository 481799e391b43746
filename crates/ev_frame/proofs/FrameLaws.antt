-- The laws of frames and their bytes.
use Rattle.std.proofs.Common.{◌≡◌, ◌<◌, ◌≤◌, ℕ, ◌+◌, ◌*◌, ◌/◌, ◌%◌, ◌^◌, Bool, true, false, not, ◌||◌, nat_lt, ◌==◌, List, [], ◌∷◌, length, take, drop, get_or, Ok, Err, refl, arith, ap, ◌∙◌, sym, if◌then◌else◌}
use Rattle.std.proofs.lemmas.Bool.{eqb-true, eqb-false, ltb-false, le-ltb, or_parts, not-false}
use Rattle.std.proofs.lemmas.List.{get_or-drop}
use Rattle.std.proofs.lemmas.Nat.{from_le_bytes-to_le_bytes_8}
use Rattle.std.specs.List.{flat_map}
use Rattle.std.specs.Int.{w64, to_le_bytes}
use Rattle.ev_isa.specs.Word.{bit, bit_if}
use Rattle.ev_isa.proofs.Bits.{flag_at, flag_is, flag_small}
use Rattle.ev_isa.proofs.Words.{word_back, words_back}
use Rattle.ev_frame.specs.declared.frame.Frame64.{Frame64}
use Rattle.ev_frame.specs.declared.frame.FrameFault.TheVariants.{Short, Reserved}
use Rattle.ev_frame.specs.Frame.{IsFrame, cs_word, ss_word, words_of, frame_bytes, word_at, has_stray_cs, has_stray_ss, has_stray, frame_in, read_frame, FrameIsRead, FrameIsWritten}
use Rattle.ev_frame.proofs.FrameWords.{CsParts, SsParts, cs_parts, ss_parts, ss_word_is, cs_back, ss_back}

-- what stands at the places of a frame
record Holds (bytes : List ℕ) (f : Frame64) : Type 0 where
  error : word_at bytes 0 ≡ f.error
  rip : word_at bytes 1 ≡ f.rip
  cs : word_at bytes 2 ≡ cs_word f
  flags : word_at bytes 3 ≡ f.flags
  rsp : word_at bytes 4 ≡ f.rsp
  ss : word_at bytes 5 ≡ ss_word f
  info : word_at bytes 6 ≡ f.info
  top : word_at bytes 7 ≡ 0

cs_of : (f : Frame64) → IsFrame f → CsParts (cs_word f) f.cs f.old_level (bit_if 0 f.wfe)
cs_of f h = cs_parts (cs_word f) f.cs f.old_level (bit_if 0 f.wfe) h.5 h.7 (flag_small f.wfe) (omega (arith, flag_at 18 f.wfe))

ss_of : (f : Frame64) → IsFrame f
    → SsParts (ss_word f) f.ss (bit_if 0 f.sti) (bit_if 0 f.software) (bit_if 0 f.nmi) f.vector f.kind (bit_if 0 f.enclave) (bit_if 0 f.long)
    (bit_if 0 f.nested) f.length
ss_of f h =
    ss_parts (ss_word f) _ _ _ _ _ _ _ _ _ _ h.6 (flag_small f.sti) (flag_small f.software) (flag_small f.nmi) h.8 h.9 (flag_small f.enclave)
    (flag_small f.long) (flag_small f.nested) h.10
    (sym (ss_word_is f))

holds : (f : Frame64) → IsFrame f → Holds (frame_bytes f) f
holds f h = record {
  error = from_le_bytes-to_le_bytes_8 f.error h.0;
  rip = from_le_bytes-to_le_bytes_8 f.rip h.1;
  cs = from_le_bytes-to_le_bytes_8 (cs_word f) (cs_of f h).fits;
  flags = from_le_bytes-to_le_bytes_8 f.flags h.2;
  rsp = from_le_bytes-to_le_bytes_8 f.rsp h.3;
  ss = from_le_bytes-to_le_bytes_8 (ss_word f) (ss_of f h).fits;
  info = from_le_bytes-to_le_bytes_8 f.info h.4;
  top = refl;
}

-- the words are read as the fields, and no other bit stands in them
made : (bytes : List ℕ) (f : Frame64) → Holds bytes f → IsFrame f → frame_in bytes ≡ f
made bytes f p h =
    let cs = cs_of f h in
    let ss = ss_of f h in
    rw (
      p.error,
      p.rip,
      p.cs,
      p.flags,
      p.rsp,
      p.ss,
      p.info,
      cs.selector,
      cs.level,
      flag_is _ f.wfe cs.wfe,
      ss.selector,
      flag_is _ f.sti ss.sti,
      flag_is _ f.software ss.software,
      flag_is _ f.nmi ss.nmi,
      ss.vector,
      ss.kind,
      flag_is _ f.enclave ss.enclave,
      flag_is _ f.long ss.long,
      flag_is _ f.nested ss.nested,
      ss.length,
    ) refl

clear : (bytes : List ℕ) (f : Frame64) → Holds bytes f → IsFrame f → has_stray bytes ≡ false
clear bytes f p h =
    let ss = ss_of f h in
    rw (p.cs, p.ss, p.top, (cs_of f h).stray, ss.low_stray, ss.middle_stray, ss.high_stray, ss.last_stray) refl

passes : (bytes : List ℕ) → 64 ≤ length bytes → has_stray bytes ≡ false → read_frame bytes ≡ Ok (frame_in bytes)
unfolding read_frame
passes bytes h e = let t : nat_lt (length bytes) 64 ≡ false = le-ltb (length bytes) 64 h in rw (t, e) refl

pub is_read : FrameIsRead
is_read f h =
    passes (frame_bytes f) (omega arith) (clear (frame_bytes f) f (holds f h) h) ∙ ap (λ (u : Frame64). Ok u) (made (frame_bytes f) f (holds f h) h)

-- what the tests of a read said
tests : (a b : Bool) (x f : Frame64) → (if a then Err Short else (if b then Err Reserved else Ok x)) ≡ Ok f → (a ≡ false) × (b ≡ false) × (x ≡ f)
tests true b x f e = cc
tests false true x f e = cc
tests false false x f e = (refl, refl, cc)

accepted : (bytes : List ℕ) (f : Frame64) → read_frame bytes ≡ Ok f → (64 ≤ length bytes) × (has_stray bytes ≡ false) × (frame_in bytes ≡ f)
unfolding read_frame
accepted bytes f e =
    let said = tests (nat_lt (length bytes) 64) (has_stray bytes) (frame_in bytes) f e in
    (ltb-false (length bytes) 64 said.0, said.1, said.2)

-- a field that is no stray bit is 0
none : (n : ℕ) → not (n == 0) ≡ false → n ≡ 0
none n h = eqb-true n 0 (not-false (n == 0) h)

words_are : (bytes : List ℕ) → has_stray bytes ≡ false
    → words_of (frame_in bytes)
    ≡ word_at bytes 0 ∷ word_at bytes 1 ∷ word_at bytes 2 ∷ word_at bytes 3 ∷ word_at bytes 4 ∷ word_at bytes 5 ∷ word_at bytes 6 ∷ word_at bytes 7 ∷ []
words_are bytes e =
    let cs = word_at bytes 2 in
    let ss = word_at bytes 5 in
    let outer = or_parts (has_stray_cs cs || has_stray_ss ss) (not (word_at bytes 7 == 0)) e in
    let inner = or_parts (has_stray_cs cs) (has_stray_ss ss) outer.0 in
    let most = or_parts (not (ss / 2 ^ 19 % 2 ^ 13 == 0) || not (ss / 2 ^ 40 % 2 ^ 8 == 0) || not (ss / 2 ^ 52 % 2 ^ 4 == 0)) (bit 59 ss) inner.1 in
    let some = or_parts (not (ss / 2 ^ 19 % 2 ^ 13 == 0) || not (ss / 2 ^ 40 % 2 ^ 8 == 0)) (not (ss / 2 ^ 52 % 2 ^ 4 == 0)) most.0 in
    let two = or_parts (not (ss / 2 ^ 19 % 2 ^ 13 == 0)) (not (ss / 2 ^ 40 % 2 ^ 8 == 0)) some.0 in
    let odd = eqb-false (ss / 2 ^ 59 % 2) 1 most.1 in
    let last : ss / 2 ^ 59 % 2 ≡ 0 = omega (arith, odd) in
    rw (cs_back cs (none (cs / 2 ^ 19) inner.0), ss_back ss (none _ two.0) (none _ two.1) (none _ some.1) last, none (word_at bytes 7) outer.1) refl

bytes_are : (bytes : List ℕ) → ((i : ℕ) → get_or bytes i 0 < 256) → 64 ≤ length bytes
    → flat_map (to_le_bytes w64) (word_at bytes 0 ∷ word_at bytes 1 ∷ word_at bytes 2 ∷ word_at bytes 3 ∷ word_at bytes 4 ∷ word_at bytes 5
    ∷ word_at bytes 6 ∷ word_at bytes 7 ∷ [])
    ≡ take 64 bytes
bytes_are bytes small h =
    sym (rw (
      words_back 0 56 bytes small (omega arith),
      words_back 8 48 bytes small (omega arith),
      words_back 16 40 bytes small (omega arith),
      words_back 24 32 bytes small (omega arith),
      words_back 32 24 bytes small (omega arith),
      words_back 40 16 bytes small (omega arith),
      words_back 48 8 bytes small (omega arith),
      ← word_back 56 bytes small (omega arith),
    ) refl)

word_fits : (n : ℕ) (bytes : List ℕ) → ((i : ℕ) → get_or bytes i 0 < 256) → word_at bytes n < 2 ^ 64
word_fits n bytes small =
    let byte : (i : ℕ) → get_or (drop (8 * n) bytes) i 0 < 256 = λ i. omega (arith, small (8 * n + i), get_or-drop (8 * n) bytes i 0) in
    omega (arith, byte 0, byte 1, byte 2, byte 3, byte 4, byte 5, byte 6, byte 7)

fits : (bytes : List ℕ) → ((i : ℕ) → get_or bytes i 0 < 256) → IsFrame (frame_in bytes)
fits bytes small = (
  word_fits 0 bytes small,
  word_fits 1 bytes small,
  word_fits 3 bytes small,
  word_fits 4 bytes small,
  word_fits 6 bytes small,
  omega arith,
  omega arith,
  omega arith,
  omega arith,
  omega arith,
  omega (arith, word_fits 5 bytes small),
)

pub is_written : FrameIsWritten
is_written bytes f small e =
    let a = accepted bytes f e in
    rw (sym a.2) (fits bytes small, ap (flat_map (to_le_bytes w64)) (words_are bytes a.1) ∙ bytes_are bytes small a.0)
