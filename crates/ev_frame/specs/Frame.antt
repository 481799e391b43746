-- FRED stack frames (FRED specification, "FRED stack frame", in the project's profile).
use Rattle.std.specs.Prelude.{ℕ, ◌≡◌, ◌<◌, ◌+◌, ◌*◌, ◌/◌, ◌%◌, ◌^◌, Bool, not, ◌||◌, nat_lt, ◌==◌, if◌then◌else◌, List, [], ◌∷◌, length, get_or, take, drop, flat_map, Result, Ok, Err}
use Rattle.std.specs.Int.{w64, to_le_bytes, from_le_bytes}
use Rattle.ev_isa.specs.Word.{bit, bit_if}
use Rattle.ev_frame.specs.declared.frame.Frame64.{Frame64}
use Rattle.ev_frame.specs.declared.frame.FrameFault.{FrameFault}
use Rattle.ev_frame.specs.declared.frame.FrameFault.TheVariants.{Short, Reserved}

-- the word of CS: the old stack level in bits 17:16, WFE in bit 18
abbrev pub cs_word : Frame64 → ℕ
cs_word f = f.cs + 2 ^ 16 * f.old_level + bit_if 18 f.wfe

-- the word of SS: STI blocking in bit 16, a software event in 17, NMI in 18, the vector in 39:32, the type in 51:48, enclave in 56, 64-bit mode in
-- 57, nested in 58, the instruction length in 63:60
abbrev pub ss_word : Frame64 → ℕ
ss_word f =
    f.ss + bit_if 16 f.sti + bit_if 17 f.software + bit_if 18 f.nmi + 2 ^ 32 * f.vector + 2 ^ 48 * f.kind + bit_if 56 f.enclave + bit_if 57 f.long
    + bit_if 58 f.nested + 2 ^ 60 * f.length

-- the eight words, from the lowest up
abbrev pub words_of : Frame64 → List ℕ
words_of f = f.error ∷ f.rip ∷ cs_word f ∷ f.flags ∷ f.rsp ∷ ss_word f ∷ f.info ∷ 0 ∷ []

-- the 64 bytes of a frame
abbrev pub frame_bytes : Frame64 → List ℕ
frame_bytes f = flat_map (to_le_bytes w64) (words_of f)

-- a word of 64 bytes
abbrev pub word_at : List ℕ → ℕ → ℕ
word_at bytes n = from_le_bytes w64 (drop (8 * n) bytes)

-- whether a word has a bit outside the fields: of the CS word bits 63:19, of the SS word 31:19, 47:40, 55:52 and 59
abbrev pub has_stray_cs : ℕ → Bool
has_stray_cs w = not (w / 2 ^ 19 == 0)

-- whether a reserved bit of the SS word is set
abbrev pub has_stray_ss : ℕ → Bool
has_stray_ss w = not (w / 2 ^ 19 % 2 ^ 13 == 0) || not (w / 2 ^ 40 % 2 ^ 8 == 0) || not (w / 2 ^ 52 % 2 ^ 4 == 0) || bit 59 w

-- the fields that 64 bytes have
abbrev pub frame_in : List ℕ → Frame64
frame_in bytes = let cs : ℕ = word_at bytes 2 in let ss : ℕ = word_at bytes 5 in record {
  error = word_at bytes 0;
  rip = word_at bytes 1;
  cs = cs % 2 ^ 16;
  old_level = cs / 2 ^ 16 % 4;
  wfe = bit 18 cs;
  flags = word_at bytes 3;
  rsp = word_at bytes 4;
  ss = ss % 2 ^ 16;
  sti = bit 16 ss;
  software = bit 17 ss;
  nmi = bit 18 ss;
  vector = ss / 2 ^ 32 % 2 ^ 8;
  kind = ss / 2 ^ 48 % 2 ^ 4;
  enclave = bit 56 ss;
  long = bit 57 ss;
  nested = bit 58 ss;
  length = ss / 2 ^ 60;
  info = word_at bytes 6;
}

-- whether a reserved bit of the frame is set
abbrev pub has_stray : List ℕ → Bool
has_stray bytes = has_stray_cs (word_at bytes 2) || has_stray_ss (word_at bytes 5) || not (word_at bytes 7 == 0)

-- what 64 bytes read as, or why they are no frame
unfoldable pub read_frame : List ℕ → Result Frame64 FrameFault
read_frame bytes =
    if nat_lt (length bytes) 64 then Err Short
    else (if has_stray bytes then Err Reserved
    else Ok (frame_in bytes))

-- the fields within their widths
abbrev pub IsFrame : Frame64 → Type 0
IsFrame f =
    (f.error < 2 ^ 64) × (f.rip < 2 ^ 64) × (f.flags < 2 ^ 64) × (f.rsp < 2 ^ 64) × (f.info < 2 ^ 64) × (f.cs < 2 ^ 16) × (f.ss < 2 ^ 16)
    × (f.old_level < 4) × (f.vector < 2 ^ 8) × (f.kind < 16) × (f.length < 16)

-- The laws of both directions: reading what was written gives the frame,
abbrev pub FrameIsRead : Type 0
FrameIsRead = (f : Frame64) → IsFrame f → read_frame (frame_bytes f) ≡ Ok f

-- and what was read is within the widths, and writing it gives the bytes.
abbrev pub FrameIsWritten : Type 0
FrameIsWritten =
    (bytes : List ℕ) (f : Frame64) → ((i : ℕ) → get_or bytes i 0 < 256) → read_frame bytes ≡ Ok f → IsFrame f × (frame_bytes f ≡ take 64 bytes)
