-- The frame of FRED delivery is read back.
use Rattle.std.proofs.Common.{◌≡◌, ℕ, ◌+◌, ◌*◌, ◌^◌, ◌<◌, Bool, true, false, ◌&&◌, List, [], ◌∷◌, refl, sym, ap, ◌∙◌, arith}
use Rattle.std.specs.Prelude.{flat_map, if◌then◌else◌}
use Rattle.std.specs.Int.{w64, to_le_bytes}
use Rattle.ev_event.specs.declared.event.Event.{Event}
use Rattle.ev_event.specs.declared.event.EventType.{EventType}
use Rattle.ev_event.specs.declared.event.EventType.TheVariants.{External, Nmi, Hardware, SoftInt, Int1, Int3, Other}
use Rattle.ev_event.specs.Event.{has_error_code, is_hardware, type_number}
use Rattle.ev_frame.specs.Frame as frame
use Rattle.ev_frame.specs.Frame.{IsFrame, read_frame, words_of}
use Rattle.ev_frame.proofs.FrameLaws.{is_read}
use Rattle.ev_state.specs.Processor.{Processor}
use Rattle.ev_fred.specs.FredDelivery.{fred_frame, has_length, ss_word}
use Rattle.ev_probe.specs.Laws.{AreWithin, FredFramesAreRead, frame_of}

-- the length's part of the SS word
length_part : (t : Bool) (n : ℕ) → 2 ^ 60 * (if t then n else 0) ≡ (if t then 2 ^ 60 * n else 0)
length_part true n = refl
length_part false n = refl

cs_is : (c : Processor) (e : Event) (nested : Bool) → frame.cs_word (frame_of c e nested) ≡ c.cs + 2 ^ 16 * c.level
cs_is c e nested = omega arith

ss_is : (c : Processor) (e : Event) (nested : Bool) → frame.ss_word (frame_of c e nested) ≡ ss_word c e nested
unfolding ss_word
ss_is c e nested = let part = length_part (has_length e.kind) e.length in omega (arith, part)

words_are : (c : Processor) (e : Event) (nested : Bool) → words_of (frame_of c e nested) ≡ fred_frame c e nested
words_are c e nested =
    let f = frame_of c e nested in
    ap (λ (x : ℕ). f.error ∷ f.rip ∷ x ∷ f.flags ∷ f.rsp ∷ frame.ss_word f ∷ f.info ∷ 0 ∷ []) (cs_is c e nested)
    ∙ ap (λ (x : ℕ). f.error ∷ f.rip ∷ (c.cs + 2 ^ 16 * c.level) ∷ f.flags ∷ f.rsp ∷ x ∷ f.info ∷ 0 ∷ []) (ss_is c e nested)

kind_small : (k : EventType) → type_number k < 16
unfolding type_number
kind_small External = omega arith
kind_small Nmi = omega arith
kind_small Hardware = omega arith
kind_small SoftInt = omega arith
kind_small Int1 = omega arith
kind_small Int3 = omega arith
kind_small Other = omega arith

if_small : (t : Bool) (x n : ℕ) → x < n → (if t then x else 0) < n
if_small true x n h = h
if_small false x n h = omega arith

is_frame : (c : Processor) (e : Event) (nested : Bool) → AreWithin c e → IsFrame (frame_of c e nested)
is_frame c e nested w = (
  if_small (is_hardware e.kind && has_error_code e.vector) e.error (2 ^ 64) w.error,
  w.rip,
  w.flags,
  w.rsp,
  w.info,
  w.cs,
  w.ss,
  w.level,
  w.vector,
  kind_small e.kind,
  if_small (has_length e.kind) e.length 16 w.length,
)

pub frames_read : FredFramesAreRead
frames_read c e nested w =
    ap (λ (ws : List ℕ). read_frame (flat_map (to_le_bytes w64) ws)) (sym (words_are c e nested)) ∙ is_read (frame_of c e nested) (is_frame c e nested w)
