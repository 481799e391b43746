-- Answers with their texts. Own.
use Rattle.std.specs.Prelude.{◌≡◌, ◌⊎◌, ℕ, Bool, true, false, [], Result, Ok, Err}
use Rattle.ev_body.specs.KernelImage.{KernelImage}
use Rattle.ev_abstract.specs.Accepted.{IsAcceptedWith, IsFirstRefusal}
use Rattle.ev_abstract.specs.EntryText.{Text}
use Rattle.ev_abstract.specs.declared.refusal.Refusal.{Refusal}
use Rattle.ev_io.specs.declared.cause.Cause.{Cause}
use Rattle.ev_status.specs.declared.status.Status.{Status}
use Rattle.ev_status.specs.declared.status.Status.TheVariants.{BadDocument, Refused, NotBuilt}

-- an answer, with the text that it comes with
abbrev pub Comes : Type 1
Comes = Status → Text → Type 0

-- this answer alone, with this text
abbrev pub Is : Status → Text → Comes
Is status text s t = (s ≡ status) × (t ≡ text)

-- a line that doesn't follow is answered with its number and cause; else the rest tells the answer
abbrev pub or_line : {A : Type 0} → Result A (ℕ × Cause) → (A → Comes) → Comes
or_line (Err refusal) rest = Is (BadDocument refusal.0 refusal.1) []
or_line (Ok read) rest = rest read

-- an image that isn't accepted is answered with the first rule that it breaks
abbrev pub or_rule : KernelImage → (ℕ → Comes) → Comes
or_rule image rest s t =
    ((bound : ℕ) × IsAcceptedWith image bound × rest bound s t)
    ⊎ ((refusal : Refusal) × IsFirstRefusal image refusal × Is (Refused refusal) [] s t)

-- what the program can't run yet is answered so
abbrev pub or_not_built : Bool → Comes → Comes
or_not_built true rest = rest
or_not_built false rest = Is NotBuilt []
