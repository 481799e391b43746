-- A fault of reading is counted from one part of a command to the whole.
use Rattle.std.proofs.Common.{◌≡◌, ℕ, List, Option, subst}
use Rattle.std.specs.Prelude.{Err}
use Rattle.ev_abstract.specs.EntryText.{Text}
use Rattle.ev_image.specs.Reads as image
use Rattle.ev_image.specs.declared.reading.ImageFault.{ImageFault}
use Rattle.ev_probe.specs.Input as probe
use Rattle.ev_probe.specs.declared.input.InputFault.{InputFault}
use Rattle.ev_script.specs.Script as script
use Rattle.ev_script.specs.declared.reading.ScriptFault.{ScriptFault}
use Rattle.ev_status.specs.declared.status.Status.{Status}
use Rattle.ev_status.specs.declared.status.Status.TheVariants.{Done, Usage, ReadFault, WriteFault, BadDocument, Refused, NotBuilt, NoMemory}
use Rattle.fredbox.specs.Faults.{CountsRead, image_status, input_status, script_status}
use Rattle.fredbox.specs.Taken.{Wrote}

-- behind what was read without a fault
pub counts_behind : (before now after : ℕ) (s : Status) → now ≡ before → CountsRead now after s → CountsRead before after s
counts_behind before now after s same = subst (λ (n : ℕ). CountsRead n after s) same

pub image_counts : (A : Type 0) (before now : ℕ) (fault : ImageFault) → image.CountsRead {T = A} before now (Err fault)
    → CountsRead before now (image_status fault)
image_counts A before now ImageFault.Read k = k
image_counts A before now (ImageFault.BadLine n cause) k = k
image_counts A before now ImageFault.NoMemory k = k

pub script_counts : (A : Type 0) (before now : ℕ) (fault : ScriptFault) → script.CountsRead {T = A} before now (Err fault)
    → CountsRead before now (script_status fault)
script_counts A before now ScriptFault.Read k = k
script_counts A before now (ScriptFault.BadLine n cause) k = k
script_counts A before now ScriptFault.NoMemory k = k

pub input_counts : (A : Type 0) (before now : ℕ) (fault : InputFault) → probe.CountsRead {T = A} before now (Err fault)
    → CountsRead before now (input_status fault)
input_counts A before now InputFault.Read k = k
input_counts A before now (InputFault.BadLine n cause) k = k
input_counts A before now InputFault.NoMemory k = k

-- writing reads nothing
pub written_counts : (old new : Option (List ℕ)) (text : Text) (before now : ℕ) (s : Status) → Wrote old new text s → now ≡ before
    → CountsRead before now s
written_counts old new text before now Done w e = e
written_counts old new text before now WriteFault w e = e
written_counts old new text before now NoMemory w e = e
written_counts old new text before now ReadFault w e = absurd w
written_counts old new text before now Usage w e = e
written_counts old new text before now (BadDocument n cause) w e = e
written_counts old new text before now (Refused refusal) w e = e
written_counts old new text before now NotBuilt w e = e
