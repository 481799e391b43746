-- The answers to faults of reading, and the count of them. Own.
use Rattle.std.specs.Prelude.{◌≡◌, ℕ}
use Rattle.ev_io.specs.Transfer.{Rose}
use Rattle.ev_image.specs.declared.reading.ImageFault.{ImageFault}
use Rattle.ev_probe.specs.declared.input.InputFault.{InputFault}
use Rattle.ev_script.specs.declared.reading.ScriptFault.{ScriptFault}
use Rattle.ev_status.specs.declared.status.Status.{Status}
use Rattle.ev_status.specs.declared.status.Status.TheVariants.{ReadFault, BadDocument, NoMemory}

-- where no image was read
abbrev pub image_status : ImageFault → Status
image_status ImageFault.Read = ReadFault
image_status (ImageFault.BadLine n cause) = BadDocument n cause
image_status ImageFault.NoMemory = NoMemory

-- where no script was read
abbrev pub script_status : ScriptFault → Status
script_status ScriptFault.Read = ReadFault
script_status (ScriptFault.BadLine n cause) = BadDocument n cause
script_status ScriptFault.NoMemory = NoMemory

-- where no probe line was read
abbrev pub input_status : InputFault → Status
input_status InputFault.Read = ReadFault
input_status (InputFault.BadLine n cause) = BadDocument n cause
input_status InputFault.NoMemory = NoMemory

-- a fault of reading is counted where it is answered, and with any other answer none is
abbrev pub CountsRead : ℕ → ℕ → Status → Type 0
CountsRead before now ReadFault = Rose before now
CountsRead before now _ = now ≡ before
