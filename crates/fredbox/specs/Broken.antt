-- What was read where the source failed. Own.
use Rattle.std.specs.Prelude.{◌≡◌, ◌⊎◌, ℕ, true, List, [], Option, None, Ok}
use Rattle.ev_abstract.specs.Accepted.{IsAccepted}
use Rattle.ev_body.specs.KernelImage.{KernelImage}
use Rattle.ev_built.specs.RunTakes.{is_built}
use Rattle.ev_command.specs.declared.command.Command.{Command}
use Rattle.ev_command.specs.declared.command.Command.TheVariants.{Run, Check, Probe}
use Rattle.ev_image.specs.Head.{head_follows}
use Rattle.ev_image.specs.Reads.{Opened, opened}
use Rattle.ev_image.specs.declared.head.Head.TheVariants as Head
use Rattle.ev_io.specs.Follow.{FollowsPart}
use Rattle.ev_io.specs.InputLines.{lines_of}
use Rattle.ev_io.specs.Lines.{Reading, coming}
use Rattle.ev_script.specs.Script.{Open, follows}
use Rattle.ev_probe.specs.Input as probe

-- whether the command reads on behind this image
abbrev pub ReadsOn : Command → KernelImage → Type 0
ReadsOn (Run mode frames) image = (is_built image ≡ true) × IsAccepted image
ReadsOn Check image = IsAccepted image
ReadsOn _ image = Unit {0}

-- the script broke off, behind the image: its lines before follow
abbrev pub ScriptBreaks : Command → KernelImage → Reading → List ℕ → Reading → Option (List ℕ) → Type 0
ScriptBreaks c image old bytes new left = ReadsOn c image × FollowsPart (follows image) old (Open []) bytes new left

-- a reader behind the line `script` of an image
pub record IsBehind (o : Opened) (r : Reading) (bytes : List ℕ) : Type 0 where
  pub number : r.number ≡ o.lines
  pub gone : r.gone ≡ o.bytes
  pub lines : lines_of bytes ≡ o.behind

-- a reader that has read nothing
abbrev pub nothing_read : Reading
nothing_read = record { chunk = []; text = []; number = 0; gone = 0 }

-- Where the source failed: what was read of these bytes are lines that follow each other, and a part of the line behind them.
abbrev pub BreaksOff : Command → List ℕ → Option (List ℕ) → Type 0
BreaksOff Probe bytes left = (new : Reading) × FollowsPart probe.follows nothing_read None bytes new (coming new.chunk left)
BreaksOff c bytes left =
    ((new : Reading) × FollowsPart head_follows nothing_read Head.Image bytes new (coming new.chunk left))
    ⊎ ((o : Opened) × (opened 0 0 Head.Image (lines_of bytes) ≡ Ok o) × (old : Reading) × (rest : List ℕ) × IsBehind o old rest
    × (new : Reading) × ScriptBreaks c o.image old rest new (coming new.chunk left))
