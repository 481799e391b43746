-- What the program answers to a command and the bytes of a document. Own.
use Rattle.std.specs.Prelude.{ℕ, Bool, List, [], ◌∷◌, ◌++◌, codes, decimal, Option, Some, None, Result}
use Rattle.std.specs.List.{list_all}
use Rattle.ev_isa.specs.declared.mode.Mode.{Mode}
use Rattle.ev_isa.specs.declared.mode.Mode.TheVariants.{Idt, Fred}
use Rattle.ev_body.specs.KernelImage.{KernelImage}
use Rattle.ev_abstract.specs.EntryText.{Text}
use Rattle.ev_abstract.specs.declared.script_line.Line.{Line}
use Rattle.ev_asm_text.specs.AsmText.{asm_text}
use Rattle.ev_built.specs.Built.{line_is_built}
use Rattle.ev_built.specs.RunTakes.{is_built}
use Rattle.ev_command.specs.Commands.{Says, IsBuilt}
use Rattle.ev_command.specs.declared.command.Command.{Command}
use Rattle.ev_command.specs.declared.command.Command.TheVariants.{Run, Asm, Check, Probe}
use Rattle.ev_concrete.specs.RunText.{run_text}
use Rattle.ev_image.specs.declared.head.Head.TheVariants as Head
use Rattle.ev_image.specs.Reads.{Opened, opened}
use Rattle.ev_io.specs.InputLines.{lines_of}
use Rattle.ev_io.specs.declared.cause.Cause.{Cause}
use Rattle.ev_probe.specs.Input.{input_text}
use Rattle.ev_script.specs.Script.{read_script}
use Rattle.fredbox.specs.Comes.{Comes, Is, or_line, or_rule, or_not_built}
use Rattle.ev_status.specs.declared.status.Status.TheVariants.{Done, Usage}

-- the modes of a run, in the order of their lines
abbrev pub modes_of : Option Mode → List Mode
modes_of None = Idt ∷ Fred ∷ []
modes_of (Some mode) = mode ∷ []

-- the text of a run
abbrev pub runs : Option Mode → Bool → KernelImage → List Line → Comes
runs mode frames image script = Is Done (run_text image script (modes_of mode) frames)

-- the text of an accepted image
abbrev pub bound_text : ℕ → Text
bound_text bound = codes "accepted bound " ++ decimal bound ++ 10 ∷ []

-- What a command comes to, behind an image that was read: the lines behind it are this script, or have this first refusal.
abbrev pub comes : Command → KernelImage → Result (List Line) (ℕ × Cause) → Comes
comes (Run mode frames) image script =
    or_not_built (is_built image) (or_rule image (λ bound. or_line script (λ lines.
    or_not_built (list_all line_is_built lines) (runs mode frames image lines))))
comes Check image script = or_rule image (λ bound. or_line script (λ lines. Is Done (bound_text bound)))
comes Asm image script = or_line script (λ lines. Is Done (asm_text image))
comes _ image script = Is Usage []

abbrev pub opened_comes : Command → Opened → Comes
opened_comes c o = comes c o.image (read_script o.image o.lines o.bytes o.behind)

-- what a command comes to on these bytes
abbrev pub comes_of : Command → List ℕ → Comes
comes_of Probe bytes = or_line (input_text bytes) (Is Done)
comes_of c bytes = or_line (opened 0 0 Head.Image (lines_of bytes)) (opened_comes c)

-- words that say a command that the program has
abbrev pub SaysBuilt : List Text → Command → Type 0
SaysBuilt words c = Says words c × IsBuilt c

-- the command's document begins with an image
abbrev pub SpeaksOfImage : Command → Type 0
SpeaksOfImage (Run mode frames) = Unit {0}
SpeaksOfImage Asm = Unit {0}
SpeaksOfImage Check = Unit {0}
SpeaksOfImage _ = ⊥
