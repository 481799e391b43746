-- What a sink takes where an answer comes. Own.
use Rattle.std.specs.Prelude.{◌≡◌, ℕ, List, [], Option}
use Rattle.std.specs.Io.KnownBytes.{append_known}
use Rattle.ev_abstract.specs.EntryText.{Text}
use Rattle.ev_io.specs.Transfer.{TookPrefix}
use Rattle.ev_status.specs.declared.status.Status.{Status}
use Rattle.ev_status.specs.declared.status.Status.TheVariants.{Done, ReadFault, WriteFault, NoMemory}
use Rattle.fredbox.specs.Comes.{Comes}

-- At Done the text of the answer was taken, and where the sink failed a prefix of it; else nothing was.
abbrev pub Took : Option (List ℕ) → Option (List ℕ) → Comes → Status → Type 0
Took old new come Done = (text : Text) × come Done text × (new ≡ append_known old text)
Took old new come WriteFault = (text : Text) × come Done text × TookPrefix old new text
Took old new come NoMemory = new ≡ old
Took old new come ReadFault = new ≡ old
Took old new come s = come s [] × (new ≡ old)

-- a text was written, or a prefix of it where the sink failed; where memory was refused nothing was
abbrev pub Wrote : Option (List ℕ) → Option (List ℕ) → Text → Status → Type 0
Wrote old new text Done = new ≡ append_known old text
Wrote old new text WriteFault = TookPrefix old new text
Wrote old new text NoMemory = new ≡ old
Wrote old new text _ = ⊥

-- the answer is one that comes before anything is written
abbrev pub IsUnwritten : Status → Type 0
IsUnwritten Done = ⊥
IsUnwritten WriteFault = ⊥
IsUnwritten _ = Unit {0}
