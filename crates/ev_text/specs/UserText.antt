-- The user text of a document, line by line, and its bytes. Own.
use Rattle.std.specs.Prelude.{◌≡◌, ℕ, Bool, true, false, nat_lt, List, [], ◌∷◌, ◌++◌, Result, Ok, Err}
use Rattle.ev_isa.specs.Pages.{text_base}
use Rattle.ev_io.specs.declared.cause.Cause.{Cause}
use Rattle.ev_asm.specs.declared.statement.Stmt.{Stmt}
use Rattle.ev_asm.specs.declared.fault.AsmFault.{AsmFault}
use Rattle.ev_asm.specs.declared.fault.AsmFault.TheVariants.{DoubleLabel, NoLabel, TooLarge, NoMemory}
use Rattle.ev_asm.specs.Assembly.{total_size, places}
use Rattle.ev_asm.specs.Assembled.{is_second_label, assembled}
use Rattle.ev_text.specs.declared.text.WholeText.{WholeText}
use Rattle.ev_text.specs.declared.stop.Stop.{Stop}

-- the bytes of a user text are at most so many
abbrev pub most_text : ℕ
most_text = 65520

-- the causes of a line in their order: the first test that holds
abbrev pub unless : {X : Type 0} → Bool → Cause → Result X Cause → Result X Cause
unless b cause rest = elim b [ true ↦ Err cause | false ↦ rest ]

-- a text with a statement more: a label is given once, and the text is not too large
unfoldable pub text_grown : List Stmt → Stmt → Result (List Stmt) Cause
text_grown ss s =
    unless (is_second_label ss s) Cause.Double
    (unless (nat_lt most_text (total_size (ss ++ s ∷ []))) Cause.Limit
    (Ok (ss ++ s ∷ [])))

-- the cause of a fault of the assembler
abbrev pub fault_cause : AsmFault → Cause
fault_cause (DoubleLabel n) = Cause.Double
fault_cause (NoLabel n) = Cause.NoLabel
fault_cause (TooLarge n) = Cause.Limit
fault_cause NoMemory = Cause.Limit

-- a text that ends
unfoldable pub text_ended : List Stmt → Result WholeText Cause
text_ended ss = elim (assembled ss text_base most_text) [
  | Ok text ↦ Ok (record { bytes = text.bytes; labels = places text_base ss })
  | Err fault ↦ Err (fault_cause fault)
]

-- what a reader answers is what a definition gives, unless memory is refused
abbrev pub Comes : {X : Type 0} → Result X Cause → Result X Stop → Type 0
Comes r (Ok x) = r ≡ Ok x
Comes r (Err (Stop.Because cause)) = r ≡ Err cause
Comes r (Err Stop.NoMemory) = Unit {0}
