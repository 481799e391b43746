-- What the index of labels and the count of bytes of a text are. Own.
use Rattle.std.specs.Prelude.{◌≡◌, ℕ, ◌≤◌, true, List}
use Rattle.ev_isa.specs.Pages.{text_base}
use Rattle.ev_asm.specs.declared.statement.Stmt.{Stmt}
use Rattle.ev_asm.specs.Assembly.{Places, total_size, places}
use Rattle.ev_asm.specs.Assembled.{are_instructions}
use Rattle.ev_asm.specs.declared.fault.AsmFault.{AsmFault}
use Rattle.ev_asm.specs.declared.fault.AsmFault.TheVariants.{DoubleLabel, NoLabel, TooLarge, NoMemory}
use Rattle.ev_io.specs.declared.cause.Cause.TheVariants as Cause
use Rattle.ev_text.specs.declared.stop.Stop.{Stop}

-- the labels are those of the text, and the size is that of its bytes
pub record IsText (stmts : List Stmt) (labels : Places) (size : ℕ) : Type 0 where
  pub encoded : are_instructions stmts ≡ true
  pub given : labels ≡ places text_base stmts
  pub sum : size ≡ total_size stmts
  pub few : size ≤ 65520

-- what a fault of the assembler means for a document
abbrev pub stop_of : AsmFault → Stop
stop_of (DoubleLabel n) = Stop.Because Cause.Double
stop_of (NoLabel n) = Stop.Because Cause.NoLabel
stop_of (TooLarge n) = Stop.Because Cause.Limit
stop_of NoMemory = Stop.NoMemory
