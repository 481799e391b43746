use Rattle.ev_paths.proofs.IdtEnds.{idt_enters, idt_returns, idt_untold}
use Rattle.ev_paths.proofs.Cells.{idt_cells}
use Rattle.ev_paths.proofs.Lines.{idt_stand, stubs_jump}
use Rattle.ev_paths.proofs.idt_blocks.Goals as goal

pub returns : goal.returns
returns c = record { enters = idt_enters; returns = idt_returns; cr2 = idt_untold; lines = idt_stand; jumps = stubs_jump; cells = λ code f. idt_cells code f }
