use Rattle.ev_asm_text.proofs.Listing.{are_lines}
use Rattle.ev_asm_text.proofs.law.instructions_are_lines.Goals as goal

pub returns : goal.returns
returns c = are_lines
