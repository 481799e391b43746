use Rattle.std.proofs.Common.{ap, ◌∙◌}
use Rattle.ev_stub.specs.Lines.{listings_of}
use Rattle.ev_stub_idt.proofs.Listed.{are_linkable}
use Rattle.ev_stub_idt.proofs.idt.idt_code.Goals as goal

pub blocks-requires : goal.blocks-requires
blocks-requires c = are_linkable c.deref.result.now (ap listings_of c.deref.ensures.value ∙ c.in-Ok.ensures)
