use Rattle.std.proofs.Common.{ap, ◌∙◌}
use Rattle.ev_stub.specs.Lines.{listings_of}
use Rattle.ev_stub_idt.proofs.Listed.{are_linkable}
use Rattle.ev_stub_idt.proofs.idt.idt_visible.Goals as goal

pub visible-requires : goal.visible-requires
visible-requires c = are_linkable c.deref.result.now (ap listings_of c.deref.ensures.value ∙ c.in-Ok.ensures)
