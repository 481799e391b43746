use Rattle.ev_deliver.proofs.IdtDelivers.{idt_delivers, idt_refuses, nmi_delivers, call_delivers}
use Rattle.ev_deliver.proofs.Tops.{idt_from_task, idt_from_body, idt_from_nmi_body, idt_of_nmi}
use Rattle.ev_deliver.proofs.idt_events.Goals as goal

pub returns : goal.returns
returns c = record {
  begins = idt_delivers;
  refuses = idt_refuses;
  nmi = nmi_delivers;
  call = call_delivers;
  from_task = idt_from_task;
  from_body = idt_from_body;
  from_nmi_body = idt_from_nmi_body;
  own_stack = idt_of_nmi;
}
