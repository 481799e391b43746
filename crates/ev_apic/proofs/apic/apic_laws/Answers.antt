use Rattle.ev_apic.proofs.Greatest.{greatest_law}
use Rattle.ev_apic.proofs.Laws.{puts, unites, next, accepts}
use Rattle.ev_apic.proofs.apic.apic_laws.Goals as goal

pub returns : goal.returns
returns c = record { greatest = greatest_law; puts = puts; unites = unites; next = next; accepts = accepts }
