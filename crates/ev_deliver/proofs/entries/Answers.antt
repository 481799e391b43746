use Rattle.ev_deliver.proofs.GoesOn.{entries_continue, stubs_go_on, table_loads, body_jumps}
use Rattle.ev_deliver.proofs.entries.Goals as goal

pub returns : goal.returns
returns c = record { continues = entries_continue; stubs = stubs_go_on; loads = table_loads; jumps = body_jumps }
