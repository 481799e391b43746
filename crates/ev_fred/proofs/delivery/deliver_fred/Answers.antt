use Rattle.ev_mem.specs.Mapped.{memory}
use Rattle.ev_fred.proofs.Deliveries.{met}
use Rattle.ev_fred.proofs.delivery.deliver_fred.Goals as goal

pub returns-in-Err-clause-is : goal.returns-in-Err-clause-is
returns-in-Err-clause-is c =
    met c.args.cpu.now c.note_fault.new.self c.note_fault-in-Err.new.self (memory c.args.mem.now) c.args.e.now c.in-Err.met c.args.nested
    c.new_level-level.result c.frame_top.result c.below-frame.result c.fred_frame-words.result
    c.note_fault.ensures c.new_level-level.ensures.is c.frame_top.ensures c.below-frame.ensures c.fred_frame-words.ensures c.in-Err.ensures.met
    c.note_fault-in-Err.ensures
