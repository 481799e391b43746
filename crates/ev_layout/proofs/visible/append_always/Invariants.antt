use Rattle.std.proofs.Common.{◌≡◌, ◌++◌, take}
use Rattle.ev_stub.specs.Blocks.{always}
use Rattle.ev_layout.specs.Marks.{listed}
use Rattle.ev_layout.proofs.visible.append_always.Given as goal

abbrev pub invariant-loop-address : goal.invariant-loop-address
invariant-loop-address l = listed l.places ≡ listed l.fn.places ++ always (take l.address-index l.addresses)
