-- The bytes of the fields, one by one.
use Rattle.ev_gate.specs.Gate.{gate_bytes}
use Rattle.ev_gate.proofs.GateBytes.{bytes_are}
use Rattle.ev_gate.proofs.gate.gate_bytes.Goals as goal

pub returns : goal.returns
unfolding gate_bytes
returns c =
    let g = c.args.g.now in
    rw (c.to_le_bytes.ensures, c.to_le_bytes-2.ensures) (bytes_are g.offset g.selector g.ist _ _ c.kind_byte-kind.ensures)
