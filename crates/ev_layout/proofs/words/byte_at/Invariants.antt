use Rattle.std.proofs.Common.{◌≡◌, drop}
use Rattle.ev_concrete.specs.Opening.{byte_of}
use Rattle.ev_layout.specs.Placed.{placed}
use Rattle.ev_layout.proofs.words.byte_at.Given as goal

abbrev pub invariant-loop-block : goal.invariant-loop-block
invariant-loop-block l = byte_of (placed (drop l.block-index l.blocks)) l.a ≡ byte_of (placed l.blocks) l.a
