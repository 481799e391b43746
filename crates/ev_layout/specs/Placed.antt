-- Blocks as bytes at their addresses. Own.
use Rattle.std.specs.Prelude.{List, map}
use Rattle.ev_asm.specs.declared.block.Block.{Block}
use Rattle.ev_concrete.specs.Opening.{Placed}

abbrev pub placed : List Block → Placed
placed bs = map (λ (b : Block). (b.address, b.bytes)) bs
