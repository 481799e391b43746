use Rattle.std.proofs.Common.{arith, refl}
use Rattle.ev_asm_text.proofs.Listing.{digits_step}
use Rattle.ev_asm_text.proofs.lines.print_instruction.Goals as goal

pub loop-byte-preserved : goal.loop-byte-preserved
loop-byte-preserved c = record {
  text = digits_step c.args.at c.args.bytes.now c.loop-byte.byte-index _ _ 0 _ _ (omega arith) (omega arith) refl c.loop-byte.invariant.text
      c.push_byte.ensures.bytes;
  room = omega (arith, c.push_byte.ensures.len, c.loop-byte.invariant.room);
}
