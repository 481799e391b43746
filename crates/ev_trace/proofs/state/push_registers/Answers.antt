use Rattle.std.proofs.Common.{arith}
use Rattle.ev_abstract.specs.EntryText.{register_names}
use Rattle.ev_trace.proofs.Registers.{one_more_register}
use Rattle.ev_trace.proofs.state.push_registers.Goals as goal

pub loop-i-preserved : goal.loop-i-preserved
loop-i-preserved c = record {
  bytes = one_more_register _ _ _ _ c.loop-i.i register_names c.args.regs.now (omega arith) (omega arith) c.loop-i.invariant.bytes
      c.register_name.ensures.name c.push_register.ensures.bytes;
  short = omega arith;
}
