-- An RSP that is written is one that a write takes.
use Rattle.ev_state.proofs.Kept.{with_rsp}
use Rattle.ev_state.proofs.msr.MsrFile.write_msr.Goals as goal

pub invariant_of-self-then-is_level_rsp : goal.invariant_of-self-then-is_level_rsp
invariant_of-self-then-is_level_rsp c = with_rsp 0 c.args.v c.self.invariant c.if-is_level_rsp.ensures

pub invariant_of-self-then-is_level_rsp-2 : goal.invariant_of-self-then-is_level_rsp-2
invariant_of-self-then-is_level_rsp-2 c = with_rsp 1 c.args.v c.self.invariant c.if-is_level_rsp-2.ensures

pub invariant_of-self-then-is_level_rsp-3 : goal.invariant_of-self-then-is_level_rsp-3
invariant_of-self-then-is_level_rsp-3 c = with_rsp 2 c.args.v c.self.invariant c.if-is_level_rsp-3.ensures

pub invariant_of-self-then-is_level_rsp-4 : goal.invariant_of-self-then-is_level_rsp-4
invariant_of-self-then-is_level_rsp-4 c = with_rsp 3 c.args.v c.self.invariant c.if-is_level_rsp-4.ensures
