use Rattle.ev_state.proofs.FlagLaws.{kept}
use Rattle.ev_state.proofs.flags.Flags.word.Goals as goal

pub returns-clause-kept : goal.returns-clause-kept
returns-clause-kept c = kept c.bits.result c.args.self c.bits.ensures
