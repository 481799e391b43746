use Rattle.std.proofs.Common.{option_map}
use Rattle.ev_command.proofs.PairLaws.{threads_law}
use Rattle.ev_command.proofs.reading.threads_with.Goals as goal

pub returns : goal.returns
returns c = threads_law c.mode_given-one.result c.count_of-steps.result (option_map (λ w. w.now) c.args.mode) (option_map (λ w. w.now) c.args.turns)
    c.mode_given-one.ensures c.count_of-steps.ensures c.threads_by.result c.threads_by.ensures
