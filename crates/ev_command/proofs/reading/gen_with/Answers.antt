use Rattle.std.proofs.Common.{option_map}
use Rattle.ev_command.proofs.PairLaws.{gen_law}
use Rattle.ev_command.proofs.reading.gen_with.Goals as goal

pub returns : goal.returns
returns c = gen_law c.number_of-number.result c.count_of-lines.result (option_map (λ w. w.now) c.args.seed) (option_map (λ w. w.now) c.args.count)
    c.number_of-number.ensures c.count_of-lines.ensures c.gen_by.result c.gen_by.ensures
