use Rattle.ev_pair.proofs.Opened.{few_processors, lines_within, no_steps}
use Rattle.ev_pair.proofs.run.run_one.Goals as goal

pub put_one-requires-clause-processors : goal.put_one-requires-clause-processors
put_one-requires-clause-processors g c = few_processors c.args.mode c.args.accepted.now.image c.in-Ok.machine c.in-Ok.ensures

pub put_one-requires-clause-within : goal.put_one-requires-clause-within
put_one-requires-clause-within g c =
    lines_within c.args.mode c.args.accepted.now.image c.in-Ok.machine c.in-Ok.ensures c.args.script.now c.requires.script

pub put_one-requires-clause-count : goal.put_one-requires-clause-count
put_one-requires-clause-count g c = no_steps c.args.mode c.args.accepted.now.image c.in-Ok.machine c.in-Ok.ensures
