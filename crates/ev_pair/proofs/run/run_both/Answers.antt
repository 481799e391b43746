use Rattle.ev_isa.specs.declared.mode.Mode.TheVariants.{Idt, Fred}
use Rattle.ev_pair.proofs.Opened.{few_processors, lines_within, no_steps}
use Rattle.ev_pair.proofs.run.run_both.Goals as goal

pub put_both-requires-clause-idt_processors : goal.put_both-requires-clause-idt_processors
put_both-requires-clause-idt_processors g c = few_processors Idt c.args.accepted.now.image c.in-Ok.idt c.in-Ok.ensures

pub put_both-requires-clause-idt_within : goal.put_both-requires-clause-idt_within
put_both-requires-clause-idt_within g c =
    lines_within Idt c.args.accepted.now.image c.in-Ok.idt c.in-Ok.ensures c.args.script.now c.requires.script

pub put_both-requires-clause-idt_count : goal.put_both-requires-clause-idt_count
put_both-requires-clause-idt_count g c = no_steps Idt c.args.accepted.now.image c.in-Ok.idt c.in-Ok.ensures

pub put_both-requires-clause-fred_processors : goal.put_both-requires-clause-fred_processors
put_both-requires-clause-fred_processors g c = few_processors Fred c.args.accepted.now.image c.in-Ok-open.fred c.in-Ok-open.ensures

pub put_both-requires-clause-fred_within : goal.put_both-requires-clause-fred_within
put_both-requires-clause-fred_within g c =
    lines_within Fred c.args.accepted.now.image c.in-Ok-open.fred c.in-Ok-open.ensures c.args.script.now c.requires.script

pub put_both-requires-clause-fred_count : goal.put_both-requires-clause-fred_count
put_both-requires-clause-fred_count g c = no_steps Fred c.args.accepted.now.image c.in-Ok-open.fred c.in-Ok-open.ensures
