use Rattle.ev_mem.specs.Mapped.{memory}
use Rattle.ev_probe.proofs.Filling.{stacks_put, other_stacks}
use Rattle.ev_probe.proofs.memory.fill_stacks.Goals as goal

pub returns-clause-stacks : goal.returns-clause-stacks
returns-clause-stacks c =
    stacks_put (memory c.args.mem.now).words (memory c.put.new.mem).words (memory c.put-2.new.mem).words (memory c.put-3.new.mem).words _ _ _
    c.put.ensures.words c.put-2.ensures.words c.put-3.ensures.words c.stack_top.ensures c.stack_top-2.ensures c.stack_top-3.ensures

pub returns-clause-others : goal.returns-clause-others
returns-clause-others c a h =
    other_stacks (memory c.args.mem.now).words (memory c.put.new.mem).words (memory c.put-2.new.mem).words (memory c.put-3.new.mem).words _ _ _
    c.put.ensures.words c.put-2.ensures.words c.put-3.ensures.words a h
