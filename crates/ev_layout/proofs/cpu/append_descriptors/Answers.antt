use Rattle.std.proofs.Common.{◌≡◌, ◌+◌, sym, subst, arith, true}
use Rattle.ev_listing.specs.AddressMap.{task_selector}
use Rattle.ev_layout.specs.Processors.{are_below}
use Rattle.ev_layout.proofs.Descriptors.{none_below, below_more, below_push, longer, tasks_step}
use Rattle.ev_layout.proofs.cpu.append_descriptors.Goals as goal

pub push-requires-clause-once : goal.push-requires-clause-once
push-requires-clause-once c = none_below c.task_selector.result c.loop-i.gdt
    (subst (λ s. are_below s c.loop-i.gdt ≡ true) (sym c.task_selector.ensures) c.loop-i.invariant.below)

pub loop-i-preserved : goal.loop-i-preserved
loop-i-preserved c = record {
  all = tasks_step c.args.p c.args.tasks.now c.loop-i.i (c.loop-i.i + 1) c.task_selector.result _ _ _ _ c.loop-i-test.true (omega arith)
      c.task_selector.ensures c.push.ensures c.loop-i.invariant.all;
  below = below_push c.args.p c.loop-i.i c.task_selector.result _ c.loop-i.gdt c.push.new.self c.loop-i.invariant.below c.task_selector.ensures c.push.ensures;
  room = let more = longer c.task_selector.result _ c.loop-i.gdt c.push.new.self c.push.ensures in omega (arith, more, c.loop-i.invariant.room);
}

pub returns-clause-later : goal.returns-clause-later
returns-clause-later c = below_more (task_selector c.args.p c.loop-i.i) (task_selector (c.args.p + 1) 0) c.loop-i.gdt
    (omega (arith, c.loop-i.auto.i-end, c.requires.few)) c.loop-i.invariant.below
