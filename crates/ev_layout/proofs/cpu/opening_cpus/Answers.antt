use Rattle.std.proofs.Common.{[]}
use Rattle.ev_concrete.specs.Opening.{opening_cpu}
use Rattle.ev_layout.proofs.Numbered.{map_more}
use Rattle.ev_layout.proofs.cpu.opening_cpus.Goals as goal

pub loop-p-preserved : goal.loop-p-preserved
loop-p-preserved c = map_more (opening_cpu c.args.mode c.args.image.now) c.loop-p.p c.opening_cpu.result [] c.loop-p.cpus c.push.new.self c.loop-p.invariant
    c.opening_cpu.ensures c.in_ok-push.ensures.ok
