use Rattle.std.proofs.Common.{codes, map}
use Rattle.ev_command.proofs.Arms.{asm_arm, check_arm, options_arm, probe_arm}
use Rattle.ev_command.proofs.reading.command_behind.Goals as goal

pub returns-in-run : goal.returns-in-run
returns-in-run c = options_arm (codes "run") c.args.first.now (map (λ w. w.now) c.args.rest.now) c.run_in.result c.in-run.is c.run_in.ensures

pub returns-in-asm : goal.returns-in-asm
returns-in-asm c = asm_arm c.args.first.now (map (λ w. w.now) c.args.rest.now) c.bare_in.result c.in-asm.is c.bare_in.ensures

pub returns-in-check : goal.returns-in-check
returns-in-check c =
    check_arm c.args.first.now (map (λ w. w.now) c.args.rest.now) c.bare_in-in-check.result c.in-check.is c.bare_in-in-check.ensures

pub returns-in-probe : goal.returns-in-probe
returns-in-probe c =
    probe_arm c.args.first.now (map (λ w. w.now) c.args.rest.now) c.bare_in-in-probe.result c.in-probe.is c.bare_in-in-probe.ensures

pub returns-in-gen : goal.returns-in-gen
returns-in-gen c = options_arm (codes "gen") c.args.first.now (map (λ w. w.now) c.args.rest.now) c.gen_in.result c.in-gen.is c.gen_in.ensures

pub returns-in-threads : goal.returns-in-threads
returns-in-threads c =
    options_arm (codes "threads") c.args.first.now (map (λ w. w.now) c.args.rest.now) c.threads_in.result c.in-threads.is c.threads_in.ensures
