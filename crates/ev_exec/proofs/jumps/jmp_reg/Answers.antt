use Rattle.std.proofs.Common.{ℕ, sym, ap, ◌∙◌}
use Rattle.ev_effect.specs.Effect.{effect, jumped}
use Rattle.ev_exec.specs.Exec.{exec}
use Rattle.ev_exec.specs.After.{after, jump_effect, task_at}
use Rattle.ev_exec.proofs.jumps.jmp_reg.Goals as goal

pub returns : goal.returns
unfolding exec effect
returns c = λ m.
    ap (λ (a : ℕ). after c.args.cpu.now m (jump_effect c.args.cpu.now m (jumped (task_at c.args.cpu.now c.args.next) a))) (sym c.reg-to.ensures)
    ∙ c.jump.ensures m
