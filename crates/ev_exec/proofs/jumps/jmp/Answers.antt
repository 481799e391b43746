use Rattle.std.proofs.Common.{rules, ◌≡◌, ℕ, ap, ◌∙◌}
use Rattle.ev_isa.specs.Word.{displaced}
use Rattle.ev_effect.specs.Effect.{effect, jumped}
use Rattle.ev_exec.specs.Exec.{exec}
use Rattle.ev_exec.specs.After.{after, jump_effect, task_at}
use Rattle.ev_exec.proofs.jumps.jmp.Goals as goal

pub returns : goal.returns
unfolding exec effect
returns c = λ m.
    let e : displaced c.args.next c.args.n ≡ c.displaced.result = search rules in
    ap (λ (a : ℕ). after c.args.cpu.now m (jump_effect c.args.cpu.now m (jumped (task_at c.args.cpu.now c.args.next) a))) e
    ∙ c.jump.ensures m
