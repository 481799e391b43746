use Rattle.std.proofs.Common.{rules, ◌≡◌, ℕ, Bool, if◌then◌else◌, Ok, ap, ◌∙◌}
use Rattle.ev_isa.specs.Word.{displaced}
use Rattle.ev_isa.specs.Flags.{holds, flags_of}
use Rattle.ev_effect.specs.Effect.{effect, jumped}
use Rattle.ev_exec.specs.Exec.{exec}
use Rattle.ev_exec.specs.After.{after, jump_effect, task_at}
use Rattle.ev_exec.proofs.jumps.jcc.Goals as goal

pub returns : goal.returns
unfolding exec effect
returns c = λ m.
    let h : holds c.args.c (flags_of c.args.cpu.now.flags).status ≡ c.is_taken-taken.result = search rules in
    let e : displaced c.args.next c.args.n ≡ c.displaced-to.result = search rules in
    ap (λ (b : Bool). after c.args.cpu.now m
    (jump_effect c.args.cpu.now m (if b then jumped (task_at c.args.cpu.now c.args.next) (displaced c.args.next c.args.n) else
    Ok (task_at c.args.cpu.now c.args.next)))) h
    ∙ ap (λ (a : ℕ). after c.args.cpu.now m
    (jump_effect c.args.cpu.now m (if c.is_taken-taken.result then jumped (task_at c.args.cpu.now c.args.next) a else
    Ok (task_at c.args.cpu.now c.args.next)))) e
    ∙ c.jump_if.ensures m
