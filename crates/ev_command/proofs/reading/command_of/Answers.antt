use Rattle.std.proofs.Common.{sym, ◌∙◌, map, subst, IfOk}
use Rattle.ev_command.specs.Commands.{IsExactly, Says}
use Rattle.ev_command.proofs.Arms.{built, unbuilt, unsaid}
use Rattle.ev_command.proofs.reading.command_of.Goals as goal

pub returns-then-is_built : goal.returns-then-is_built
returns-then-is_built c =
    let law = subst (λ r. IfOk r (IsExactly (Says (map (λ w. w.now) c.args.words.now)))) c.in_ok-said.was c.command_said.ensures in
    built (Says (map (λ w. w.now) c.args.words.now)) c.in_ok-said.said law c.in-Some.command c.in-Some.is (sym c.is_built.ensures ∙ c.if-is_built.true)

pub returns-else-is_built : goal.returns-else-is_built
returns-else-is_built c =
    let law = subst (λ r. IfOk r (IsExactly (Says (map (λ w. w.now) c.args.words.now)))) c.in_ok-said.was c.command_said.ensures in
    unbuilt (Says (map (λ w. w.now) c.args.words.now)) c.in_ok-said.said law c.in-Some.command c.in-Some.is (sym c.is_built.ensures ∙ c.if-is_built.false)

pub returns-in-None : goal.returns-in-None
returns-in-None c =
    let law = subst (λ r. IfOk r (IsExactly (Says (map (λ w. w.now) c.args.words.now)))) c.in_ok-said.was c.command_said.ensures in
    unsaid (Says (map (λ w. w.now) c.args.words.now)) c.in_ok-said.said law c.in-None.is
