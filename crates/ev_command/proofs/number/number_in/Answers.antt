use Rattle.std.proofs.Common.{◌<◌, ◌^◌, rules, arith}
use Rattle.ev_command.proofs.PairLaws.{number_none, number_other, number_some}
use Rattle.ev_command.proofs.number.number_in.Goals as goal

pub returns-then-eq : goal.returns-then-eq
returns-then-eq c =
    let small : c.in-Ok.number < 2 ^ 64 = omega arith in
    number_some c.args.text.now c.format-shown.result.now c.in-Ok.number c.parse.result c.in-Ok.is c.parse.ensures.value.0 c.format-shown.ensures.text small
    (search rules)

pub returns-else-eq : goal.returns-else-eq
returns-else-eq c = number_other c.args.text.now c.format-shown.result.now c.in-Ok.number c.parse.result c.in-Ok.is c.parse.ensures.value.0
    c.format-shown.ensures.text (search rules)

pub returns-in-Err : goal.returns-in-Err
returns-in-Err c = number_none c.args.text.now c.parse.result c.in-Err.field-0 c.in-Err.is c.parse.ensures.value.0
