use Rattle.std.proofs.Common.{sym}
use Rattle.std.proofs.lemmas.Str.{IsUtf8-from_ascii}
use Rattle.ev_line.proofs.NameLaws.{name_is_ascii, name_is_short}
use Rattle.ev_line.proofs.names.label.Goals as goal

pub new-requires : goal.new-requires
new-requires c = rw c.in-Ok.ensures.cases.0 (name_is_short c.args.t.now (sym c.if-not-is_good_name.ensures))

pub returns-in-Err : goal.returns-in-Err
returns-in-Err c = absurd (c.in-Err.ensures.cases.0 (IsUtf8-from_ascii _ (name_is_ascii c.args.t.now (sym c.if-not-is_good_name.ensures))))
