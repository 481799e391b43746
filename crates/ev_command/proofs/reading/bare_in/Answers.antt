use Rattle.std.proofs.Common.{map}
use Rattle.clap.specs.Words.{app_of, found_of, rows_of}
use Rattle.ev_command.proofs.RunLaws.{bare_none, bare_some, known_none, known_some}
use Rattle.ev_command.proofs.reading.bare_in.Goals as goal

pub returns-in-Ok-Some : goal.returns-in-Ok-Some
returns-in-Ok-Some c = bare_some (app_of c.bare.result) c.bare.ensures (map (λ w. w.now) c.args.words.now) (rows_of (found_of c.in-Ok-Some.field-0-0))
    (known_some (app_of c.bare.result) (map (λ w. w.now) c.args.words.now) c.in-Ok-Some.field-0 c.in-Ok-Some.field-0-0 c.in-Ok-Some.field-0-is
    c.in-Ok-Some.ensures) c.args.command c.requires

pub returns-in-Ok-None : goal.returns-in-Ok-None
returns-in-Ok-None c = bare_none (app_of c.bare.result) c.bare.ensures (map (λ w. w.now) c.args.words.now)
    (known_none (app_of c.bare.result) (map (λ w. w.now) c.args.words.now) c.in-Ok-None.field-0 c.in-Ok-None.field-0-is c.in-Ok-None.ensures) c.args.command
    c.requires
