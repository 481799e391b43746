use Rattle.std.proofs.Common.{◌∙◌, codes, map, option_map}
use Rattle.clap.specs.Words.{app_of, found_of, rows_of}
use Rattle.clap.proofs.WalkLemmas.{first_value-rows}
use Rattle.ev_command.proofs.PairLaws.{gen_none, gen_some}
use Rattle.ev_command.proofs.RunLaws.{known_none, known_some}
use Rattle.ev_command.proofs.reading.gen_in.Goals as goal

pub returns-in-Ok-Some : goal.returns-in-Ok-Some
returns-in-Ok-Some c =
    let found = found_of c.in-Ok-Some.matches in
    gen_some (app_of c.in-Ok.command) c.in-Ok.ensures (map (λ w. w.now) c.args.words.now) (rows_of found)
    (known_some (app_of c.in-Ok.command) (map (λ w. w.now) c.args.words.now) c.in-Ok-Some.field-0 c.in-Ok-Some.matches c.in-Ok-Some.field-0-is
    c.in-Ok-Some.ensures)
    (option_map (λ w. w.now) c.get_str.result) (option_map (λ w. w.now) c.get_str-in-Ok-Some.result)
    (c.get_str.ensures ∙ first_value-rows found (codes "seed")) (c.get_str-in-Ok-Some.ensures ∙ first_value-rows found (codes "count")) c.gen_with.result
    c.gen_with.ensures

pub returns-in-Ok-None : goal.returns-in-Ok-None
returns-in-Ok-None c = gen_none (app_of c.in-Ok.command) c.in-Ok.ensures (map (λ w. w.now) c.args.words.now)
    (known_none (app_of c.in-Ok.command) (map (λ w. w.now) c.args.words.now) c.in-Ok-None.field-0 c.in-Ok-None.field-0-is c.in-Ok-None.ensures)
