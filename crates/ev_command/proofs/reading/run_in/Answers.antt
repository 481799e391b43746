use Rattle.std.proofs.Common.{◌∙◌, sym, codes, map, option_map}
use Rattle.clap.specs.Words.{app_of, found_of, rows_of}
use Rattle.clap.proofs.WalkLemmas.{first_value-rows, one_text-rows}
use Rattle.ev_command.proofs.RunLaws.{known_none, known_some, run_none, run_some}
use Rattle.ev_command.proofs.reading.run_in.Goals as goal

pub returns-in-Ok-Some : goal.returns-in-Ok-Some
returns-in-Ok-Some c =
    let found = found_of c.in-Ok-Some.matches in
    let law = run_some (app_of c.in-Ok.command) c.in-Ok.ensures (map (λ w. w.now) c.args.words.now) (rows_of found)
    (known_some (app_of c.in-Ok.command) (map (λ w. w.now) c.args.words.now) c.in-Ok-Some.field-0 c.in-Ok-Some.matches c.in-Ok-Some.field-0-is
    c.in-Ok-Some.ensures)
    (option_map (λ w. w.now) c.get_str.result) c.get_flag.result (c.get_str.ensures ∙ first_value-rows found (codes "mode"))
    (λ e. c.get_flag.ensures.value (one_text-rows found (codes "frames") ∙ e)) (λ e. c.get_flag.ensures.other (one_text-rows found (codes "frames") ∙ e)) in
    λ x. (λ h. (law x).0 (sym c.run_with.ensures ∙ h), λ s. c.run_with.ensures ∙ (law x).1 s)

pub returns-in-Ok-None : goal.returns-in-Ok-None
returns-in-Ok-None c = run_none (app_of c.in-Ok.command) c.in-Ok.ensures (map (λ w. w.now) c.args.words.now)
    (known_none (app_of c.in-Ok.command) (map (λ w. w.now) c.args.words.now) c.in-Ok-None.field-0 c.in-Ok-None.field-0-is c.in-Ok-None.ensures)
