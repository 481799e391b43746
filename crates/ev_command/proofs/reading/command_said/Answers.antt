use Rattle.std.proofs.Common.{◌≡◌, List, ◌∷◌, map, ap, Bor, ℕ}
use Rattle.ev_command.proofs.Arms.{all_words}
use Rattle.ev_command.proofs.reading.command_said.Goals as goal

pub returns-in-Some : goal.returns-in-Some
returns-in-Some c =
    let words_are : map (λ w. w.now) c.args.words.now ≡ c.in-Some.first.now.now ∷ map (λ w. w.now) c.in-Some.rest.now
    = ap (λ (ws : List (Bor (List ℕ))). map (λ w. w.now) ws) c.in-Some.ensures.cases.0 in
    all_words c.in-Some.first.now.now (map (λ w. w.now) c.in-Some.rest.now) (map (λ w. w.now) c.args.words.now) words_are c.command_behind.result
    c.command_behind.ensures
