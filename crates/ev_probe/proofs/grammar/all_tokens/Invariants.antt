use Rattle.std.proofs.Common.{◌≡◌, map, not}
use Rattle.std.specs.List.{filter}
use Rattle.ev_io.specs.Tokens.{is_empty}
use Rattle.ev_probe.proofs.grammar.all_tokens.Given as goal

abbrev pub invariant-loop-token : goal.invariant-loop-token
invariant-loop-token l = map (λ t. t.now) l.tokens.items ≡ filter (λ t. not (is_empty t)) (map (λ t. t.now) l.yielded)
