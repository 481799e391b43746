use Rattle.std.proofs.Common.{◌≡◌, drop, map}
use Rattle.ev_probe.specs.ProbeLine.{no_settings, settings_from}
use Rattle.ev_probe.proofs.grammar.settings.Given as goal

abbrev pub invariant-loop-t : goal.invariant-loop-t
invariant-loop-t l = settings_from no_settings (map (λ t. t.now) l.tokens) ≡ settings_from l.given (map (λ t. t.now) (drop l.t-index l.tokens))
