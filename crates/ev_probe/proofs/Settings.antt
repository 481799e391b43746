-- One setting after another.
use Rattle.std.proofs.Common.{◌≡◌, ℕ, false, List, [], ◌∷◌, Option, Some, None, Result, Ok, Err, is_some, refl, ap, sym, ◌∙◌}
use Rattle.std.specs.Prelude.{slice_set}
use Rattle.ev_io.specs.declared.cause.Cause.{Cause}
use Rattle.ev_io.specs.Tokens.{Token}
use Rattle.ev_line.specs.Names.{place_from}
use Rattle.ev_line.specs.Operands.{number}
use Rattle.ev_probe.specs.ProbeLine.{Settings, at_equals, given_at, named_setting, placed_setting, setting_names, setting_value, settings_from}

none_is : (o : Option ℕ) → is_some o ≡ false → o ≡ None
none_is None h = refl
none_is (Some x) h = absurd cc

-- a setting whose value is no number
pub bad_number : (given : Settings) (o : Option (Token × Token)) (name value : Token) (place : ℕ) (cause : Cause) → Some (name, value) ≡ o
    → place_from 0 setting_names name ≡ Some place → is_some (given_at given place) ≡ false → number value ≡ Err cause → setting_value given o ≡ Err cause
unfolding setting_value
bad_number given o name value place cause h hp hg hn =
    ap (setting_value given) (sym h) ∙ ap (λ (p : Option ℕ). named_setting given p value) hp
    ∙ ap (λ (p : Option ℕ). placed_setting place p (number value)) (none_is (given_at given place) hg) ∙ ap (placed_setting place None) hn

-- what the tokens behind one give, by what that one gives
abbrev then_from : Settings → List Token → Result (ℕ × ℕ) Cause → Result Settings Cause
then_from given ts r = elim r [
  | Err cause ↦ Err cause
  | Ok e ↦ settings_from (slice_set given e.0 (Some e.1)) ts
]

-- a token's cause is that of all
pub settings_stop : (given : Settings) (t : Token) (ts : List Token) (cause : Cause) → setting_value given (at_equals t) ≡ Err cause
    → settings_from given (t ∷ ts) ≡ Err cause
unfolding settings_from
settings_stop given t ts cause h = ap (then_from given ts) h

-- a token's setting goes to the others
pub settings_step : (given : Settings) (t : Token) (ts : List Token) (place n : ℕ) → setting_value given (at_equals t) ≡ Ok (place, n)
    → settings_from given (t ∷ ts) ≡ settings_from (slice_set given place (Some n)) ts
unfolding settings_from
settings_step given t ts place n h = ap (then_from given ts) h

pub settings_end : (given : Settings) → settings_from given [] ≡ Ok given
unfolding settings_from
settings_end given = refl
