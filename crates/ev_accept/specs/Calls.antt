-- Parts of the rule of cross calls. Own.
use Rattle.std.specs.Prelude.{ℕ, Bool, not, ◌&&◌, ◌||◌, ◌==◌, List, take}
use Rattle.std.specs.List.{list_any}
use Rattle.ev_body.specs.declared.body.Body.{Body}
use Rattle.ev_body.specs.declared.body.Part.{Part}
use Rattle.ev_body.specs.declared.key.Side.TheVariants.{User, Kernel}
use Rattle.ev_body.specs.Bodies.{covers}
use Rattle.ev_abstract.specs.Rules.{is_call_handler, in_function, is_take}

-- whether a part is the function of this number
abbrev pub has_function : ℕ → List Part → Bool
has_function func parts = list_any (λ (part : Part). part.func == func) parts

-- whether the `take` of number i isn't the first of the main part of the body that takes calls
abbrev pub is_bad_take : Body → ℕ → Bool
is_bad_take b i = not (is_call_handler b) || in_function b i || list_any is_take (take i b.items)

-- whether the body takes calls, but has no `take` or isn't of both sides
abbrev pub lacks_take : Body → Bool
lacks_take b =
    is_call_handler b && (not (list_any is_take b.items) || not (covers b.side User && covers b.side Kernel))
