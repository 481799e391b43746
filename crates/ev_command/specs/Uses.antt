-- Options, and the words that give them. Own.
use Rattle.std.specs.Prelude.{◌≡◌, ℕ, List, [], ◌∷◌, ◌++◌, Option, Some, None, if◌then◌else◌, codes}
use Rattle.std.specs.Str.{bytes_eq}

-- a word, as its bytes
abbrev pub Text : Type 0
Text = List ℕ

-- an option by its name, with its value where it takes one
abbrev pub Given : Type 0
Given = Text × Option Text

-- an option as it is written: `--name`, `--name value` or `--name=value`
pub data Use : Type 0 where
  flag : Text → Use
  apart : Text → Text → Use
  joined : Text → Text → Use

-- the words of a use
abbrev pub words_of : Use → List Text
words_of (flag name) = (codes "--" ++ name) ∷ []
words_of (apart name value) = (codes "--" ++ name) ∷ value ∷ []
words_of (joined name value) = (codes "--" ++ name ++ codes "=" ++ value) ∷ []

-- the option that a use gives
abbrev pub given_by : Use → Given
given_by (flag name) = (name, None)
given_by (apart name value) = (name, Some value)
given_by (joined name value) = (name, Some value)

-- what the list has under a name
abbrev pub lookup : {X : Type 0} → Text → List (Text × X) → Option X
lookup name [] = None
lookup name (x ∷ xs) = if bytes_eq x.0 name then Some x.1 else lookup name xs

-- no name stands twice
abbrev pub Once : List Given → Type 0
Once [] = Unit {0}
Once (x ∷ xs) = (lookup x.0 xs ≡ None) × Once xs

-- the two have the same options, in any order, each once
abbrev pub AreOptions : List Given → List Given → Type 0
AreOptions given asked = Once given × ((name : Text) → lookup name given ≡ lookup name asked)
