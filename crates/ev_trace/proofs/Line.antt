-- A line as its first word and the others behind it.
use Rattle.std.proofs.Common.{◌≡◌, List, [], ◌∷◌, ◌++◌, sym, ap, append-nil}
use Rattle.ev_abstract.specs.EntryText.{Text, words, line_text}
use Rattle.ev_trace.specs.Spaced.{spaced}

pub words-cons : (w : Text) (ws : List Text) → words (w ∷ ws) ≡ w ++ spaced ws
words-cons w [] = sym (append-nil w)
words-cons w (v ∷ ws) = ap (λ x. w ++ 32 ∷ x) (words-cons v ws)

pub line_is : (mode : Text) (ws : List Text) (start body whole : Text) → start ≡ mode → body ≡ start ++ spaced ws → whole ≡ body ++ 10 ∷ []
    → whole ≡ line_text mode ws
line_is mode ws start body whole s b w = rw (words-cons mode ws) cc
