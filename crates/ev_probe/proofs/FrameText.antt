-- The line of a frame, word by word.
use Rattle.std.proofs.Common.{◌≡◌, ℕ, List, [], ◌∷◌, ◌++◌, map, codes, sym, ap, ◌∙◌, append_assoc}
use Rattle.ev_abstract.specs.EntryText.{Text, hex, words}
use Rattle.ev_trace.specs.Spaced.{spaced}
use Rattle.ev_trace.proofs.Line.{words-cons}
use Rattle.ev_probe.specs.Probe.{line}

-- what the word, the address, the words and the line feed make
pub frame_is : (start word address body whole : Text) (a : ℕ) (ws : List ℕ) → word ≡ start ++ codes "frame" → address ≡ word ++ 32 ∷ hex a
    → body ≡ address ++ spaced (map hex ws) → whole ≡ body ++ 10 ∷ [] → whole ≡ start ++ line (codes "frame" ∷ hex a ∷ map hex ws)
frame_is start word address body whole a ws hw ha hb h =
    h ∙ ap (λ (x : Text). x ++ 10 ∷ []) (hb ∙ ap (λ (x : Text). x ++ spaced (map hex ws)) (ha ∙ ap (λ (x : Text). x ++ 32 ∷ hex a) hw))
    ∙ joined
  where
    joined : ((((start ++ codes "frame") ++ 32 ∷ hex a) ++ spaced (map hex ws)) ++ 10 ∷ []) ≡ start ++ line (codes "frame" ∷ hex a ∷ map hex ws)
    joined =
        ap (λ (x : Text). x ++ 10 ∷ [])
        (append_assoc (start ++ codes "frame") (32 ∷ hex a) (spaced (map hex ws))
        ∙ append_assoc start (codes "frame") ((32 ∷ hex a) ++ spaced (map hex ws))
        ∙ ap (λ (x : Text). start ++ x) (sym (words-cons (codes "frame") (hex a ∷ map hex ws))))
        ∙ append_assoc start (words (codes "frame" ∷ hex a ∷ map hex ws)) (10 ∷ [])
