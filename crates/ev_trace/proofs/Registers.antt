-- The words of registers, one more at the end.
use Rattle.std.proofs.Common.{◌≡◌, ℕ, zero, suc, ◌+◌, ◌<◌, ◌==◌, if◌then◌else◌, List, [], ◌∷◌, ◌++◌, length, take, get_or, sym, ap, ◌∙◌, append_assoc, append-nil, add-one, arith}
use Rattle.std.proofs.lemmas.List.Concat.{flat_map-append}
use Rattle.ev_abstract.specs.EntryText.{Text, hex, register_words}
use Rattle.ev_trace.specs.Spaced.{spaced}

-- the words of one register
abbrev pub register_pair : Text → ℕ → List Text
register_pair name value = if value == 0 then [] else name ∷ hex value ∷ []

register_words_more : (i : ℕ) (ns : List Text) (vs : List ℕ) → i < length ns → i < length vs
    → register_words (take (suc i) ns) (take (suc i) vs) ≡ register_words (take i ns) (take i vs) ++ register_pair (get_or ns i []) (get_or vs i 0)
register_words_more zero (n ∷ ns) (v ∷ vs) a b = append-nil (register_pair n v)
register_words_more (suc i) (n ∷ ns) (v ∷ vs) a b =
    ap (λ x. register_pair n v ++ x) (register_words_more i ns vs (omega arith) (omega arith))
    ∙ sym (append_assoc (register_pair n v) (register_words (take i ns) (take i vs)) (register_pair (get_or ns i []) (get_or vs i 0)))
register_words_more i [] vs a b = absurd (omega arith)
register_words_more i (n ∷ ns) [] a b = absurd (omega arith)

spaced_more : (front : Text) (i : ℕ) (ns : List Text) (vs : List ℕ) → i < length ns → i < length vs
    → (front ++ spaced (register_words (take i ns) (take i vs))) ++ spaced (register_pair (get_or ns i []) (get_or vs i 0))
    ≡ front ++ spaced (register_words (take (i + 1) ns) (take (i + 1) vs))
spaced_more front i ns vs a b =
    let before : List Text = register_words (take i ns) (take i vs) in
    let pair : List Text = register_pair (get_or ns i []) (get_or vs i 0) in
    rw add-one (append_assoc front (spaced before) (spaced pair)
    ∙ ap (λ x. front ++ x) (sym (flat_map-append {X = Text} (λ w. 32 ∷ w) before pair) ∙ ap spaced (sym (register_words_more i ns vs a b))))

-- text `here` with the registers below i behind `front`, and then `there` with register i too
pub one_more_register : (front here there name : Text) (i : ℕ) (ns : List Text) (vs : List ℕ) → i < length ns → i < length vs
    → here ≡ front ++ spaced (register_words (take i ns) (take i vs)) → name ≡ get_or ns i []
    → there ≡ here ++ spaced (register_pair name (get_or vs i 0))
    → there ≡ front ++ spaced (register_words (take (i + 1) ns) (take (i + 1) vs))
one_more_register front here there name i ns vs a b h n t =
    t ∙ (λ j. h j ++ spaced (register_pair (n j) (get_or vs i 0))) ∙ spaced_more front i ns vs a b
