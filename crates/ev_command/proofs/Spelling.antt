-- What the automaton reads is options as they are written, and all of them.
use Rattle.std.proofs.Common.{◌≡◌, ◌∙◌, ℕ, ◌+◌, Bool, true, false, List, [], ◌∷◌, ◌++◌, map, take, drop, eqb-true, Option, Some, None, refl, sym, ap, ap₂, suc, codes, append-nil, append_assoc, true≢false, arith}
use Rattle.std.specs.Prelude.{if◌then◌else◌, ◌||◌, ◌==◌, flat_map, option_and_then}
use Rattle.std.specs.List.{position_or_len, before_first, after_first}
use Rattle.clap.specs.Lexer.{long_of, long_of_rest, strip_byte, has_byte}
use Rattle.ev_command.specs.Apps.{Table}
use Rattle.ev_command.specs.Uses.{Text, Given, Use, flag, apart, joined, lookup, words_of, given_by}
use Rattle.ev_command.proofs.Automaton.{After, Phase, State, by_value, clean, has, held, is_value, opened, run, settle, step, step_by, then_run, wanting}

-- ---- words

abbrev pub word_by : Text → Option Text → Text
word_by n None = codes "--" ++ n
word_by n (Some v) = codes "--" ++ n ++ codes "=" ++ v

-- ---- soundness: the words are those of uses

abbrev pub Ends : List Given → List Text → List Given → Type 0
Ends g ws out = (us : List Use) × (ws ≡ flat_map words_of us) × (out ≡ g ++ map given_by us)

abbrev pub Spelled : List Given → Phase → List Text → List Given → Type 0
Spelled gs clean ws out = Ends gs ws out
Spelled gs (held n v) ws out = Ends (gs ++ (n, Some v) ∷ []) ws out
Spelled gs (wanting n) ws out = (v : Text) × (rest : List Text) × (ws ≡ v ∷ rest) × Ends (gs ++ (n, Some v) ∷ []) rest out

settle_spelled : (gs : List Given) (ph : Phase) (ws : List Text) (out : List Given) → After (settle gs ph) (λ g. Ends g ws out → Spelled gs ph ws out)
settle_spelled gs clean ws out = λ e. e
settle_spelled gs (held n v) ws out = go (has n gs)
  where
    go : (b : Bool) → After {X = List Given} (if b then None else Some (gs ++ (n, Some v) ∷ [])) (λ g. Ends g ws out → Ends (gs ++ (n, Some v) ∷ []) ws out)
    go true = tt
    go false = λ e. e
settle_spelled gs (wanting n) ws out = tt

one_word : (g : List Given) (u : Use) (w : Text) (ws : List Text) (out : List Given) → words_of u ≡ w ∷ [] → Ends (g ++ given_by u ∷ []) ws out
    → Ends g (w ∷ ws) out
one_word g u w ws out e (us, h, k) = (
  u ∷ us,
  ap (λ xs. w ∷ xs) h ∙ ap (λ xs. xs ++ flat_map words_of us) (sym e),
  k ∙ append_assoc g (given_by u ∷ [])
      (map given_by us),
)

two_words : (g : List Given) (n : Text) (w : Text) (ws : List Text) (out : List Given) → w ≡ codes "--" ++ n
    → (v : Text) → (rest : List Text) → ws ≡ v ∷ rest → Ends (g ++ (n, Some v) ∷ []) rest out → Ends g (w ∷ ws) out
two_words g n w ws out e v rest f (us, h, k) =
    (apart n v ∷ us, ap₂ (λ (x : Text) (xs : List Text). x ∷ xs) e (f ∙ ap (λ xs. v ∷ xs) h), k ∙ append_assoc g ((n, Some v) ∷ []) (map given_by us))

opened_spelled : (gs : List Given) (ph : Phase) (w : Text) (ws : List Text) (out : List Given) (o : Option (List Given)) (n : Text) (v : Option Text)
    (k : Option Bool)
    → After o (λ g. Ends g (w ∷ ws) out → Spelled gs ph (w ∷ ws) out) → w ≡ word_by n v
    → After (opened o n v k) (λ s. Spelled s.0 s.1 ws out → Spelled gs ph (w ∷ ws) out)
opened_spelled gs ph w ws out None n v None a e = tt
opened_spelled gs ph w ws out (Some g) n v None a e = tt
opened_spelled gs ph w ws out None n v (Some k) a e = tt
opened_spelled gs ph w ws out (Some g) n None (Some true) a e = λ (v, rest, f, h). a (two_words g n w ws out e v rest f h)
opened_spelled gs ph w ws out (Some g) n (Some x) (Some true) a e = go (has n g)
  where
    go : (b : Bool) → After {X = State} (if b then None else Some (g ++ (n, Some x) ∷ [], clean)) (λ s. Spelled s.0 s.1 ws out → Spelled gs ph (w ∷ ws) out)
    go true = tt
    go false = λ h. a (one_word g (joined n x) w ws out (ap (λ (y : Text). y ∷ []) (sym e)) h)
opened_spelled gs ph w ws out (Some g) n None (Some false) a e = go (has n g)
  where
    go : (b : Bool) → After {X = State} (if b then None else Some (g ++ (n, None) ∷ [], clean)) (λ s. Spelled s.0 s.1 ws out → Spelled gs ph (w ∷ ws) out)
    go true = tt
    go false = λ h. a (one_word g (flag n) w ws out (ap (λ (y : Text). y ∷ []) (sym e)) h)
opened_spelled gs ph w ws out (Some g) n (Some x) (Some false) a e = tt

value_spelled : (gs : List Given) (ph : Phase) (w : Text) (ws : List Text) (out : List Given) (b : Bool) → After (by_value gs ph w b)
    (λ s. Spelled s.0 s.1 ws out → Spelled gs ph (w ∷ ws) out)
value_spelled gs clean w ws out b = tt
value_spelled gs (held n v) w ws out b = tt
value_spelled gs (wanting n) w ws out true = λ h. (w, ws, refl, h)
value_spelled gs (wanting n) w ws out false = tt

take_front : (k x : ℕ) (xs : Text) → take (1 + k) (x ∷ xs) ≡ x ∷ take k xs
take_front k x xs = let e : 1 + k ≡ suc k = omega arith in rw e refl

drop_front : (k x : ℕ) (xs : Text) → drop (1 + k + 1) (x ∷ xs) ≡ drop (k + 1) xs
drop_front k x xs = let e : 1 + k + 1 ≡ suc (k + 1) = omega arith in rw e refl

-- a text up to its first `=`, and what follows it
join_cut : (t : Text) → has_byte 61 t ≡ true → before_first (λ x. x == 61) t ++ codes "=" ++ after_first (λ x. x == 61) t ≡ t
join_cut [] h = absurd (true≢false (sym h))
join_cut (x ∷ xs) h = go (x == 61) refl h (join_cut xs)
  where
    go : (b : Bool) → (x == 61) ≡ b → (b || has_byte 61 xs) ≡ true
        → (has_byte 61 xs ≡ true → before_first (λ x. x == 61) xs ++ codes "=" ++ after_first (λ x. x == 61) xs ≡ xs)
        → before_first (λ x. x == 61) (x ∷ xs) ++ codes "=" ++ after_first (λ x. x == 61) (x ∷ xs) ≡ x ∷ xs
    go true e f more = let is : x ≡ 61 = eqb-true x 61 e in rw e (ap (λ y. y ∷ xs) (sym is))
    go false e f more = rw (e, take_front (position_or_len (λ y. y == 61) xs) x xs, drop_front (position_or_len (λ y. y == 61) xs) x xs)
        (ap (λ ys. x ∷ ys) (more f))

no_cut : (t : Text) → has_byte 61 t ≡ false → before_first (λ x. x == 61) t ≡ t
no_cut [] h = refl
no_cut (x ∷ xs) h = go (x == 61) refl h (no_cut xs)
  where
    go : (b : Bool) → (x == 61) ≡ b → (b || has_byte 61 xs) ≡ false → (has_byte 61 xs ≡ false → before_first (λ x. x == 61) xs ≡ xs)
        → before_first (λ x. x == 61) (x ∷ xs) ≡ x ∷ xs
    go true e f more = absurd (true≢false f)
    go false e f more = rw (e, take_front (position_or_len (λ y. y == 61) xs) x xs) (ap (λ ys. x ∷ ys) (more f))

rest_is : (t : Text) → After (long_of_rest t) (λ p. codes "--" ++ t ≡ word_by p.0 p.1)
rest_is [] = tt
rest_is (x ∷ xs) = go (has_byte 61 (x ∷ xs)) refl
  where
    go : (b : Bool) → has_byte 61 (x ∷ xs) ≡ b
        → codes "--" ++ (x ∷ xs) ≡ word_by (before_first (λ y. y == 61) (x ∷ xs)) (if b then Some (after_first (λ y. y == 61) (x ∷ xs)) else None)
    go true e = ap (λ t. codes "--" ++ t) (sym (join_cut (x ∷ xs) e))
    go false e = ap (λ t. codes "--" ++ t) (sym (no_cut (x ∷ xs) e))

strip_is : (c : ℕ) (w : Text) → After (strip_byte c w) (λ r. w ≡ c ∷ r)
strip_is c [] = tt
strip_is c (x ∷ xs) = go (x == c) refl
  where
    go : (b : Bool) → (x == c) ≡ b → After (if b then Some xs else None) (λ r. x ∷ xs ≡ c ∷ r)
    go true e = ap (λ y. y ∷ xs) (eqb-true x c e)
    go false e = tt

pub long_is : (w : Text) → After (long_of w) (λ p. w ≡ word_by p.0 p.1)
long_is w = first (strip_byte 45 w) (strip_is 45 w)
  where
    second : (r : Text) → w ≡ 45 ∷ r → (o : Option Text) → After o (λ s. r ≡ 45 ∷ s) → After (option_and_then long_of_rest o) (λ p. w ≡ word_by p.0 p.1)
    second r e None f = tt
    second r e (Some s) f = moved (long_of_rest s) (rest_is s) (e ∙ ap (λ xs. 45 ∷ xs) f)
      where
        moved : (o : Option (Text × Option Text)) → After o (λ p. codes "--" ++ s ≡ word_by p.0 p.1) → w ≡ codes "--" ++ s
            → After o (λ p. w ≡ word_by p.0 p.1)
        moved None a k = tt
        moved (Some p) a k = k ∙ a

    first : (o : Option Text) → After o (λ r. w ≡ 45 ∷ r) → After (option_and_then long_of_rest (option_and_then (strip_byte 45) o))
        (λ p. w ≡ word_by p.0 p.1)
    first None e = tt
    first (Some r) e = second r e (strip_byte 45 r) (strip_is 45 r)

step_spelled : (t : Table) (gs : List Given) (ph : Phase) (w : Text) (ws : List Text) (out : List Given) → After (step t gs ph w)
    (λ s. Spelled s.0 s.1 ws out → Spelled gs ph (w ∷ ws) out)
step_spelled t gs ph w ws out = go (long_of w) (long_is w)
  where
    go : (lw : Option (Text × Option Text)) → After lw (λ p. w ≡ word_by p.0 p.1) → After (step_by t gs ph w lw)
        (λ s. Spelled s.0 s.1 ws out → Spelled gs ph (w ∷ ws) out)
    go None e = value_spelled gs ph w ws out (is_value w)
    go (Some p) e = opened_spelled gs ph w ws out (settle gs ph) p.0 p.1 (lookup p.0 t) (settle_spelled gs ph (w ∷ ws) out) e

pub spelled : (t : Table) (ws : List Text) (gs : List Given) (ph : Phase) → After (run t ws gs ph) (λ out. Spelled gs ph ws out)
spelled t [] gs clean = ([], refl, sym (append-nil gs))
spelled t [] gs (wanting n) = tt
spelled t [] gs (held n v) = go (has n gs)
  where
    go : (b : Bool) → After {X = List Given} (if b then None else Some (gs ++ (n, Some v) ∷ [])) (λ out. Ends (gs ++ (n, Some v) ∷ []) [] out)
    go true = tt
    go false = ([], refl, sym (append-nil (gs ++ (n, Some v) ∷ [])))
spelled t (w ∷ ws) gs ph = go (step t gs ph w) (λ out. step_spelled t gs ph w ws out) (λ g p. spelled t ws g p)
  where
    go : (o : Option State) → ((out : List Given) → After o (λ s. Spelled s.0 s.1 ws out → Spelled gs ph (w ∷ ws) out))
        → ((g : List Given) (p : Phase) → After (run t ws g p) (λ out. Spelled g p ws out))
        → After (then_run o (λ s. run t ws s.0 s.1)) (λ out. Spelled gs ph (w ∷ ws) out)
    go None a more = tt
    go (Some s) a more = moved (run t ws s.0 s.1) (more s.0 s.1)
      where
        moved : (r : Option (List Given)) → After r (λ out. Spelled s.0 s.1 ws out) → After r (λ out. Spelled gs ph (w ∷ ws) out)
        moved None b = tt
        moved (Some out) b = a out b
