-- Options as they are written are read, each once; and what is read of them.
use Rattle.std.proofs.Common.{◌≡◌, ◌∙◌, Bool, true, false, List, [], ◌∷◌, ◌++◌, map, Option, Some, None, refl, sym, ap, subst, codes, is_some, append-nil, append_assoc, true≢false}
use Rattle.std.specs.Prelude.{if◌then◌else◌, ◌&&◌, ◌||◌, flat_map}
use Rattle.std.specs.Str.{bytes_eq}
use Rattle.std.specs.List.{list_any}
use Rattle.std.specs.Borrow.{Bor}
use Rattle.clap.specs.Lexer.{long_of}
use Rattle.clap.specs.Simple.{App, built, is_simple}
use Rattle.clap.specs.Faults.{is_free_app, is_simple_and_free}
use Rattle.ev_command.specs.Apps.{Table, has_dashes}
use Rattle.ev_command.specs.Uses.{Text, Given, Use, flag, apart, joined, lookup, words_of, given_by, Once}
use Rattle.ev_command.proofs.Automaton.{After, IsKnown, Phase, State, by_value, clean, has, held, is_value, opened, run, same, eq_self, settle, step, step_by, then_run, wanting}
use Rattle.ev_command.proofs.Spelling.{word_by}

-- ---- lookups

pub lookup_add : (m n : Text) (x : Option Text) (gs : List Given) → has m gs ≡ false → lookup m (gs ++ (n, x) ∷ []) ≡ (if bytes_eq n m then Some x else None)
lookup_add m n x [] h = refl
lookup_add m n x (g ∷ gs) h = go (bytes_eq g.0 m) h (lookup_add m n x gs)
  where
    go : (b : Bool) → is_some (if b then Some g.1 else lookup m gs) ≡ false
        → (has m gs ≡ false → lookup m (gs ++ (n, x) ∷ []) ≡ (if bytes_eq n m then Some x else None))
        → (if b then Some g.1 else lookup m (gs ++ (n, x) ∷ [])) ≡ (if bytes_eq n m then Some x else None)
    go true f more = absurd (true≢false f)
    go false f more = more f

none_of : (o : Option (Option Text)) → is_some o ≡ false → o ≡ None
none_of None h = refl
none_of (Some x) h = absurd (true≢false h)

pub other_way : (a b : Text) → bytes_eq a b ≡ false → bytes_eq b a ≡ false
other_way a b h = go (bytes_eq b a) refl
  where
    go : (c : Bool) → bytes_eq b a ≡ c → c ≡ false
    go true e = absurd (true≢false (sym (ap (λ x. bytes_eq a x) (same b a e) ∙ eq_self a) ∙ h))
    go false e = refl

-- the options are of the table, each with a value where it takes one
abbrev pub Fits : Table → List Given → Type 0
Fits t [] = Unit {0}
Fits t (g ∷ gs) = (lookup g.0 t ≡ Some (is_some g.1)) × Fits t gs

abbrev pub Good : Table → List Given → Type 0
Good t gs = Once gs × Fits t gs

fits_add : (t : Table) (n : Text) (x : Option Text) (gs : List Given) → Fits t gs → lookup n t ≡ Some (is_some x) → Fits t (gs ++ (n, x) ∷ [])
fits_add t n x [] f k = (k, tt)
fits_add t n x (g ∷ gs) f k = (f.0, fits_add t n x gs f.1 k)

once_add : (n : Text) (x : Option Text) (gs : List Given) → Once gs → has n gs ≡ false → Once (gs ++ (n, x) ∷ [])
once_add n x [] o h = (refl, tt)
once_add n x (g ∷ gs) o h = go (bytes_eq g.0 n) refl h (once_add n x gs o.1)
  where
    go : (b : Bool) → bytes_eq g.0 n ≡ b → is_some (if b then Some g.1 else lookup n gs) ≡ false → (has n gs ≡ false → Once (gs ++ (n, x) ∷ []))
        → (lookup g.0 (gs ++ (n, x) ∷ []) ≡ None) × Once (gs ++ (n, x) ∷ [])
    go true e f more = absurd (true≢false f)
    go false e f more = (
      lookup_add g.0 n x gs (ap is_some o.0) ∙ rw (other_way g.0 n e) refl,
      more f,
    )

-- ---- the automaton keeps this

abbrev pub IsGood : Table → List Given → Phase → Type 0
IsGood t gs ph = Good t gs × IsKnown t ph

add_good : (t : Table) (n : Text) (x : Option Text) (gs : List Given) → Good t gs → lookup n t ≡ Some (is_some x)
    → After (if has n gs then None else Some (gs ++ (n, x) ∷ [])) (λ g. Good t g)
add_good t n x gs g k = go (has n gs) refl
  where
    go : (b : Bool) → has n gs ≡ b → After {X = List Given} (if b then None else Some (gs ++ (n, x) ∷ [])) (λ g. Good t g)
    go true e = tt
    go false e = (once_add n x gs g.0 e, fits_add t n x gs g.1 k)

settle_good : (t : Table) (gs : List Given) (ph : Phase) → IsGood t gs ph → After (settle gs ph) (λ g. Good t g)
settle_good t gs clean g = g.0
settle_good t gs (held n v) g = add_good t n (Some v) gs g.0 g.1
settle_good t gs (wanting n) g = tt

opened_good : (t : Table) (o : Option (List Given)) (n : Text) (v : Option Text) (k : Option Bool) → After o (λ g. Good t g) → lookup n t ≡ k
    → After (opened o n v k) (λ s. IsGood t s.0 s.1)
opened_good t None n v None a e = tt
opened_good t (Some g) n v None a e = tt
opened_good t None n v (Some k) a e = tt
opened_good t (Some g) n None (Some true) a e = (a, e)
opened_good t (Some g) n (Some x) (Some true) a e = go (has n g) (add_good t n (Some x) g a e)
  where
    go : (b : Bool) → After {X = List Given} (if b then None else Some (g ++ (n, Some x) ∷ [])) (λ g. Good t g)
        → After {X = State} (if b then None else Some (g ++ (n, Some x) ∷ [], clean)) (λ s. IsGood t s.0 s.1)
    go true f = tt
    go false f = (f, tt)
opened_good t (Some g) n None (Some false) a e = go (has n g) (add_good t n None g a e)
  where
    go : (b : Bool) → After {X = List Given} (if b then None else Some (g ++ (n, None) ∷ [])) (λ g. Good t g)
        → After {X = State} (if b then None else Some (g ++ (n, None) ∷ [], clean)) (λ s. IsGood t s.0 s.1)
    go true f = tt
    go false f = (f, tt)
opened_good t (Some g) n (Some x) (Some false) a e = tt

value_good : (t : Table) (gs : List Given) (ph : Phase) (w : Text) (b : Bool) → IsGood t gs ph → After (by_value gs ph w b) (λ s. IsGood t s.0 s.1)
value_good t gs clean w b g = tt
value_good t gs (held n v) w b g = tt
value_good t gs (wanting n) w true g = g
value_good t gs (wanting n) w false g = tt

step_good : (t : Table) (gs : List Given) (ph : Phase) (w : Text) → IsGood t gs ph → After (step t gs ph w) (λ s. IsGood t s.0 s.1)
step_good t gs ph w g = go (long_of w)
  where
    go : (lw : Option (Text × Option Text)) → After (step_by t gs ph w lw) (λ s. IsGood t s.0 s.1)
    go None = value_good t gs ph w (is_value w) g
    go (Some p) = opened_good t (settle gs ph) p.0 p.1 (lookup p.0 t) (settle_good t gs ph g) refl

pub run_good : (t : Table) (ws : List Text) (gs : List Given) (ph : Phase) → IsGood t gs ph → After (run t ws gs ph) (λ g. Good t g)
run_good t [] gs ph g = settle_good t gs ph g
run_good t (w ∷ ws) gs ph g = go (step t gs ph w) (step_good t gs ph w g) (λ h p k. run_good t ws h p k)
  where
    go : (o : Option State) → After o (λ s. IsGood t s.0 s.1) → ((h : List Given) (p : Phase) → IsGood t h p → After (run t ws h p) (λ g. Good t g))
        → After (then_run o (λ s. run t ws s.0 s.1)) (λ g. Good t g)
    go None a more = tt
    go (Some s) a more = more s.0 s.1 a

-- ---- completeness

-- a use of the table's option, whose words are read as they are written
abbrev pub IsUse : Table → Use → Type 0
IsUse t (flag n) = (lookup n t ≡ Some false) × (long_of (word_by n None) ≡ Some (n, None))
IsUse t (joined n v) = (lookup n t ≡ Some true) × (long_of (word_by n (Some v)) ≡ Some (n, Some v))
IsUse t (apart n v) = (lookup n t ≡ Some true) × (long_of (word_by n None) ≡ Some (n, None)) × (long_of v ≡ None) × (is_value v ≡ true)
    × (bytes_eq v (45 ∷ 45 ∷ []) ≡ false)

abbrev pub AreUses : Table → List Use → Type 0
AreUses t [] = Unit {0}
AreUses t (u ∷ us) = IsUse t u × AreUses t us

once_has : (g : List Given) (x : Given) (rest : List Given) → Once (g ++ x ∷ rest) → has x.0 g ≡ false
once_has [] x rest o = refl
once_has (y ∷ g) x rest o = go (bytes_eq y.0 x.0) refl (once_has g x rest o.1)
  where
    found : (m n : Text) (g : List Given) (v : Option Text) → bytes_eq n m ≡ true → is_some (lookup m (g ++ (n, v) ∷ rest)) ≡ true
    found m n [] v e = rw e refl
    found m n (z ∷ zs) v e = step (bytes_eq z.0 m) (found m n zs v e)
      where
        step : (b : Bool) → is_some (lookup m (zs ++ (n, v) ∷ rest)) ≡ true → is_some (if b then Some z.1 else lookup m (zs ++ (n, v) ∷ rest)) ≡ true
        step true h = refl
        step false h = h

    go : (b : Bool) → bytes_eq y.0 x.0 ≡ b → has x.0 g ≡ false → is_some (if b then Some y.1 else lookup x.0 g) ≡ false
    go true e h = absurd (true≢false (sym (found y.0 x.0 g x.1 (ap (λ (a : Text). bytes_eq x.0 a) (same y.0 x.0 e) ∙ eq_self x.0)) ∙ ap is_some o.0))
    go false e h = h

pub reads : (t : Table) (us : List Use) (gs g : List Given) (ph : Phase) → settle gs ph ≡ Some g → Once (g ++ map given_by us) → AreUses t us
    → run t (flat_map words_of us) gs ph ≡ Some (g ++ map given_by us)
reads t [] gs g ph s o a = s ∙ ap Some (sym (append-nil g))
reads t (flag n ∷ us) gs g ph s o a = rw (a.0.1, s, a.0.0, once_has g (n, None) (map given_by us) o)
    (reads t us (g ++ (n, None) ∷ []) (g ++ (n, None) ∷ []) clean refl
    (subst Once (sym (append_assoc g ((n, None) ∷ []) (map given_by us))) o) a.1 ∙ ap Some (append_assoc g ((n, None) ∷ []) (map given_by us)))
reads t (joined n v ∷ us) gs g ph s o a = rw (a.0.1, s, a.0.0, once_has g (n, Some v) (map given_by us) o)
    (reads t us (g ++ (n, Some v) ∷ []) (g ++ (n, Some v) ∷ []) clean refl
    (subst Once (sym (append_assoc g ((n, Some v) ∷ []) (map given_by us))) o) a.1 ∙ ap Some (append_assoc g ((n, Some v) ∷ []) (map given_by us)))
reads t (apart n v ∷ us) gs g ph s o a =
    let free : has n g ≡ false = once_has g (n, Some v) (map given_by us) o in
    rw (a.0.1, s, a.0.0, a.0.2, a.0.3) (reads t us g (g ++ (n, Some v) ∷ []) (held n v) (rw free refl)
    (subst Once (sym (append_assoc g ((n, Some v) ∷ []) (map given_by us))) o) a.1 ∙ ap Some (append_assoc g ((n, Some v) ∷ []) (map given_by us)))

-- ---- what the code knows

pub dashes_map : (ws : List (Bor Text)) → has_dashes (map (λ w. w.now) ws) ≡ list_any (λ w. bytes_eq w.now (codes "--")) ws
dashes_map [] = refl
dashes_map (w ∷ ws) = ap (λ b. bytes_eq w.now (codes "--") || b) (dashes_map ws)

both : (a b : Bool) → (a && b) ≡ true → (a ≡ true) × (b ≡ true)
both true b e = (refl, e)
both false b e = absurd (true≢false (sym e))

pub is_simple_of : (a : App) → is_simple_and_free a ≡ true → is_simple a ≡ true
is_simple_of a e = (both (is_simple a) (is_free_app (built a)) e).0

no_dashes : (w : Text) (p : Text × Option Text) → long_of w ≡ Some p → bytes_eq w (45 ∷ 45 ∷ []) ≡ false
no_dashes w p e = go (bytes_eq w (45 ∷ 45 ∷ [])) refl
  where
    go : (b : Bool) → bytes_eq w (45 ∷ 45 ∷ []) ≡ b → b ≡ false
    go true k = let bad : None ≡ Some p = ap long_of (sym (same w (45 ∷ 45 ∷ []) k)) ∙ e in absurd cc
    go false k = refl

or_none : (a b : Bool) → a ≡ false → b ≡ false → (a || b) ≡ false
or_none a b e f = rw e f

pub uses_free : (t : Table) (us : List Use) → AreUses t us → has_dashes (flat_map words_of us) ≡ false
uses_free t [] a = refl
uses_free t (flag n ∷ us) a = or_none (bytes_eq (word_by n None) (45 ∷ 45 ∷ [])) (has_dashes (flat_map words_of us))
    (no_dashes (word_by n None) (n, None) a.0.1) (uses_free t us a.1)
uses_free t (joined n v ∷ us) a = or_none (bytes_eq (word_by n (Some v)) (45 ∷ 45 ∷ [])) (has_dashes (flat_map words_of us))
    (no_dashes (word_by n (Some v)) (n, Some v) a.0.1) (uses_free t us a.1)
uses_free t (apart n v ∷ us) a = or_none (bytes_eq (word_by n None) (45 ∷ 45 ∷ [])) (bytes_eq v (45 ∷ 45 ∷ []) || has_dashes (flat_map words_of us))
    (no_dashes (word_by n None) (n, None) a.0.1)
    (or_none (bytes_eq v (45 ∷ 45 ∷ [])) (has_dashes (flat_map words_of us)) a.0.4 (uses_free t us a.1))

-- each way to write an option that is asked for is one of the table's uses
abbrev pub AreAskable : Table → List Given → Type 0
AreAskable t asked = (name : Text) (x : Option Text) → lookup name asked ≡ Some x → (u : Use) → given_by u ≡ (name, x) → IsUse t u

pub uses_ok : (t : Table) (asked : List Given) → AreAskable t asked → (us : List Use) → Once (map given_by us)
    → ((name : Text) (x : Option Text) → lookup name (map given_by us) ≡ Some x → lookup name asked ≡ Some x) → AreUses t us
uses_ok t asked q [] o s = tt
uses_ok t asked q (u ∷ us) o s = (
  q (given_by u).0 (given_by u).1 (s (given_by u).0 (given_by u).1 (rw (eq_self (given_by u).0) refl)) u refl,
  uses_ok t asked q us o.1 (λ name x e. s name x (go name x e (bytes_eq (given_by u).0 name) refl)),
)
  where
    go : (name : Text) (x : Option Text) → lookup name (map given_by us) ≡ Some x → (b : Bool) → bytes_eq (given_by u).0 name ≡ b
        → (if b then Some (given_by u).1 else lookup name (map given_by us)) ≡ Some x
    go name x e true k = let bad : None ≡ Some x = sym o.0 ∙ ap (λ (m : Text). lookup m (map given_by us)) (same (given_by u).0 name k) ∙ e in absurd cc
    go name x e false k = e
